-- A V, t times: after each turn that can be played, what is left to play are the other turns, from the state that the pins show.
use Prim.Native.Nat.{ℕ, suc, ◌+◌, ◌-◌, ◌≤◌, ◌<◌}
use native.Mathlib.Omega.{arith}
use mathlib.Core.Path.{◌≡◌, sym, ap, ◌∙◌, subst}
use mathlib.Core.Bool.{Bool, true, false, not, true≢false}
use mathlib.Core.List.{List}
use lib.ListN.{length, get_or, take, drop, length-take}
use lib.Seq.{get_or-take}
use borrow.Author.Tests.{not-true, not-false}
use Rattle.meaning.specs.Bounds.{signals_most, tables_most}
use Rattle.meaning.specs.Timing.{Tables}
use Rattle.meaning.specs.Body.{Assigns}
use Rattle.meaning.specs.Run.{State, Played, puts, cycle_at, again}
use Rattle.meaning.specs.Meaning.{all_waves, table_at, playable, first_failing}
use Rattle.timing.specs.Held.{Held}
use Rattle.measures.specs.Uses.{Given}
use Rattle.pins.specs.Shown.{Shows, Playable, Told, vector, Advances}
use Rattle.pins.proofs.Search.{fine, waves_here, waves_next, waves_end, turn_fails, turn_passes, turn_state, turns_pass, turns_state, turns_end, no_table, a_table}
use Rattle.pins.proofs.Callers.{table_some, table_none, playable_puts, playable_turns}
use Rattle.pins.proofs.Advancing.{ahead_playable}

-- ---- the signals of a cycle

-- the first s of them have their waveforms
pub record Searched (waves values : List ℕ) (signals table s : ℕ) : Type 0 where
  pub same : (text tplaces : List ℕ) (tables : ℕ) (tabs : Tables) → Held text tplaces waves tables tabs
      → all_waves 0 (take signals values) (table_at tabs table) ≡ all_waves s (drop s (take signals values)) (table_at tabs table)

-- have all
pub record Waved (waves values : List ℕ) (signals table : ℕ) (b : Bool) : Type 0 where
  pub is : (text tplaces : List ℕ) (tables : ℕ) (tabs : Tables) → Held text tplaces waves tables tabs
      → all_waves 0 (take signals values) (table_at tabs table) ≡ b

-- what is told of signal s
abbrev pub Lacks : List ℕ → List ℕ → ℕ → ℕ → Bool → Type 0
Lacks waves values table s r = (text tplaces : List ℕ) (tables : ℕ) (tabs : Tables) → Held text tplaces waves tables tabs
    → r ≡ not (fine s (get_or values s 0) (table_at tabs table))

module _ {waves values : List ℕ} {signals table s : ℕ} (x : Searched waves values signals table s) (room : signals ≤ length values) where
  wide : length (take signals values) ≡ signals
  wide = omega (arith, length-take signals values)

  module _ (h : s < signals) {r : Bool} (l : Lacks waves values table s r) where
    told : {text tplaces : List ℕ} {tables : ℕ} {tabs : Tables} → Held text tplaces waves tables tabs
        → r ≡ not (fine s (get_or (take signals values) s 0) (table_at tabs table))
    told {text} {tplaces} {tables} {tabs} k = l text tplaces tables tabs k ∙ ap (λ (c : ℕ). not (fine s c (table_at tabs table))) (sym (get_or-take signals values s 0 h))

    pub searched_next : r ≡ false → Searched waves values signals table (s + 1)
    searched_next e =
        record {
          same = λ text tplaces tables tabs k.
              x.same text tplaces tables tabs k
              ∙ waves_next (take signals values) (table_at tabs table) s (omega (arith, wide)) (not-false _ (sym (told k) ∙ e));
        }

    pub searched_lacks : r ≡ true → Waved waves values signals table false
    searched_lacks e =
        record {
          is = λ text tplaces tables tabs k.
              x.same text tplaces tables tabs k
              ∙ waves_here (take signals values) (table_at tabs table) s (omega (arith, wide)) (not-true _ (sym (told k) ∙ e));
        }

  pub searched_all : signals ≤ s → Waved waves values signals table true
  searched_all h =
      record {
        is = λ text tplaces tables tabs k.
            x.same text tplaces tables tabs k ∙ waves_end (take signals values) (table_at tabs table) s (omega (arith, wide));
      }

-- ---- the turns

-- playing on is playing the whole
pub record Midway (text : List ℕ) (signals : ℕ) (values : List ℕ) (table : ℕ) (feeds : List ℕ) (level : ℕ) (tabs : Tables) (p : ℕ) (a : Assigns) (n : ℕ) (whole : Played) : Type 0 where
  pub state : State
  pub shows : Shows text signals values table feeds level state
  pub playable_as : Playable signals a state.args
  pub fails_as : first_failing tabs whole.1 ≡ first_failing tabs (again n (vector p a) state).1
  pub ends_as : whole.0 ≡ (again n (vector p a) state).0

module _ {text : List ℕ} {signals : ℕ} {values : List ℕ} {table : ℕ} {feeds : List ℕ} {level : ℕ} {tabs : Tables} {p : ℕ} {a : Assigns} {whole : Played} where
  -- a turn is played, and k more that can be played
  midway_more : (k : ℕ) {n : ℕ} (m : Midway text signals values table feeds level tabs p a (suc (k + n)) whole) → {values' feeds' : List ℕ}
      → Shows text signals values' table feeds' level (again k (vector p a) (puts a m.state)).0
      → playable tabs (cycle_at p (puts a m.state)) ≡ true
      → ((i : ℕ) → i < k → playable tabs (cycle_at p (puts a (again i (vector p a) (puts a m.state)).0)) ≡ true)
      → Midway text signals values' table feeds' level tabs p a n whole
  midway_more k {n} m h e more =
      record {
        state = (again k (vector p a) (puts a m.state)).0;
        shows = h;
        playable_as = playable_turns k p a (puts a m.state) (playable_puts a m.state m.playable_as);
        fails_as = m.fails_as ∙ turn_passes tabs p a (k + n) m.state e ∙ turns_pass tabs p a k n (puts a m.state) more;
        ends_as = m.ends_as ∙ turn_state tabs p a (k + n) m.state ∙ turns_state tabs p a k n (puts a m.state);
      }

  midway_fails : {n : ℕ} (m : Midway text signals values table feeds level tabs p a (suc n) whole) → {values' feeds' : List ℕ}
      → playable tabs (cycle_at p (puts a m.state)) ≡ false → Told tabs text signals values' table feeds' level true p whole
  midway_fails {n} m e =
      record {
        fails = λ t. m.fails_as ∙ turn_fails tabs p a n m.state e;
        sound = λ t. absurd (true≢false t);
        shows = λ t. absurd (true≢false t);
      }

  midway_ends : Midway text signals values table feeds level tabs p a 0 whole → Told tabs text signals values table feeds level false p whole
  midway_ends m =
      let e = turns_end tabs p a m.state in
      record {
        fails = λ t. absurd (true≢false (sym t));
        sound = λ t. m.fails_as ∙ e.0;
        shows = λ t. subst (Shows text signals values table feeds level) (sym (m.ends_as ∙ e.1)) m.shows;
      }

-- ---- whatever the V, the state and the tables are

-- what holds of its t turns
abbrev pub Whatever : List ℕ → List ℕ → List ℕ → List ℕ → List ℕ → ℕ → ℕ → ℕ → ℕ → (Tables → ℕ → Assigns → Played → Type 0) → Type 0
Whatever text given waves values feeds level signals table t P = (a : Assigns) (s : State) (tplaces : List ℕ) (tables p : ℕ) (tabs : Tables)
    → Held text tplaces waves tables tabs → Given a given → Playable signals a s.args → Shows text signals values table feeds level s
    → P tabs p a (again t (vector p a) s)

-- i of them have been played
pub record After (text given waves values feeds : List ℕ) (level signals table t i : ℕ) (values' feeds' : List ℕ) : Type 0 where
  pub midway : Whatever text given waves values feeds level signals table t (λ tabs p a y. Midway text signals values' table feeds' level tabs p a (t - i) y)

pub after_none : {text given waves values feeds : List ℕ} {level signals table t : ℕ} → After text given waves values feeds level signals table t 0 values feeds
after_none {t = t} =
    let e : t ≡ t - 0 = omega arith in
    record {
      midway = λ a s tplaces tables p tabs d g k h. record {
        state = s;
        shows = h;
        playable_as = k;
        fails_as = ap (λ (n : ℕ). first_failing tabs (again n (vector p a) s).1) e;
        ends_as = ap (λ (n : ℕ). (again n (vector p a) s).0) e;
      };
    }

module _ {text given waves values feeds : List ℕ} {level signals table t i : ℕ} {values' feeds' : List ℕ}
    (x : After text given waves values feeds level signals table t i values' feeds') where
  -- with n more
  turn : {n : ℕ} → t - i ≡ n
      → Whatever text given waves values feeds level signals table t (λ tabs p a y. Midway text signals values' table feeds' level tabs p a n y)
  turn e a s tplaces tables p tabs d g k h =
      subst (λ (n : ℕ). Midway text signals values' table feeds' level tabs p a n (again t (vector p a) s)) e (x.midway a s tplaces tables p tabs d g k h)

  pub after_all : i ≡ t → Whatever text given waves values feeds level signals table t (λ tabs p a y. Told tabs text signals values' table feeds' level false p y)
  after_all e a s tplaces tables p tabs d g k h = midway_ends (turn (omega arith) a s tplaces tables p tabs d g k h)

  -- the next turn assigns
  module _ {values'' feeds'' : List ℕ} (more : i < t)
      (put : (a : Assigns) (s : State) (table : ℕ) → Given a given → Playable signals a s.args → Shows text signals values' table feeds' level s
      → Shows text signals values'' table feeds'' level (puts a s)) where
    -- its cycle shows these pins
    abbrev Cycles : Bool → Type 0
    Cycles b = (tplaces : List ℕ) (tables p : ℕ) (tabs : Tables) (s : State) → Held text tplaces waves tables tabs
        → Shows text signals values'' table feeds'' level s → playable tabs (cycle_at p s) ≡ b

    next : t - i ≡ suc (t - (i + 1))
    next = omega arith

    next_and : (k : ℕ) → k ≤ t - i - 1 → t - i ≡ suc (k + (t - (i + (1 + k))))
    next_and k h = omega arith

    after_fails : Cycles false → Whatever text given waves values feeds level signals table t (λ tabs p a y. Told tabs text signals values'' table feeds'' level true p y)
    after_fails c a s tplaces tables p tabs d g k h =
        let m = turn next a s tplaces tables p tabs d g k h in
        midway_fails m (c tplaces tables p tabs _ d (put a m.state table g m.playable_as m.shows))

    -- without a table
    pub after_no_table : tables_most ≤ table
        → Whatever text given waves values feeds level signals table t (λ tabs p a y. Told tabs text signals values'' table feeds'' level true p y)
    after_no_table h = after_fails (λ tplaces tables p tabs s d l. no_table tabs p s (l.table_is ∙ table_none table h))

    module _ (h : table < tables_most) where
      -- with one
      cycles : {b : Bool} → Waved waves values'' signals table b → Cycles b
      cycles w tplaces tables p tabs s d l =
          a_table tabs p s table (l.table_is ∙ table_some table h) ∙ ap (λ (pins : List ℕ). all_waves 0 pins (table_at tabs table)) l.pins_are
          ∙ w.is text tplaces tables tabs d

      -- it and k turns more
      pub after_searched : Waved waves values'' signals table true → signals ≤ signals_most → signals ≤ length values'' → {k : ℕ} {values''' feeds''' : List ℕ}
          → Advances text given values'' feeds'' waves level signals table (t - i - 1) k values''' feeds'''
          → After text given waves values feeds level signals table t (i + (1 + k)) values''' feeds'''
      after_searched w few room {k} y =
          record {
            midway = λ a s tplaces tables p tabs d g q z.
                let m = turn (next_and k y.ahead.few) a s tplaces tables p tabs d g q z in
                let l = put a m.state table g m.playable_as m.shows in
                let u = playable_puts a m.state m.playable_as in
                let all = ap (λ (pins : List ℕ). all_waves 0 pins (table_at tabs table)) l.pins_are ∙ w.is text tplaces tables tabs d in
                midway_more k m (y.shows a (puts a m.state) table p g u l) (cycles w tplaces tables p tabs _ d l)
                (ahead_playable h few d g m.state u l room all y.ahead p);
          }

      pub after_lacks : Waved waves values'' signals table false
          → Whatever text given waves values feeds level signals table t (λ tabs p a y. Told tabs text signals values'' table feeds'' level true p y)
      after_lacks w = after_fails (cycles w)
