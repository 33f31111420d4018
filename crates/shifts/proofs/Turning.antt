-- A Shift's turns from the one entered on: after each, whoever goes through the cycles of the turns left has gone through all.
use Prim.Native.Nat.{ℕ, suc, ◌+◌, ◌-◌, ◌≤◌, ◌<◌}
use native.Mathlib.Nat.{sub-zero}
use native.Mathlib.Omega.{arith}
use mathlib.Core.Path.{◌≡◌, refl, sym, ap, ◌∙◌, subst}
use mathlib.Core.Bool.{Bool, true, false, ◌&&◌, true≢false}
use mathlib.Core.List.{List, [], ◌∷◌, ◌++◌}
use lib.Dec.{leb}
use lib.ListN.{length, take}
use borrow.Author.Tests.{lt-leb}
use Rattle.meaning.specs.Body.{Assigns}
use Rattle.meaning.specs.Run.{State, Cycle, Played, puts, cycle_at, follow, again}
use Rattle.meaning.proofs.Rows.{length_again}
use Rattle.walks.specs.Turns.{skipped}
use Rattle.walks.proofs.Loops.{again_add}
use Rattle.walks.proofs.Shifts.{turns_skipped, shift_left, skipped_supplied}
use Rattle.measures.specs.Uses.{Given}
use Rattle.pins.specs.Shown.{table_of, Shows, Playable, Others, Skips, vector}
use Rattle.pins.proofs.Callers.{playable_puts, others_none, others_then}
use Rattle.rows.specs.declared.Walk.{Walk}
use Rattle.rows.specs.Went.{over, spends, past, spent, Going, Went, Cycled}
use Rattle.rows.proofs.Going.{went_spent, went_both, went_over, went_from, going_on, going_past}
use Rattle.shifts.specs.Shifts.{Shifting}

-- ---- the walk before a cycle that is not passed

-- no cycles are to be passed, and there is enough for the next one
pub record Due (signals : ℕ) (w : Walk) (buffer : List ℕ) : Type 0 where
  pub going : Going signals w buffer
  pub next : w.pass ≡ 0
  pub enough : w.walking ≡ true → 1 ≤ w.budget

-- what is told of that cycle, which the pins and the table have
abbrev pub Cycling : ℕ → List ℕ → ℕ → Walk → Walk → List ℕ → List ℕ → Type 0
Cycling signals values table w w' before after = (c : Cycle) → Cycled signals values table c → Went signals (c ∷ []) 1 w w' before after

not_passed : (n : ℕ) → n ≡ 0 → leb 1 n ≡ false
not_passed n e = lt-leb 1 n (omega arith)

-- all cycles that are to be passed are
pub due_past : {signals : ℕ} {w w₀ : Walk} {buffer : List ℕ} → w₀ ≡ past w w.pass → Going signals w buffer → (w.walking ≡ true → 1 ≤ w.budget)
    → Due signals w₀ buffer
due_past {signals} {w} {buffer = buffer} is g e =
    subst (λ (v : Walk). Due signals v buffer) (sym is) (record { going = going_past g w.pass (omega arith); next = omega arith; enough = e })

module _ {signals table : ℕ} {values : List ℕ} {w w' : Walk} {before after : List ℕ} (cycles : Cycling signals values table w w' before after) where
  -- some cycle is so
  some : Went signals (record { at = 0; table = table_of table; pins = take signals values } ∷ []) 1 w w' before after
  some = cycles _ (record { pins_are = refl; table_is = refl })

  pub cycling_long : length after ≡ length before
  cycling_long = some.long

  module _ (d : Due signals w before) where
    -- the cycle looked for is reached
    pub cycling_reached : w'.walking ≡ false
    cycling_reached = some.walking ∙ by w.walking
      where
        by : (k : Bool) → (k && leb 1 w.pass) ≡ false
        by true = not_passed w.pass d.next
        by false = refl

    pub cycling_due : over w' ≡ false → Due signals w' after
    cycling_due more =
        let g = going_on d.going some more in
        record { going = g; next = g.reached cycling_reached; enough = λ e. absurd (true≢false (sym e ∙ cycling_reached)) }

-- ---- the turns of one V

-- n turns are left from a state that the pins show, and whoever goes through their cycles from w has gone through all of `whole` from w₀
pub record Midway (text : List ℕ) (signals : ℕ) (values : List ℕ) (table : ℕ) (feeds : List ℕ) (level : ℕ) (w : Walk) (buffer : List ℕ) (p : ℕ) (a : Assigns) (n : ℕ) (w₀ : Walk) (before : List ℕ) (whole : Played) : Type 0 where
  pub state : State
  pub shows : Shows text signals values table feeds level state
  pub playable_as : Playable signals a state.args
  pub goes_as : (w' : Walk) (after : List ℕ) → Went signals (again n (vector p a) state).1 1 w w' buffer after → Went signals whole.1 1 w₀ w' before after
  pub ends_as : whole.0 ≡ (again n (vector p a) state).0

module _ {text : List ℕ} {signals : ℕ} {values : List ℕ} {table : ℕ} {feeds : List ℕ} {level : ℕ} {w : Walk} {buffer : List ℕ} {p : ℕ} {a : Assigns} {w₀ : Walk} {before : List ℕ} {whole : Played}
  where
    module _ {n : ℕ} (m : Midway text signals values table feeds level w buffer p a (suc n) w₀ before whole) (next : w.pass ≡ 0) {values' feeds' : List ℕ}
        (h : Shows text signals values' table feeds' level (puts a m.state)) {w' : Walk} {after : List ℕ} (cycles : Cycling signals values' table w w' buffer after)
      where
        abbrev cycle : Cycle
        cycle = cycle_at p (puts a m.state)

        gone : Went signals (cycle ∷ []) 1 w w' buffer after
        unfolding cycle_at
        gone = cycles _ (record { pins_are = h.pins_are; table_is = h.table_is })

        -- the cycles behind it cost nothing
        only : {l : List Cycle} {w'' : Walk} {end : List ℕ} → Went signals l (1 + spends (leb 1 w.pass) 1) w w'' buffer end → Went signals l 1 w w'' buffer end
        only {l} {w''} {end} x = subst (λ (k : Bool). Went signals l (1 + spends k 1) w w'' buffer end) (not_passed w.pass next) x

        midway_more : over w' ≡ false → Midway text signals values' table feeds' level w' after p a n w₀ before whole
        unfolding again follow
        midway_more more =
            record {
              state = puts a m.state;
              shows = h;
              playable_as = playable_puts a m.state m.playable_as;
              goes_as = λ w'' end q. m.goes_as w'' end (only (went_both gone more q));
              ends_as = m.ends_as;
            }

        midway_over : over w' ≡ true → Went signals whole.1 1 w₀ w' before after
        unfolding again follow
        midway_over ended = m.goes_as w' after (only (went_over gone ended (again n (vector p a) (puts a m.state)).1 1))

    module _ (m : Midway text signals values table feeds level w buffer p a 0 w₀ before whole) where
      -- nothing is spent behind the cycle looked for
      unspent : w.walking ≡ false → spent w 1 ≡ w
      unspent e =
          let b : w.budget - spends w.walking 1 ≡ w.budget = rw e (sub-zero w.budget) in
          ap (λ (k : ℕ). record { pass = w.pass; row = w.row; show = w.show; budget = k; walking = w.walking; mark = w.mark }) b

      midway_went : over w ≡ false → w.walking ≡ false → Went signals whole.1 1 w₀ w before buffer
      unfolding again
      midway_went more e =
          m.goes_as w buffer (subst (λ (r : Walk). Went signals [] 1 w r buffer buffer) (unspent e) (went_spent w 1 buffer more (λ k. absurd (true≢false (sym k ∙ e)))))

      midway_shows : Shows text signals values table feeds level whole.0
      unfolding again
      midway_shows = subst (Shows text signals values table feeds level) (sym m.ends_as) m.shows

-- ---- whatever the V and the state are

-- what holds of n turns
abbrev Whatever : List ℕ → List ℕ → List ℕ → List ℕ → ℕ → ℕ → ℕ → ℕ → (ℕ → Assigns → Played → Type 0) → Type 0
Whatever text given values feeds level signals table n P = (a : Assigns) (s : State) (p : ℕ) → Given a given → Playable signals a s.args
    → Shows text signals values table feeds level s → P p a (again n (vector p a) s)

-- of t turns, from turn i₀ on, those before turn i were gone through
pub record After (text given values₀ feeds₀ : List ℕ) (level signals table t i₀ : ℕ) (w₀ : Walk) (before : List ℕ) (i : ℕ) (values feeds : List ℕ) (w : Walk) (buffer : List ℕ) : Type 0 where
  pub others : Others level values₀ values feeds₀ feeds
  pub long : length buffer ≡ length before
  pub due : Due signals w buffer
  pub reached : i₀ < i → w.walking ≡ false
  pub midway : Whatever text given values₀ feeds₀ level signals table (t - i₀) (λ p a y. Midway text signals values table feeds level w buffer p a (t - i) w₀ before y)

module _ {text given values₀ feeds₀ : List ℕ} {level signals table t i₀ : ℕ} {w₀ : Walk} {before : List ℕ} where
  pub after_none : Due signals w₀ before → After text given values₀ feeds₀ level signals table t i₀ w₀ before i₀ values₀ feeds₀ w₀ before
  after_none d = record {
    others = others_none;
    long = refl;
    due = d;
    reached = λ h. absurd (omega arith);
    midway = λ a s p g k h. record { state = s; shows = h; playable_as = k; goes_as = λ w' after q. q; ends_as = refl };
  }

  module _ {i : ℕ} {values feeds : List ℕ} {w : Walk} {buffer : List ℕ} (x : After text given values₀ feeds₀ level signals table t i₀ w₀ before i values feeds w buffer)
    where
      -- with n more
      turn : {n : ℕ} → t - i ≡ n
          → Whatever text given values₀ feeds₀ level signals table (t - i₀) (λ p a y. Midway text signals values table feeds level w buffer p a n w₀ before y)
      turn e a s p g k h =
          subst (λ (n : ℕ). Midway text signals values table feeds level w buffer p a n w₀ before (again (t - i₀) (vector p a) s)) e (x.midway a s p g k h)

      pub after_all : i₀ < t → t ≤ i → Shifting text given signals level table (t - i₀) values₀ values feeds₀ feeds w₀ w before buffer
      after_all some all =
          let e : t - i ≡ 0 = omega arith in
          record {
            went = λ a s p g k h. midway_went (turn e a s p g k h) x.due.going.more (x.reached (omega arith));
            shows = λ a s p g k h o. midway_shows (turn e a s p g k h);
          }

      -- the next turn
      module _ (inside : i < t) {values' feeds' : List ℕ} (kept : Others level values values' feeds feeds')
          (put : (a : Assigns) (s : State) (table : ℕ) → Given a given → Playable signals a s.args → Shows text signals values table feeds level s
          → Shows text signals values' table feeds' level (puts a s))
          {w' : Walk} {after : List ℕ} (cycles : Cycling signals values' table w w' buffer after) where
        one : t - i ≡ suc (t - (i + 1))
        one = omega arith

        pub after_more : over w' ≡ false → After text given values₀ feeds₀ level signals table t i₀ w₀ before (i + 1) values' feeds' w' after
        after_more more = record {
          others = others_then x.others kept;
          long = cycling_long cycles ∙ x.long;
          due = cycling_due cycles x.due more;
          reached = λ h. cycling_reached cycles x.due;
          midway = λ a s p g k h.
              let m = turn one a s p g k h in midway_more m x.due.next (put a m.state table g m.playable_as m.shows) cycles more;
        }

        -- nothing is left to do
        pub after_over : over w' ≡ true → Shifting text given signals level table (t - i₀) values₀ values' feeds₀ feeds' w₀ w' before after
        after_over ended =
            record {
              went = λ a s p g k h.
                  let m = turn one a s p g k h in midway_over m x.due.next (put a m.state table g m.playable_as m.shows) cycles ended;
              shows = λ a s p g k h o. absurd (true≢false (sym ended ∙ o));
            }

-- ---- behind the characters that were passed

module _ {text given : List ℕ} {signals level table t : ℕ} {values values' feeds feeds' feeds'' : List ℕ} {w w₀ w' : Walk} {before after : List ℕ}
    (skips : Skips text given signals level w.pass values feeds feeds') (is : w₀ ≡ past w w.pass) (inside : w.pass < t)
    (x : Shifting text given signals level table (t - w.pass) values values' feeds' feeds'' w₀ w' before after) where
  module _ (a : Assigns) (s : State) (p : ℕ) (g : Given a given) (k : Playable signals a s.args) (h : Shows text signals values table feeds level s) where
    abbrev there : State
    there = skipped w.pass a s

    playable_there : Playable signals a there.args
    playable_there = record { below = k.below; fed = rw (skipped_supplied w.pass a s) k.fed }

    abbrev first : List Cycle
    first = (again w.pass (vector p a) s).1

    cycles_there : (again t (vector p a) s).1 ≡ first ++ (again (t - w.pass) (vector p a) there).1
    unfolding follow
    cycles_there =
        let e : t ≡ w.pass + (t - w.pass) = omega arith in
        ap (λ (j : ℕ). (again j (vector p a) s).1) e
        ∙ ap (λ (y : Played). y.1) (again_add (vector p a) w.pass (t - w.pass) s)
        ∙ ap (λ (y : Played). first ++ y.1) (turns_skipped p a t w.pass s inside)

    went_there : Went signals (again t (vector p a) s).1 1 w w' before after
    went_there =
        let long : length first ≡ w.pass = omega (arith, length_again w.pass 1 (vector p a) s (λ u. refl)) in
        let y = x.went a there p g playable_there (skips.shows a s table g k h) in
        subst (λ (l : List Cycle). Went signals l 1 w w' before after) (sym cycles_there)
        (went_from first (omega arith)
        (subst (λ (v : Walk). Went signals (again (t - w.pass) (vector p a) there).1 1 v w' before after) (is ∙ ap (past w) (sym long)) y))

    shows_there : over w' ≡ false → Shows text signals values' table feeds'' level (again t (vector p a) s).0
    shows_there o =
        subst (Shows text signals values' table feeds'' level) (sym (shift_left p a t w.pass s inside))
        (x.shows a there p g playable_there (skips.shows a s table g k h) o)

  pub shifting_all : Shifting text given signals level table t values values' feeds feeds'' w w' before after
  shifting_all = record { went = went_there; shows = shows_there }
