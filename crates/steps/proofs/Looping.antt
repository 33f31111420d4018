-- A Loop: passed with all its turns; or entered in the turn that has the cycle looked for, in the state that one turn leaves.
use Prim.Native.Nat.{ℕ, zero, suc, ◌+◌, ◌*◌, ◌-◌, ◌/◌, ◌%◌, ◌≤◌, ◌<◌}
use native.Mathlib.Nat.{one-mul, le-mul_of_pos_right, mul-le-mul_right, mod-lt, mod-eq-sub-div-mul, div-mul-le_self}
use native.Mathlib.Omega.{arith}
use mathlib.Core.Path.{◌≡◌, refl, sym, ap, ◌∙◌, subst}
use mathlib.Core.Bool.{true, false}
use mathlib.Core.Option.{none}
use mathlib.Core.List.{List}
use lib.ListN.{length}
use Rattle.tokens.specs.Tokens.{Toks}
use Rattle.meaning.specs.Bounds.{size_most, cycles_most}
use Rattle.meaning.specs.Timing.{Tables}
use Rattle.meaning.specs.Body.{looped, Body}
use Rattle.meaning.specs.Run.{State, size, cycles, turns_of, shift_of, visits, again, playing, play}
use Rattle.meaning.specs.Meaning.{first_failing}
use Rattle.meaning.specs.Statements.{Env}
use Rattle.meaning.proofs.Turns.{Plain, sound_parts, loop_left}
use Rattle.meaning.proofs.Rows.{length_play, length_again}
use Rattle.turns.specs.Few.{loop_few, play_few}
use Rattle.walks.specs.Statement.{played_in, cycles_in}
use Rattle.walks.specs.Turns.{begins}
use Rattle.walks.proofs.Loops.{some_cycles, turn_below, loop_begins, loop_behind}
use Rattle.measures.specs.declared.Measure.{Measure}
use Rattle.measures.specs.Measures.{Measures}
use Rattle.measures.proofs.Within.{size_within}
use Rattle.plays.specs.declared.Played.{Played}
use Rattle.plays.specs.Plays.{Ground, Arrays, arrays, Showing, Standing, Plays}
use Rattle.loops.specs.Held.{tables, Standing as Measurable}
use Rattle.loops.proofs.Exact.{plain_exact}
use Rattle.rows.specs.declared.Walk.{Walk}
use Rattle.rows.specs.Went.{Going, spent, past, Went}
use Rattle.rows.proofs.Going.{went_from}
use Rattle.steps.specs.declared.Walked.{Walked}
use Rattle.steps.specs.Walks.{Ready, Walks, Turning, only}
use Rattle.steps.proofs.Passing.{Passed, only_left, only_cycles, only_sound, loop_told}
use Rattle.steps.proofs.Alone.{only_small, only_few, only_passed, only_affords, only_entered}
use Rattle.steps.proofs.Turning.{went_cost, turns_split, turn_standing}

-- ---- its body is held

module _ {g : Ground} {ts us : Toks} {more level table : ℕ} {E : Env} {b : Body} {s : State} where
  -- where it can be measured
  pub loop_measurable : {x : Arrays} → Standing g ts more level table x E b us s → Plain b
      → Measurable (tables g.text g.places g.lists g.tplaces g.book g.rows g.known g.signals) ts more E b us
  loop_measurable st plain = record {
    describes = st.holding.describes;
    tidy = st.holding.tidy;
    holds = st.holds;
    deep = st.fits.deep;
    levels = omega (arith, st.fits.levels);
    plain = plain;
  }

  -- whatever stands in the room for arguments
  pub standing_args : {values feeds args : List ℕ} (args' : List ℕ) → Standing g ts more level table (arrays values feeds args) E b us s
      → Standing g ts more level table (arrays values feeds args') E b us s
  standing_args args' st = record { holding = st.holding; holds = st.holds; fits = st.fits; shows = st.shows }

-- entered in the turn that has the cycle looked for; its body has k cycles
pub record Reaching (g : Ground) (ts : Toks) (more level table t n k : ℕ) (x : Arrays) (E : Env) (b : Body) (us : Toks) (s : State) (w : Walk) : Type 0 where
  pub standing : Standing g ts more level table x E b us s
  pub plain : Plain b
  pub cycles_are : cycles t b ≡ k
  pub within : w.pass < n * k
  pub few_cycles : n * k ≤ cycles_most
  pub small : size b ≤ size_most
  pub sound : first_failing E.tables (played_in t (looped n) b s).1 ≡ none
  pub pays : w.walking ≡ true → visits t b (w.pass % k) ≤ w.budget

-- ---- its measure

module _ {tabs : Tables} {t n : ℕ} {b : Body} {s : State} {w : Walk} {m : Measure} (ready : Ready tabs t (only (looped n) b) s w) (some : 0 < n) (plain : Plain b) (measured : Measures b m)
  where
    pub loop_size : 1 + size b ≡ m.size + 1
    loop_size = omega (arith, size_within measured (only_small ready))

    few : n * cycles t b ≤ cycles_most
    unfolding turns_of shift_of
    few = only_few ready

    pub loop_cycles : cycles t b ≡ m.cycles
    loop_cycles = let one : 1 * cycles t b ≤ n * cycles t b = mul-le-mul_right (cycles t b) some in sym (plain_exact measured plain t (omega (arith, few, one-mul (cycles t b))))

    loop_all : cycles_in t (looped n) b ≡ n * m.cycles
    unfolding turns_of shift_of
    loop_all = ap (λ (k : ℕ). n * k) loop_cycles

    pub loop_small : m.size ≤ size_most
    loop_small = omega (arith, loop_size, only_small ready)

    pub loop_few_lem : n * m.cycles ≤ cycles_most
    loop_few_lem = omega (arith, loop_all, only_few ready)

module _ {g : Ground} {ts us : Toks} {more level table t n : ℕ} {x : Arrays} {E : Env} {b : Body} {s : State} {w : Walk} {m : Measure}
    (st : Standing g ts more level table x E b us s) (plain : Plain b) (some : 0 < n) (ready : Ready E.tables t (only (looped n) b) s w) (measured : Measures b m) where
  pub loop_passed : {y : Arrays} {before : List ℕ} {r : Played} → Going g.signals w before → n * m.cycles ≤ w.pass → Plays g E.tables level y us r (loop_few n 0 (λ j. play_few j t b) s)
      → Walks g level y us (play t (only (looped n) b) s) (visits t (only (looped n) b) w.pass) w before before
      (record { cursor = r.cursor; table = r.table; walk = past (spent w (m.size + 1)) (n * m.cycles); ends = false })
  loop_passed going h p =
      let told = loop_told t n st plain (only_sound t (looped n) b s E.tables ready.sound) p in
      record {
        tells = record {
          went = only_passed ready (loop_size ready some plain measured) (loop_all ready some plain measured) going h;
          shows = λ _. rw (only_left t (looped n) b s) told.shows;
        };
        behind = λ _. p.behind told.sound;
      }

  module _ (h : w.pass < n * m.cycles) where
    inside : w.pass < cycles_in t (looped n) b
    inside = omega (arith, loop_all ready some plain measured)

    pub loop_reaching : Reaching g ts more level table t n m.cycles x E b us s (spent w (m.size + 1))
    unfolding shift_of
    loop_reaching = record {
      standing = st;
      plain = plain;
      cycles_are = loop_cycles ready some plain measured;
      within = h;
      few_cycles = loop_few_lem ready some plain measured;
      small = only_small ready;
      sound = only_sound t (looped n) b s E.tables ready.sound;
      pays = rw (← loop_cycles ready some plain measured) (only_affords ready (loop_size ready some plain measured) inside);
    }

    pub loop_entered : {y : Arrays} {before after : List ℕ} {r : Walked}
        → Walks g level y us (played_in t (looped n) b s) (visits t b (w.pass % m.cycles)) (spent w (m.size + 1)) before after r
        → Walks g level y us (play t (only (looped n) b) s) (visits t (only (looped n) b) w.pass) w before after r
    unfolding shift_of
    loop_entered p = record {
      tells = record {
        went = only_entered ready (loop_size ready some plain measured) inside (rw (loop_cycles ready some plain measured) p.tells.went);
        shows = λ q. rw (only_left t (looped n) b s) (p.tells.shows q);
      };
      behind = p.behind;
    }

-- ---- behind the cycle looked for its turns are gone through as they stand

module _ {g : Ground} {ts us : Toks} {more level table t n : ℕ} {x : Arrays} {E : Env} {b : Body} {s : State} {w : Walk}
    (st : Standing g ts more level table x E b us s) (plain : Plain b) (ready : Ready E.tables t (only (looped n) b) s w) (shown : w.walking ≡ false) where
  never : w.walking ≡ true → ⊥
  never e = let z : ◌≡◌ {A = ℕ} 0 1 = cc in omega arith

  pub loop_turning : Turning g ts more level table t n x E b us s w
  unfolding turns_of shift_of
  loop_turning = record {
    standing = st;
    plain = plain;
    within = λ e. absurd (never e);
    few_cycles = only_few ready;
    small = only_small ready;
    sound = only_sound t (looped n) b s E.tables ready.sound;
    pays = λ e. absurd (never e);
  }

  pub loop_shown : {y : Arrays} {before after : List ℕ} {r : Walked} → Walks g level y us (played_in t (looped n) b s) (visits t b w.pass) w before after r
      → Walks g level y us (play t (only (looped n) b) s) (visits t (only (looped n) b) w.pass) w before after r
  loop_shown p = record {
    tells = record {
      went = rw (only_cycles t (looped n) b s) (went_cost (λ e. absurd (never e)) p.tells.went);
      shows = λ q. rw (only_left t (looped n) b s) (p.tells.shows q);
    };
    behind = p.behind;
  }

-- ---- the turn that is entered

-- behind the first turn, and behind the Loop, the state is that which one turn leaves
begins_left : (t : ℕ) (b : Body) (j : ℕ) (s : State) → 0 < j → (play t b s).0 ≡ begins t b j s
unfolding begins
begins_left t b zero s h = absurd (omega arith)
begins_left t b (suc j) s h = refl

loop_leaves : (t : ℕ) (b : Body) → Plain b → (n : ℕ) (s : State) → 0 < n → (played_in t (looped n) b s).0 ≡ (play t b s).0
unfolding playing shift_of
loop_leaves t b plain zero s h = absurd (omega arith)
loop_leaves t b plain (suc n) s h = loop_left t b plain s n

module _ {g : Ground} {ts us : Toks} {more level table t n k : ℕ} {x : Arrays} {E : Env} {b : Body} {s : State} {w : Walk}
    (turning : Reaching g ts more level table t n k x E b us s w) where
  -- the one that is entered
  abbrev turn : ℕ
  turn = w.pass / k

  pub some_in_turn : 0 < k
  some_in_turn = some_cycles n k w.pass turning.within

  pub turn_among : w.pass / k < n
  turn_among = turn_below n k w.pass turning.within

  pub few_turns_lem : n ≤ cycles_most
  few_turns_lem = omega (arith, le-mul_of_pos_right n some_in_turn, turning.few_cycles)

  pub pass_within : (past w (w.pass / k * k)).pass < k
  pass_within = omega (arith, mod-lt w.pass some_in_turn, mod-eq-sub-div-mul w.pass k)

  pass_is : (past w (w.pass / k * k)).pass ≡ w.pass % k
  pass_is = sym (mod-eq-sub-div-mul w.pass k)

  -- behind the first turn it begins where that ended
  pub first_left : {y : Arrays} {r : Played} → 0 < w.pass / k → Passed g level y r (played_in t (looped n) b s)
      → Standing g ts more level r.table y E b us (begins t b (w.pass / k) s)
  first_left {y} {r} h p =
      let there = subst (λ (u : State). Showing g level r.table y u) (loop_leaves t b turning.plain n s (omega (arith, turn_among))) p.shows in
      subst (λ (u : State). Standing g ts more level r.table y E b us u) (begins_left t b turn s h)
      (turn_standing t r.table y turning.standing turning.plain there)

  pub turn_turning : {table' : ℕ} {y : Arrays} → Standing g ts more level table' y E b us (begins t b (w.pass / k) s)
      → Turning g ts more level table' t (n - w.pass / k) y E b us (begins t b (w.pass / k) s) (past w (w.pass / k * k))
  unfolding playing shift_of
  turn_turning st =
      let less : (n - turn) * k ≤ n * k = mul-le-mul_right k (omega arith) in
      let split = turns_split (play t b) s turn n (omega (arith, turn_among)) in
      record {
        standing = st;
        plain = turning.plain;
        within = λ _. omega (arith, pass_within, turning.cycles_are);
        few_cycles = rw turning.cycles_are (omega (arith, turning.few_cycles));
        small = turning.small;
        sound = rw (← loop_begins t b turning.plain s turn) (sound_parts E.tables (again turn (play t b) s).1 _ (ap (first_failing E.tables) (sym split) ∙ turning.sound)).1;
        pays = rw pass_is turning.pays;
      }

  pub turn_whole : {y : Arrays} {before after : List ℕ} {r : Walked}
      → Walks g level y us (played_in t (looped (n - w.pass / k)) b (begins t b (w.pass / k) s)) (visits t b (past w (w.pass / k * k)).pass) (past w (w.pass / k * k)) before after r
      → Walks g level y us (played_in t (looped n) b s) (visits t b (w.pass % k)) w before after r
  unfolding playing shift_of
  turn_whole {y} {before} {after} {r} p =
      let passed = (again turn (play t b) s).1 in
      let among : turn ≤ n = omega (arith, turn_among) in
      let long : length passed ≡ turn * k = length_again turn k (play t b) s (λ u. length_play t b u ∙ turning.cycles_are) in
      let rest : Went g.signals (again (n - turn) (play t b) (again turn (play t b) s).0).1 (visits t b (w.pass % k)) (past w (length passed)) r.walk before after =
      rw (long, loop_begins t b turning.plain s turn, ← pass_is) p.tells.went in
      record {
        tells = record {
          went = rw (turns_split (play t b) s turn n among) (went_from passed (omega (arith, div-mul-le_self w.pass k)) rest);
          shows = λ q. rw (← loop_behind t b turning.plain s turn n among) (p.tells.shows q);
        };
        behind = p.behind;
      }
