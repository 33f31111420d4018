-- The functions `turns`, `reach` and `repeat`, whatever body is held: what the walk through a Loop's turns keeps from turn to turn, and what it gives at its end.
use Prim.Native.Nat.{ℕ, ◌+◌, ◌-◌, ◌*◌, ◌/◌, ◌≤◌, ◌<◌}
use native.Mathlib.Nat.{mul-le-mul_right, div-mul-le_self}
use native.Mathlib.Omega.{arith}
use mathlib.Core.Path.{◌≡◌, refl, sym, ap, ◌∙◌, subst}
use mathlib.Core.Bool.{true, false}
use mathlib.Core.List.{List, []}
use lib.ListN.{length}
use Rattle.tokens.specs.Tokens.{Toks}
use Rattle.meaning.specs.Bounds.{signals_most, size_most, cycles_most}
use Rattle.meaning.specs.Body.{looped, Body}
use Rattle.meaning.specs.Run.{State, Cycle, cycles, visits, play}
use Rattle.meaning.specs.Statements.{Env}
use Rattle.meaning.proofs.Turns.{Plain}
use Rattle.meaning.proofs.Rows.{length_play}
use Rattle.turns.specs.Few.{loop_few, play_few}
use Rattle.walks.specs.Turns.{begins}
use Rattle.walks.proofs.Passing.{begins_first}
use Rattle.words.specs.declared.Cursor.{Cursor}
use Rattle.measures.specs.Measures.{Measures as MeasureOf}
use Rattle.plays.specs.declared.Played.{Played}
use Rattle.plays.specs.Plays.{Ground, Arrays, arrays, Sized, Standing, Stood as PlayStood, Kept, Promised as PlaysAll}
use Rattle.plays.proofs.Summing.{summed_empty}
use Rattle.plays.proofs.Keeping.{kept_none, kept_then, kept_args, sized_kept}
use Rattle.loops.specs.declared.Measured.{Measured}
use Rattle.loops.specs.Held.{tables, Stood as MeasureStood, Promised as MeasuresAll}
use Rattle.rows.specs.declared.Walk.{Walk}
use Rattle.rows.specs.Went.{over, Going, spent, past, Went}
use Rattle.rows.proofs.Going.{going_on, going_spent, going_past}
use Rattle.steps.specs.declared.Walked.{Walked}
use Rattle.steps.specs.Walks.{Ready, Stood, Walks, Promised, only, LoopStood, Looped, Turning, TurnStood, Turned, Alike, Copiable, Repeated}
use Rattle.steps.proofs.Passing.{loop_told}
use Rattle.steps.proofs.Alone.{only_pays}
use Rattle.steps.proofs.Turning.{Turns, turns_begin, turns_ready, turns_next, turns_over, turns_copied, turns_all}
use Rattle.steps.proofs.Copying.{turn_steady, whole_reached, shown_whole}
use Rattle.steps.proofs.Wide.{play_wide}
use Rattle.steps.proofs.Looping.{Reaching, loop_measurable, standing_args, loop_size, loop_small, loop_few_lem, loop_passed, loop_reaching, loop_entered, loop_turning, loop_shown, turn_among, first_left, turn_turning, turn_whole}

-- ---- before the first of them

-- the Loop's body is held, in the state in which the turn begins that is entered
pub record Begun (g : Ground) (ts : Toks) (more level table t n k : ℕ) (x : Arrays) (w : Walk) (table' : ℕ) (y : Arrays) : Type 0 where
  pub kept : Kept level x y
  pub standing : (E : Env) (b : Body) (us : Toks) (s : State) → Reaching g ts more level table t n k x E b us s w
      → Standing g ts more level table' y E b us (begins t b (w.pass / k) s)

module _ {g : Ground} {ts : Toks} {more level table t n k : ℕ} {x : Arrays} {w : Walk} where
  -- that is the first
  pub begun_first : w.pass / k ≡ 0 → Begun g ts more level table t n k x w table x
  begun_first e = record {
    kept = kept_none;
    standing = λ E b us s reaching. (
        let same : begins t b (w.pass / k) s ≡ s = ap (λ (j : ℕ). begins t b j s) e ∙ begins_first t b s in
        subst (λ (u : State). Standing g ts more level table x E b us u) (sym same) reaching.standing);
  }

  -- that is a later one: one turn was played
  pub begun_later : {y : Arrays} {r : Played} → 0 < w.pass / k → PlaysAll g [] [] ts more level table x y (λ b. loop_few n 0 (λ j. play_few j t b)) r
      → Begun g ts more level table t n k x w r.table y
  begun_later h p = record {
    kept = p.kept;
    standing = λ E b us s reaching. first_left reaching h (loop_told t n reaching.standing reaching.plain reaching.sound (p.plays E b us s reaching.standing (summed_empty g E)));
  }

-- ---- from turn to turn

-- i of m turns are gone through
pub record Repeats (g : Ground) (ts : Toks) (more level t m table₀ : ℕ) (x₀ : Arrays) (w₀ : Walk) (before : List ℕ) (i table : ℕ) (x : Arrays) (w : Walk) (now : List ℕ) (c : Cursor) : Type 0 where
  pub kept : Kept level x₀ x
  pub long : length now ≡ length before
  pub going : Going g.signals w now
  pub turns : (E : Env) (b : Body) (us : Toks) (s : State) → Turning g ts more level table₀ t m x₀ E b us s w₀
      → Turns g ts us more level t E b s w₀ before i table x w now c

pub repeats_begin : {g : Ground} {ts : Toks} {more level t m table : ℕ} {x : Arrays} {w : Walk} {before : List ℕ} {c : Cursor} → Going g.signals w before
    → Repeats g ts more level t m table x w before 0 table x w before c
repeats_begin {c = c} going = record { kept = kept_none; long = refl; going = going; turns = λ E b us s turning. turns_begin turning going.more c }

-- ---- the function `turns`: so far i of n

module _ {g : Ground} {ts : Toks} {more level table t n : ℕ} {x : Arrays} {w : Walk} {before : List ℕ} (stood : TurnStood g ts more level table t n x w before)
    {i table' : ℕ} {y : Arrays} {w' : Walk} {now : List ℕ} {c : Cursor} (left : Repeats g ts more level t n table x w before i table' y w' now c) where
  -- all turns are gone through
  pub turned_all : n ≤ i → i ≤ n → Turned g ts more level table t n x y w before now (record { cursor = c; table = table'; walk = w'; ends = false })
  turned_all h l = record {
    kept = left.kept;
    goes_on = refl;
    walks = λ E b us s turning. turns_all turning (left.turns E b us s turning) left.going.more (omega arith) stood.some;
  }

  sized : Sized g level y
  sized = sized_kept stood.sized left.kept

  module _ (h : i < n) where
    -- the next can be gone through
    pub turn_stood : Stood g ts more level table' t y w' now
    turn_stood =
        let left_here = left.turns stood.env stood.body stood.rest stood.state stood.turning in
        record {
          env = stood.env;
          body = stood.body;
          rest = stood.rest;
          state = _;
          standing = left_here.standing;
          ready = turns_ready stood.turning left_here left.going.more h;
          sized = sized;
          going = left.going;
        }

    module _ {z : Arrays} {after : List ℕ} {r : Walked} (p : Promised g ts more level table' t y z w' now after r) where
      module _ {E : Env} {b : Body} {us : Toks} {s : State} (turning : Turning g ts more level table t n x E b us s w) where
        before_it : Turns g ts us more level t E b s w before i table' y w' now c
        before_it = left.turns E b us s turning

        walked : Walks g level z us (play t b (begins t b i s)) (visits t b w'.pass) w' now after r
        walked = p.walks E b us (begins t b i s) before_it.standing (turns_ready turning before_it left.going.more h)

      -- its cycles
      abbrev turn : List Cycle
      turn = (play t stood.body (begins t stood.body i stood.state)).1

      turn_went : Went g.signals turn (visits t stood.body w'.pass) w' r.walk now after
      turn_went = (walked stood.turning).tells.went

      pub turn_long : length after ≡ length before
      turn_long = turn_went.long ∙ left.long

      pub turn_kept : Kept level x z
      turn_kept = kept_then left.kept p.kept

      -- it was the last that there was something to do in
      pub turned_over : over r.walk ≡ true → Turned g ts more level table t n x z w before after (record { cursor = r.cursor; table = r.table; walk = r.walk; ends = false })
      turned_over q = record {
        kept = turn_kept;
        goes_on = refl;
        walks = λ E b us s turning. turns_over turning (before_it turning) left.going.more h (walked turning) q;
      }

      pub turned_once : over r.walk ≡ false → Repeats g ts more level t n table x w before (i + 1) r.table z r.walk after r.cursor
      turned_once q = record {
        kept = turn_kept;
        long = turn_long;
        going = going_on left.going turn_went q;
        turns = λ E b us s turning. turns_next turning (before_it turning) left.going.more h (walked turning) q;
      }

      pub turn_rows : w'.row ≤ r.walk.row
      turn_rows = omega (arith, turn_went.rows)

      -- it was shown whole: its rows are the last
      module _ (q : over r.walk ≡ false) (first : w'.pass ≡ 0) where
        whole : r.walk.row ≡ w'.row + cycles t stood.body
        whole = omega (arith, shown_whole turn_went first q, length_play t stood.body (begins t stood.body i stood.state))

        pub turn_copiable : w'.row < r.walk.row → Copiable g.signals (r.walk.row - w'.row) (n - (i + 1)) r.walk after
        turn_copiable some =
            let even : r.walk.row - w'.row ≡ cycles t stood.body = omega (arith, whole) in
            let fewer : (n - (i + 1)) * cycles t stood.body ≤ n * cycles t stood.body = mul-le-mul_right (cycles t stood.body) (omega arith) in
            let shown = shown_whole turn_went first q in
            let reached = whole_reached turn_went (omega (arith, shown)) shown in
            let on = going_on left.going turn_went q in
            record { reached = reached; none_left = on.reached reached; few = rw even (omega (arith, stood.turning.few_cycles)); room = on.room }

        -- it leaves what it found: they are those of every turn left
        pub turned_copied : {kept : List ℕ} → g.signals ≤ length kept → Alike g.signals z.values kept → Alike g.signals kept y.values → r.table ≡ table'
            → {w'' : Walk} {last : List ℕ} → Repeated g.signals w'.row (n - (i + 1)) r.walk w'' after last
            → Turned g ts more level table t n x z w before last (record { cursor = r.cursor; table = r.table; walk = w''; ends = false })
        turned_copied {kept} room behind here same copied = record {
          kept = turn_kept;
          goes_on = refl;
          walks = λ E b us s turning. (
              let stands = (before_it turning).standing.shows in
              let wide : g.signals ≤ length y.values = omega (arith, sized.roomy.few, sized.roomy.values_long) in
              let wide' : g.signals ≤ length z.values = omega (arith, p.kept.values_long) in
              turns_copied turning (before_it turning) left.going.more h (walked turning)
              (turn_steady t b turning.plain g y z wide wide' room stands ((walked turning).tells.shows q) behind here same) q first (play_wide sized stands t b) copied);
        }

-- ---- the function `reach`

module _ {g : Ground} {ts : Toks} {more level table t n : ℕ} {values feeds args : List ℕ} {w : Walk} {before : List ℕ}
    (stood : LoopStood g ts more level table t n (arrays values feeds args) w before) where
  pub loop_stood : MeasureStood (tables g.text g.places g.lists g.tplaces g.book g.rows g.known g.signals) ts more
  loop_stood = record { env = stood.env; body = stood.body; rest = stood.rest; standing = loop_measurable stood.standing stood.plain }

  module _ (some : 0 < n) {m : Measured} (p : MeasuresAll (tables g.text g.places g.lists g.tplaces g.book g.rows g.known g.signals) ts more m) where
    measured : MeasureOf stood.body m.measure
    measured = (p.sums stood.env stood.body stood.rest (loop_measurable stood.standing stood.plain)).measured

    pub reach_small : m.measure.size ≤ size_most
    reach_small = loop_small stood.ready some stood.plain measured

    pub reach_few : n * m.measure.cycles ≤ cycles_most
    reach_few = loop_few_lem stood.ready some stood.plain measured

    pub reach_pays : w.walking ≡ true → m.measure.size + 1 ≤ w.budget
    reach_pays = only_pays stood.ready (loop_size stood.ready some stood.plain measured)

    -- room for arguments was used
    module _ {args' : List ℕ} (long : length args' ≡ signals_most * 2) where
      kept_here : Kept level (arrays values feeds args) (arrays values feeds args')
      kept_here = kept_args stood.sized long

      pub reach_played : PlayStood g ts more level table (arrays values feeds args')
      reach_played = record {
        env = stood.env;
        body = stood.body;
        rest = stood.rest;
        state = stood.state;
        standing = standing_args args' stood.standing;
        sized = sized_kept stood.sized kept_here;
      }

      pub reach_passed : {y : Arrays} {r : Played} → n * m.measure.cycles ≤ w.pass
          → PlaysAll g [] [] ts more level table (arrays values feeds args') y (λ b. loop_few n 0 (λ j. play_few j t b)) r
          → Looped g ts more level table t n (arrays values feeds args) y w before before
          (record { cursor = r.cursor; table = r.table; walk = past (spent w (m.measure.size + 1)) (n * m.measure.cycles); ends = false })
      reach_passed h q = record {
        kept = kept_then kept_here q.kept;
        goes_on = refl;
        walks = λ E b us s st plain ready. loop_passed st plain some ready (p.sums E b us (loop_measurable st plain)).measured stood.going h
            (q.plays E b us s (standing_args args' st) (summed_empty g E));
      }

      module _ (h : w.pass < n * m.measure.cycles) where
        reaching : {E : Env} {b : Body} {us : Toks} {s : State} → Standing g ts more level table (arrays values feeds args) E b us s → Plain b
            → Ready E.tables t (only (looped n) b) s w → Reaching g ts more level table t n m.measure.cycles (arrays values feeds args') E b us s (spent w (m.measure.size + 1))
        reaching {E} {b} {us} st plain ready = loop_reaching (standing_args args' st) plain some ready (p.sums E b us (loop_measurable st plain)).measured h

        -- the one that is held
        pub reach_here : Reaching g ts more level table t n m.measure.cycles (arrays values feeds args') stood.env stood.body stood.rest stood.state (spent w (m.measure.size + 1))
        reach_here = reaching stood.standing stood.plain stood.ready

        module _ {table' : ℕ} {y : Arrays} (begun : Begun g ts more level table t n m.measure.cycles (arrays values feeds args') (spent w (m.measure.size + 1)) table' y) where
          pub reach_stood : TurnStood g ts more level table' t (n - w.pass / m.measure.cycles) y (past (spent w (m.measure.size + 1)) (w.pass / m.measure.cycles * m.measure.cycles)) before
          reach_stood = record {
            some = omega (arith, turn_among reach_here);
            env = stood.env;
            body = stood.body;
            rest = stood.rest;
            state = _;
            turning = turn_turning reach_here (begun.standing stood.env stood.body stood.rest stood.state reach_here);
            sized = sized_kept stood.sized (kept_then kept_here begun.kept);
            going = going_past (going_spent stood.going (m.measure.size + 1)) _ (div-mul-le_self w.pass m.measure.cycles);
          }

          pub reach_entered : {z : Arrays} {after : List ℕ} {r : Walked}
              → Turned g ts more level table' t (n - w.pass / m.measure.cycles) y z (past (spent w (m.measure.size + 1)) (w.pass / m.measure.cycles * m.measure.cycles)) before after r
              → Looped g ts more level table t n (arrays values feeds args) z w before after r
          reach_entered q = record {
            kept = kept_then kept_here (kept_then begun.kept q.kept);
            goes_on = q.goes_on;
            walks = λ E b us s st plain ready. (
                let here = reaching st plain ready in
                loop_entered st plain some ready (p.sums E b us (loop_measurable st plain)).measured h
                (turn_whole here (q.walks E b us _ (turn_turning here (begun.standing E b us s here)))));
          }

  -- ---- the function `repeat`, where the cycle looked for was reached before

  module _ (some : 0 < n) (shown : w.walking ≡ false) where
    pub shown_stood : TurnStood g ts more level table t n (arrays values feeds args) w before
    shown_stood = record {
      some = some;
      env = stood.env;
      body = stood.body;
      rest = stood.rest;
      state = stood.state;
      turning = loop_turning stood.standing stood.plain stood.ready shown;
      sized = stood.sized;
      going = stood.going;
    }

    pub shown_looped : {y : Arrays} {after : List ℕ} {r : Walked} → Turned g ts more level table t n (arrays values feeds args) y w before after r
        → Looped g ts more level table t n (arrays values feeds args) y w before after r
    shown_looped q = record {
      kept = q.kept;
      goes_on = q.goes_on;
      walks = λ E b us s st plain ready. loop_shown st plain ready shown (q.walks E b us s (loop_turning st plain ready shown));
    }
