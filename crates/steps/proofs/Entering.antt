-- A used body: its measure says where it ends, so that it is passed or entered; behind it the caller's arguments are there again, and where it is a procedure the caller's pins and
-- table.
use Prim.Native.Nat.{ℕ, ◌+◌, ◌*◌, ◌%◌, ◌<◌, ◌≤◌}
use native.Mathlib.Nat.{mod-eq_of_lt}
use native.Mathlib.Omega.{arith}
use mathlib.Core.Path.{◌≡◌, sym, ap, ◌∙◌}
use mathlib.Core.Bool.{true, false}
use mathlib.Core.Option.{none}
use mathlib.Core.List.{List}
use Rattle.tokens.specs.Tokens.{Toks}
use Rattle.meaning.specs.Bounds.{size_most, cycles_most}
use Rattle.meaning.specs.Body.{Args, macro, procedure, Kind, entered, Body}
use Rattle.meaning.specs.Run.{State, shift_of, size, cycles, visits, bare, entering, playing, play}
use Rattle.meaning.specs.Meaning.{first_failing}
use Rattle.meaning.specs.Statements.{Env}
use Rattle.turns.specs.Few.{play_few}
use Rattle.walks.specs.Statement.{played_in, cycles_in, begun}
use Rattle.walks.proofs.Bodies.{entered_cycles, entered_long}
use Rattle.words.specs.declared.Cursor.{Cursor}
use Rattle.measures.specs.declared.Measure.{Measure}
use Rattle.measures.specs.Measures.{Measures}
use Rattle.measures.specs.Book.{measure_at}
use Rattle.measures.proofs.Within.{size_within}
use Rattle.heads.specs.Heads.{kind_of}
use Rattle.pins.specs.Shown.{Leaves, Returns}
use Rattle.plays.specs.declared.Played.{Played}
use Rattle.plays.specs.Plays.{Ground, Arrays, arrays, Sized, Kept, Telling}
use Rattle.plays.proofs.Keeping.{feeding_kept}
use Rattle.plays.proofs.Entering.{pins_back}
use Rattle.loops.proofs.Exact.{exact_cycles}
use Rattle.rows.specs.declared.Walk.{Walk}
use Rattle.rows.specs.Went.{spent, past, Going}
use Rattle.steps.specs.declared.Walked.{Walked}
use Rattle.steps.specs.Walks.{Ready, Tells, Walks, only, Use, Into}
use Rattle.steps.proofs.Passing.{only_left, only_sound, used_told}
use Rattle.steps.proofs.Alone.{only_small, only_few, only_pays, only_passed, only_affords, only_entered}

-- ---- passed or entered

module _ {g : Ground} {i more level table t : ℕ} {x : Arrays} {E : Env} {b : Body} {us : Toks} {a : Args} {s : State} {w : Walk} (u : Use g i more level table t x E b us a s w)
    {m : Measure} (is : m ≡ measure_at g.book i) where
  measures : Measures b m
  measures = rw is u.measured

  pub used_small : size b ≤ size_most
  used_small = only_small u.ready

  pub used_few : cycles t b ≤ cycles_most
  used_few = omega (arith, only_few u.ready, entered_long t t (kind_of i) a b)

  pub used_size : m.size ≡ size b
  used_size = size_within measures used_small

  pub used_cycles : m.cycles + t * m.shifts ≡ cycles t b
  used_cycles = exact_cycles measures t used_few

  cost : 1 + size b ≡ m.size + 1
  cost = omega (arith, used_size)

  many : cycles_in t (entered (kind_of i) t a) b ≡ m.cycles + t * m.shifts
  many = entered_long t t (kind_of i) a b ∙ sym used_cycles

  -- the step past it or into it can be paid
  pub used_pays : w.walking ≡ true → m.size + 1 ≤ w.budget
  used_pays = only_pays u.ready cost

  sound : first_failing E.tables (played_in t (entered (kind_of i) t a) b s).1 ≡ none
  sound = only_sound t (entered (kind_of i) t a) b s E.tables u.ready.sound

  -- entered: it is gone through once, so that as many are to be passed in it
  module _ (within : w.pass < m.cycles + t * m.shifts) where
    in_it : w.pass < cycles_in t (entered (kind_of i) t a) b
    in_it = omega (arith, many)

    as_many : w.pass % cycles t b ≡ w.pass
    as_many = mod-eq_of_lt (omega (arith, used_cycles))

    pub used_into : Into g i more level table t x E b us a s (spent w (m.size + 1))
    unfolding shift_of
    used_into = record {
      use' = u.use';
      few_cycles = used_few;
      small = used_small;
      sound = sound;
      pays = rw as_many at (only_affords u.ready cost in_it);
    }

    pub into_tells : {y : Arrays} {before after : List ℕ} {r : Walked}
        → Tells g level y (played_in t (entered (kind_of i) t a) b s) (visits t b w.pass) (spent w (m.size + 1)) before after r
        → Tells g level y (play t (only (entered (kind_of i) t a) b) s) (visits t (only (entered (kind_of i) t a) b) w.pass) w before after r
    unfolding shift_of
    into_tells p = record {
      went = only_entered u.ready cost in_it (rw as_many p.went);
      shows = λ e. rw (only_left t (entered (kind_of i) t a) b s) (p.shows e);
    }

  -- passed
  pub passed_tells : {y : Arrays} {w' : Walk} {buffer : List ℕ} (r : Played) (cursor : Cursor) → m.cycles + t * m.shifts ≤ w.pass → Going g.signals w buffer
      → w' ≡ past (spent w (m.size + 1)) (m.cycles + t * m.shifts)
      → Telling g E.tables level y r (entering (kind_of i) a (play_few 0 t b) s)
      → Tells g level y (play t (only (entered (kind_of i) t a) b) s) (visits t (only (entered (kind_of i) t a) b) w.pass) w buffer buffer
      (record { cursor = cursor; table = r.table; walk = w'; ends = false })
  passed_tells {y} r cursor before_it going e told = record {
    went = rw e (only_passed u.ready cost many going before_it);
    shows = λ k. rw (only_left t (entered (kind_of i) t a) b s) (used_told y r t t u.use' sound told).shows;
  }

-- ---- from its own first statement on

module _ {g : Ground} {i more level table t : ℕ} {x : Arrays} {E : Env} {b : Body} {us : Toks} {a : Args} {s : State} {w : Walk} (u : Into g i more level table t x E b us a s w) where
  begins : (k : Kind) → kind_of i ≡ k → first_failing E.tables (play t b (begun k a s)).1 ≡ none
  begins k e =
      ap (first_failing E.tables) (sym (entered_cycles t t (kind_of i) a b s ∙ ap (λ (k : Kind). (play t b (begun k a s)).1) e)) ∙ u.sound

  pub macro_ready : kind_of i ≡ macro → Ready E.tables t b (record { pins = s.pins; table = s.table; args = a }) w
  unfolding begun
  macro_ready e = record { few_cycles = u.few_cycles; small = u.small; sound = begins macro e; pays = u.pays }

  pub procedure_ready : kind_of i ≡ procedure → Ready E.tables t b (record { pins = bare s.pins; table = s.table; args = a }) w
  unfolding begun
  procedure_ready e = record { few_cycles = u.few_cycles; small = u.small; sound = begins procedure e; pays = u.pays }

  -- ---- what it went through, told to the caller

  module _ {y : Arrays} {before after : List ℕ} {r : Walked} where
    pub macro_tells : kind_of i ≡ macro → Kept (level + 1) x y
        → Walks g (level + 1) y us (play t b (record { pins = s.pins; table = s.table; args = a })) (visits t b w.pass) w before after r
        → Tells g level y (played_in t (entered (kind_of i) t a) b s) (visits t b w.pass) w before after r
    unfolding playing entering shift_of
    macro_tells e kept p = rw e (record {
      went = p.tells.went;
      shows = λ h. (
          let q = p.tells.shows h in
          record { pins_are = q.pins_are; table_is = q.table_is; args_are = feeding_kept u.use'.shows.args_are (λ j l. kept.arguments level j l (omega arith)) });
    })

    pub procedure_tells : {v v' : List ℕ} (cursor : Cursor) → kind_of i ≡ procedure → Sized g level x → Leaves (level + 1) x.values v
        → Kept (level + 1) (arrays v x.feeds x.args) y → Returns (level + 1) y.values v'
        → Walks g (level + 1) y us (play t b (record { pins = bare s.pins; table = s.table; args = a })) (visits t b w.pass) w before after r
        → Tells g level (arrays v' y.feeds y.args) (played_in t (entered (kind_of i) t a) b s) (visits t b w.pass) w before after
        (record { cursor = cursor; table = table; walk = r.walk; ends = false })
    unfolding playing entering shift_of
    procedure_tells cursor e sized l kept back p = rw e (record {
      went = p.tells.went;
      shows = λ h. record {
        pins_are = u.use'.shows.pins_are ∙ sym (pins_back level l kept back g.signals sized.roomy.few (omega (arith, sized.roomy.few, sized.roomy.values_long)));
        table_is = u.use'.shows.table_is;
        args_are = feeding_kept u.use'.shows.args_are (λ j l. kept.arguments level j l (omega arith));
      };
    })
