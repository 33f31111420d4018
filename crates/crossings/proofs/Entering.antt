-- A used body: behind it the caller's arguments are there again, and where it is a procedure the caller's pins and table.
use Prim.Native.Nat.{ℕ, ◌+◌, ◌-◌}
use native.Mathlib.Omega.{arith}
use mathlib.Core.Path.{◌≡◌, sym, ◌∙◌}
use mathlib.Core.Bool.{false}
use mathlib.Core.List.{List}
use Rattle.tokens.specs.Tokens.{Toks}
use Rattle.meaning.specs.Body.{Args, macro, procedure, Body}
use Rattle.meaning.specs.Run.{State, bare, entering, play}
use Rattle.meaning.specs.Statements.{Env}
use Rattle.heads.specs.Heads.{kind_of}
use Rattle.pins.specs.Shown.{Leaves, Returns}
use Rattle.plays.specs.declared.Played.{Played}
use Rattle.plays.specs.Plays.{Ground, Arrays, arrays, Sized, Kept, Using}
use Rattle.plays.proofs.Keeping.{feeding_kept}
use Rattle.plays.proofs.Entering.{pins_back}
use Rattle.crossings.specs.declared.Seen.{Seen}
use Rattle.crossings.specs.Rows.{rows_of}
use Rattle.crossings.specs.Crossings.{Tells, Plays}
use Rattle.crossings.proofs.Passing.{passed_less}

module _ (t : ℕ) {g : Ground} {i more level table : ℕ} {x : Arrays} {E : Env} {b : Body} {us : Toks} {a : Args} {s : State} (u : Using g i more level table x E b us a s) {y : Arrays} {v w : Seen} {r : Played} where
  pub macro_tells : kind_of i ≡ macro → Kept (level + 1) x y
      → Plays g E.tables (level + 1) (rows_of (more - 1)) y v w us r (play t b (record { pins = s.pins; table = s.table; args = a }))
      → Tells g E.tables level (rows_of more) y v w r (entering (kind_of i) a (play t b) s)
  unfolding entering
  macro_tells e kept p = rw e (record {
    passed = passed_less (omega arith) p.tells.passed;
    shows = λ h. (
        let q = p.tells.shows h in
        record { pins_are = q.pins_are; table_is = q.table_is; args_are = feeding_kept u.shows.args_are (λ j l. kept.arguments level j l (omega arith)) });
  })

  pub procedure_tells : {left back : List ℕ} → kind_of i ≡ procedure → Sized g level x → Leaves (level + 1) x.values left
      → Kept (level + 1) (arrays left x.feeds x.args) y → Returns (level + 1) y.values back
      → Plays g E.tables (level + 1) (rows_of (more - 1)) y v w us r (play t b (record { pins = bare s.pins; table = s.table; args = a }))
      → Tells g E.tables level (rows_of more) (arrays back y.feeds y.args) v w (record { cursor = r.cursor; failed = r.failed; place = r.place; table = table; ends = false })
      (entering (kind_of i) a (play t b) s)
  unfolding entering
  procedure_tells e sized l kept back p = rw e (record {
    passed = passed_less (omega arith) p.tells.passed;
    shows = λ h. record {
      pins_are = u.shows.pins_are ∙ sym (pins_back level l kept back g.signals sized.roomy.few (omega (arith, sized.roomy.few, sized.roomy.values_long)));
      table_is = u.shows.table_is;
      args_are = feeding_kept u.shows.args_are (λ j l. kept.arguments level j l (omega arith));
    };
  })
