-- The window goes through the run: behind the patterns gone through the rest of the list is left, and at its end, or where nothing is left to do, all is gone through.
use Prim.Native.Nat.{◌*◌}
use native.Mathlib.Omega.{arith}
use mathlib.Core.Path.{sym, ◌∙◌}
use Rattle.meaning.specs.Run.{play, visits, start as opening}
use Rattle.meaning.specs.Meaning.{Meaning}
use Rattle.meaning.specs.Document.{Read}
use Rattle.texts.specs.declared.Parts.{Parts}
use Rattle.plays.proofs.Running.{opening_long}
use Rattle.rows.specs.Went.{Went}
use Rattle.windows.specs.Run.{Accepts}
use Rattle.windows.proofs.Running.{next_ready}
use Rattle.windows.proofs.Texts.{outset, size_fits, run_gone, upcoming, listed_next, run_left, run_over, windows_are, unseen}
use Rattle.windows.proofs.window.Goals as goal
use Rattle.windows.proofs.window.Goals.{Left-loop-k, else-loop-k-test, then-loop-k-test+then-over}

pub overflow_mul-budget : goal.overflow_mul-budget
overflow_mul-budget c = omega (arith, size_fits c.requires.accepts)

pub loop-k-init : goal.loop-k-init
loop-k-init c = unseen _ _ _ _ _ _ _ _ _ _ _ _ _ _ _ _ _ _ c.requires (omega arith)

pub pattern-w-requires : goal.pattern-w-requires
pattern-w-requires c =
    let taken = c.loop-k-test.true in
    let inv = c.loop-k.invariant in
    let h = c.requires.accepts in
    let b = inv.left _ _ _ h in
    record {
      env = h.runs.tabled.parts.env;
      decls = c.requires.read.patterns;
      decl = _;
      state = opening c.args.ground.now.signals;
      long = opening_long c.args.ground.now.signals;
      listed_at = listed_next h b taken;
      ready = next_ready (upcoming h b taken);
      sized = inv.arrays_sized;
      going = b.going;
    }

pub loop-k-preserved : goal.loop-k-preserved
loop-k-preserved c =
    let loop = c.loop-k in
    let taken = c.loop-k-test.true in
    let went = c.pattern-w.ensures in
    record { arrays_sized = went.sized; left = λ p d m h. run_left h (loop.invariant.left p d m h) taken went (sym c.over.ensures ∙ c.if-over.false) }

-- behind the loop all is gone through, whichever way it was left
gone : (c : Left-loop-k) (p : Parts) (d : Read) (m : Meaning)
    → Accepts c.args.ground.now.declared.text.now c.args.ground.now.declared.places.now c.args.ground.now.declared.lists.now c.args.ground.now.declared.tplaces.now c.args.ground.now.waves.now c.args.ground.now.declared.book.now c.args.ground.now.declared.rows.now
    c.args.list.now c.args.ground.now.declared.known c.args.ground.now.signals c.args.listed c.args.patterns c.args.size c.args.first c.args.due c.args.buffer.now p d m
    → Went c.args.ground.now.signals (play 0 m.run (opening c.args.ground.now.signals)).1 (visits 0 m.run c.args.first)
    (outset (c.args.size * 10) c.args.first c.args.due c.args.mark) c.loop-k-test.w c.args.buffer.now c.loop-k-test.buffer
gone c p d m h =
    let left = c.loop-k.invariant.left p d m h in
    elim c.loop-k-test.branch [
      | else-loop-k-test e ↦ rw (e.buffer-is, e.w-is) (run_gone h left e.loop-k-test.false)
      | then-loop-k-test+then-over e ↦
          rw (e.buffer-is, e.w-is) (run_over h left e.loop-k-test.true e.pattern-w.ensures (sym e.over.ensures ∙ e.if-over.true))
    ]

pub overflow_sub-result : goal.overflow_sub-result
overflow_sub-result c = omega (arith, (gone (goal.at.overflow_sub-result c).Left-loop-k _ _ _ c.requires.accepts).spending)

pub shape_of-buffer : goal.shape_of-buffer
shape_of-buffer c = (gone (goal.at.shape_of-buffer c).Left-loop-k _ _ _ c.requires.accepts).long

pub returns : goal.returns
returns c = λ p d m h. windows_are h (gone (goal.at.returns c).Left-loop-k p d m h)
