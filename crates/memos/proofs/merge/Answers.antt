-- Each turn joins the next signal's marks; those that are read stand behind the row.
use Prim.Native.Nat.{ℕ, ◌+◌, ◌%◌}
use native.Mathlib.Omega.{arith}
use mathlib.Core.Path.{◌∙◌, ap}
use Rattle.memos.specs.Tracks.{marks_most}
use Rattle.memos.proofs.Marking.{joined_next}
use Rattle.memos.proofs.merge.Goals as goal

pub loop-s-preserved : goal.loop-s-preserved
loop-s-preserved c =
    let there = ap (λ (k : ℕ). k % marks_most) (c.loop-s.invariant.rest (c.args.from + c.loop-s.s) (omega (arith, c.requires))) in
    let j = rw (c.marks.ensures.0, c.marks-in-loop-s.ensures.0 ∙ there) at c.join.ensures.1 in
    joined_next c.join.result c.loop-s.invariant (omega (arith, c.requires.2)) (omega (arith, c.loop-s.invariant.writes.long, c.requires)) c.join.ensures.0 j

pub returns : goal.returns
returns c =
    (c.loop-s.invariant.writes, λ s h. c.loop-s.invariant.each s (omega arith))
