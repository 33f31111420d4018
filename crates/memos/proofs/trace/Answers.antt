-- Each turn draws the next signal's marks; those that are read stand before the row.
use Prim.Native.Nat.{ℕ, ◌+◌, ◌%◌}
use native.Mathlib.Omega.{arith}
use mathlib.Core.Path.{◌∙◌, ap}
use lib.ListN.{length-set}
use Rattle.memos.specs.Tracks.{marks_most}
use Rattle.memos.specs.Memo.{picture_size}
use Rattle.memos.proofs.Rows.{writes_none, writes_next, writes_then, traced_next}
use Rattle.memos.proofs.trace.Goals as goal

pub loop-s-preserved : goal.loop-s-preserved
loop-s-preserved c =
    let inv = c.loop-s.invariant in
    let room = length-set c.args.memo.now c.args.o c.short.result in
    let read = inv.0.others (c.args.from + c.loop-s.s) (λ a b. omega arith) in
    traced_next c.loop-s.memo c.args.o c.loop-s.s _ (omega (arith, inv.0.long, room)) (omega arith) inv.0 inv.1 (ap (λ (k : ℕ). k % marks_most) read)

pub returns : goal.returns
returns c =
    let inv = c.loop-s.invariant in
    let w = writes_next {m = c.args.memo.now} {o = c.args.o} {e = c.args.o + picture_size} writes_none c.args.o c.short.result (omega arith) (omega arith) in (
      writes_then w inv.0,
      record {
        table_is = inv.1.table_is;
        marks_are = λ s h. inv.1.marks_are s (omega arith) ∙ ap (λ (k : ℕ). k % marks_most) (w.others (c.args.from + s) (λ a b. omega arith));
      },
    )
