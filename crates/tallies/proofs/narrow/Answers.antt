-- Each turn takes the next table; the row `from` is not written.
use native.Mathlib.Omega.{arith}
use Rattle.tallies.proofs.Grown.{fine_read}
use Rattle.tallies.proofs.Narrowed.{narrowed_passed, narrowed_failed, narrowed_all}
use Rattle.tallies.proofs.narrow.Goals.{then-byte-eq0, else-byte-eq0}
use Rattle.tallies.proofs.narrow.Goals as goal

pub loop-k-preserved : goal.loop-k-preserved
loop-k-preserved c =
    let x = c.loop-k.invariant in
    elim c.if-byte-eq0.branch [
      | then-byte-eq0 w ↦ rw w.sums-is (narrowed_failed x (omega arith) w.store.ensures)
      | else-byte-eq0 w ↦ rw w.sums-is (narrowed_passed x (fine_read x.more.only _ c.loop-k.k c.requires.2 (omega arith) c.byte.ensures w.if-byte-eq0.false))
    ]

pub returns : goal.returns
returns c = (c.loop-k.invariant.more, narrowed_all c.loop-k.invariant (omega arith))
