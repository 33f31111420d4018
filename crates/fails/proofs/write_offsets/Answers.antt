-- `write_offsets` meets its contract. The invariant: the offsets so far are answered.
use native.Mathlib.Omega.{arith}
use mathlib.Core.Path.{refl}
use Rattle.tokens.specs.Written.{bytes}
use Rattle.words.proofs.Loops.{on}
use Rattle.reports.proofs.Counting.{fewer}
use Rattle.fails.proofs.Writing.{offsets_none, offsets_more, offsets_all}
use Rattle.fails.proofs.write_offsets.Goals as goal

-- src/lib.rt:302:5
pub loop-o-init : goal.loop-o-init
loop-o-init c = (refl, refl, refl, offsets_none _ _ _ _ _ _ _)

-- src/lib.rt:302:5
pub loop-o-smaller : goal.loop-o-smaller
loop-o-smaller c = fewer (on _ _ c.until.ensures c.loop-o-test.true) c.offset-o.ensures

-- src/lib.rt:302:5
pub loop-o-preserved : goal.loop-o-preserved
loop-o-preserved c = (omega (arith, c.loop-o.invariant.0, c.put-n.auto.cycles), omega (arith, c.loop-o.invariant.1, c.put-n.auto.signals), omega (arith, c.loop-o.invariant.2, c.put-n.auto.letters), offsets_more _ _ _ _ _ _ _ c.loop-o.invariant.3 c.until.ensures c.loop-o-test.true c.offset-o.ensures c.cycle_at-cycle.ensures c.put-n.ensures)

-- src/lib.rt:288:1
pub shape_of-cycles : goal.shape_of-cycles
shape_of-cycles c = c.loop-o.invariant.0

-- src/lib.rt:288:1
pub shape_of-signals : goal.shape_of-signals
shape_of-signals c = c.loop-o.invariant.1

-- src/lib.rt:288:1
pub shape_of-letters : goal.shape_of-letters
shape_of-letters c = c.loop-o.invariant.2

-- src/lib.rt:288:1
pub returns : goal.returns
unfolding bytes
returns c = offsets_all _ _ _ _ _ _ _ c.loop-o.invariant.3 c.until.ensures c.loop-o-test.false c.due-end.ensures
