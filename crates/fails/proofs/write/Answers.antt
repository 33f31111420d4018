-- `write` meets its contract. The invariant: the records so far are answered.
use native.Mathlib.Omega.{arith}
use mathlib.Core.Path.{refl}
use mathlib.Core.List.{[]}
use Rattle.tokens.specs.Written.{bytes}
use Rattle.words.proofs.Loops.{less, on}
use Rattle.reports.proofs.Passing.{takes_record}
use Rattle.fails.proofs.Writing.{written_none, written_more, written_all}
use Rattle.fails.proofs.write.Goals as goal

-- src/lib.rt:380:5
pub loop-cursor-init : goal.loop-cursor-init
loop-cursor-init c = (refl, refl, refl, written_none _ _ _ _ _ _ _)

-- src/lib.rt:381:13
pub write_record-w-requires : goal.write_record-w-requires
write_record-w-requires c = c.requires

-- src/lib.rt:380:5
pub loop-cursor-smaller : goal.loop-cursor-smaller
loop-cursor-smaller c = less (takes_record _ []) (on _ _ c.until.ensures c.loop-cursor-test.true) (c.write_record-w.ensures.goes [])

-- src/lib.rt:380:5
pub loop-cursor-preserved : goal.loop-cursor-preserved
loop-cursor-preserved c = (omega (arith, c.loop-cursor.invariant.0, c.write_record-w.auto.cycles), omega (arith, c.loop-cursor.invariant.1, c.write_record-w.auto.signals), omega (arith, c.loop-cursor.invariant.2, c.write_record-w.auto.letters), written_more _ _ _ _ _ _ _ c.loop-cursor.invariant.3 c.until.ensures c.loop-cursor-test.true c.write_record-w.ensures)

-- src/lib.rt:358:1
pub shape_of-cycles : goal.shape_of-cycles
shape_of-cycles c = c.loop-cursor.invariant.0

-- src/lib.rt:358:1
pub shape_of-signals : goal.shape_of-signals
shape_of-signals c = c.loop-cursor.invariant.1

-- src/lib.rt:358:1
pub shape_of-letters : goal.shape_of-letters
shape_of-letters c = c.loop-cursor.invariant.2

-- src/lib.rt:358:1
pub returns : goal.returns
unfolding bytes
returns c = written_all _ _ _ _ _ _ _ c.cursor_at-cursor.ensures c.loop-cursor.invariant.3 c.until.ensures c.loop-cursor-test.false
