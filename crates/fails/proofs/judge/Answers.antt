-- `judge` meets its contract. The invariant: the records so far are answered, and the room for them is counted.
use mathlib.Core.List.{[]}
use Rattle.tokens.specs.Written.{bytes}
use Rattle.words.proofs.Loops.{less, on}
use Rattle.reports.proofs.Passing.{takes_record}
use Rattle.fails.proofs.Judging.{kept_none, kept_more, judges_refused, judges_all}
use Rattle.fails.proofs.judge.Goals as goal

-- src/lib.rt:222:5
pub loop-cursor-init : goal.loop-cursor-init
loop-cursor-init c = kept_none _ _ _ _ _

-- src/lib.rt:223:13
pub judge_record-j-requires : goal.judge_record-j-requires
judge_record-j-requires c = c.requires

-- src/lib.rt:238:13
pub returns-in-Some : goal.returns-in-Some
unfolding bytes
returns-in-Some c = judges_refused _ _ _ _ _ c.cursor_at-cursor.ensures c.loop-cursor.invariant c.until.ensures c.loop-cursor-test.true c.judge_record-j.ensures c.in-Some.is

-- src/lib.rt:222:5
pub loop-cursor-smaller : goal.loop-cursor-smaller
loop-cursor-smaller c = less (takes_record _ []) (on _ _ c.until.ensures c.loop-cursor-test.true) (c.judge_record-j.ensures.goes [])

-- src/lib.rt:222:5
pub loop-cursor-preserved : goal.loop-cursor-preserved
loop-cursor-preserved c = kept_more _ _ _ _ _ c.loop-cursor.invariant c.until.ensures c.loop-cursor-test.true c.judge_record-j.ensures c.in_default.is c.take-x.ensures

-- src/lib.rt:199:1
pub returns : goal.returns
unfolding bytes
returns c = judges_all _ _ _ _ _ c.cursor_at-cursor.ensures c.loop-cursor.invariant c.until.ensures c.loop-cursor-test.false
