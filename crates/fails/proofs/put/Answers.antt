-- `put` meets its contract: a row without room was promised nothing; else each row has the answer's number.
use native.Mathlib.Omega.{arith}
use lib.ListN.{length}
use Rattle.fails.proofs.Writing.{there, puts_none, puts_one}
use Rattle.fails.proofs.put.Goals as goal

-- src/lib.rt:279:9
pub returns-then-cycles-at : goal.returns-then-cycles-at
returns-then-cycles-at c = puts_none _ c.if-cycles-at.true

-- src/lib.rt:281:5
pub offset_bounds-cycles-at : goal.offset_bounds-cycles-at
offset_bounds-cycles-at c = omega (arith, (there (length c.args.cycles.now) (length c.args.signals.now) (length c.args.letters.now) c.args.at c.if-cycles-at.false).0)

-- src/lib.rt:281:5
pub bounds-cycles-at : goal.bounds-cycles-at
bounds-cycles-at c = omega (arith, (there (length c.args.cycles.now) (length c.args.signals.now) (length c.args.letters.now) c.args.at c.if-cycles-at.false).0)

-- src/lib.rt:282:5
pub offset_bounds-signals-at : goal.offset_bounds-signals-at
offset_bounds-signals-at c = omega (arith, (there (length c.args.cycles.now) (length c.args.signals.now) (length c.args.letters.now) c.args.at c.if-cycles-at.false).1)

-- src/lib.rt:282:5
pub bounds-signals-at : goal.bounds-signals-at
bounds-signals-at c = omega (arith, (there (length c.args.cycles.now) (length c.args.signals.now) (length c.args.letters.now) c.args.at c.if-cycles-at.false).1)

-- src/lib.rt:283:5
pub bounds-letters-at : goal.bounds-letters-at
bounds-letters-at c = omega (arith, (there (length c.args.cycles.now) (length c.args.signals.now) (length c.args.letters.now) c.args.at c.if-cycles-at.false).2)

-- src/lib.rt:284:5
pub overflow_add-result : goal.overflow_add-result
overflow_add-result c = omega (arith, (there (length c.args.cycles.now) (length c.args.signals.now) (length c.args.letters.now) c.args.at c.if-cycles-at.false).0)

-- src/lib.rt:267:1
pub returns : goal.returns
returns c = puts_one _
