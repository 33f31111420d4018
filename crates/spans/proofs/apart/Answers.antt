-- `apart` meets its contract: one is missing, or they are compared without a sum that could wrap.
use native.Mathlib.Omega.{arith}
use Rattle.spans.proofs.Looking.{apart_missing, apart_early, apart_late}
use Rattle.spans.proofs.apart.Goals as goal

pub returns-then-last-first : goal.returns-then-last-first
returns-then-last-first c = apart_missing c.args.period c.args.last c.args.first c.if-last-first.true

pub returns-then-last-first-2 : goal.returns-then-last-first-2
returns-then-last-first-2 c = apart_early c.args.period c.args.last c.args.first c.if-last-first-2.true

pub returns : goal.returns
returns c = apart_late c.args.period c.args.last c.args.first c.if-last-first.false (omega arith)
