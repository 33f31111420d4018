-- `past` meets its contract: behind an LF a line begins.
use native.Mathlib.Omega.{arith}
use Rattle.columns.proofs.Laws.{capped_lf, capped_other}
use Rattle.columns.proofs.past.Goals as goal

pub returns-then-b-eq-LF : goal.returns-then-b-eq-LF
returns-then-b-eq-LF c = capped_lf _ _ _ c.if-b-eq-LF.true c.more.ensures

pub returns : goal.returns
returns c = capped_other _ _ _ c.if-b-eq-LF.false (omega arith) c.more-2.ensures
