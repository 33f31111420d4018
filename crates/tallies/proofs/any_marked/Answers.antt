-- Each turn adds the next slot's mark.
use borrow.Author.Count.{below_more}
use borrow.Author.Tests.{eqb-true, not-false}
use Rattle.tokens.proofs.Bools.{neither}
use Rattle.tallies.proofs.any_marked.Goals as goal

pub loop-b-preserved : goal.loop-b-preserved
loop-b-preserved c = λ e. let n = neither _ _ e in below_more _ _ (c.loop-b.invariant n.0) (eqb-true _ 0 (not-false _ n.1))
