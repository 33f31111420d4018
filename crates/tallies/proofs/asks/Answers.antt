-- What the row asks by itself, then each turn looks at the next signal.
use native.Mathlib.Omega.{arith}
use mathlib.Core.Path.{sym}
use mathlib.Core.Bool.{true≢false}
use Rattle.tallies.proofs.Stored.{lent}
use Rattle.tallies.proofs.Fitting.{asking_next, asking_all}
use Rattle.tallies.proofs.asks.Goals as goal

pub returns-then-not-suits : goal.returns-then-not-suits
returns-then-not-suits c = (c.requires.6, λ e. absurd (true≢false (sym e)))

pub loop-s-preserved : goal.loop-s-preserved
loop-s-preserved c = asking_next c.loop-s.invariant (omega (arith, c.requires.2)) c.in-Some.ensures

pub returns : goal.returns
returns c = (c.loop-s.invariant.long, λ e. asking_all c.loop-s.invariant c.args.sums.now c.args.r (λ p h. lent _ _ _ p (omega arith)) _ (omega arith) c.requires.2 (c.suits.ensures c.if-not-suits.false))
