-- The signal has no argument, or one.
use native.Mathlib.Omega.{arith}
use Rattle.std.proofs.lemmas.Option.{IfSome_then}
use Rattle.arguments.proofs.Counted.{argument_some}
use Rattle.tallies.proofs.Reading.{reading_unsupplied}
use Rattle.tallies.proofs.signal_fits.Goals as goal

pub returns-then-given-s-eq0 : goal.returns-then-given-s-eq0
returns-then-given-s-eq0 c = λ xs u. let w = reading_unsupplied u c.args.s (omega arith) c.if-given-s-eq0.true in (w.0, λ tabs m. record { each = λ b k. absurd (w.1 b k) })

pub returns : goal.returns
returns c = IfSome_then c.fed_fits.result c.fed_fits.ensures (λ pin p xs u. let a = u.each _ (argument_some u c.args.s (omega arith) c.if-given-s-eq0.false) in p _ a.at)
