-- Each answer is the test of the definition, by what the row and the table have of the signal.
use native.Mathlib.Omega.{arith}
use Rattle.arguments.proofs.Counted.{fits_unused, fits_outside, fits_short, fits_beyond}
use Rattle.arguments.proofs.fitting.Goals as goal

pub overflow_cast-u : goal.overflow_cast-u
overflow_cast-u c = omega (arith, c.type_inv.row c.args.s)

pub returns-then-given-s-eq0 : goal.returns-then-given-s-eq0
returns-then-given-s-eq0 c =
    λ text b xs uses sup. fits_unused uses sup c.args.s c.requires.3 c.args.t c.if-given-s-eq0.true

pub returns-then-not-shifted : goal.returns-then-not-shifted
returns-then-not-shifted c =
    λ text b xs uses sup. fits_outside uses sup c.args.s c.requires.3 c.args.t c.if-given-s-eq0.false
    c.if-not-shifted.true

pub returns-then-n-u : goal.returns-then-n-u
returns-then-n-u c =
    λ text b xs uses sup. fits_short uses sup c.args.s c.requires.3 c.args.t c.if-given-s-eq0.false
    c.if-not-shifted.false c.if-n-u.true

pub returns : goal.returns
returns c =
    λ text b xs uses sup. fits_beyond uses sup c.args.s c.requires.3 c.args.t c.if-given-s-eq0.false
    c.if-not-shifted.false c.if-n-u.false
