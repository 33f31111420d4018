-- `within` meets its contract: whether the code holds the number or only the largest one, the test says the same.
use native.Mathlib.Omega.{arith}
use mathlib.Core.Path.{sym, ap, ◌∙◌}
use Rattle.words.specs.Values.{value_of}
use Rattle.words.proofs.Numbers.{within_some, within_none}
use Rattle.words.proofs.within.Goals as goal

pub returns-in-Some : goal.returns-in-Some
returns-in-Some c =
    let tested = rw (c.from.ensures, c.from-in-Some.ensures) at c.refuse_if-cursor.ensures in
    λ text o e. within_some c.args.lo c.args.hi c.in-Some.n (omega arith) o tested (sym (ap value_of c.in-Some.is) ∙ e)

pub returns-in-None : goal.returns-in-None
returns-in-None c = λ text o e. within_none c.args.lo c.args.hi 0 o c.refuse_if-cursor-in-None.ensures (sym (ap value_of c.in-None.is) ∙ e)
