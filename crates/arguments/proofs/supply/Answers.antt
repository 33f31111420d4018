-- A signal that is marked has an argument, and its length stands in the table; another has no characters.
use mathlib.Core.Path.{sym}
use Rattle.arguments.proofs.Counted.{length_some, length_none}
use Rattle.arguments.proofs.supply.Goals as goal

pub returns-then-given-s-ne0 : goal.returns-then-given-s-ne0
returns-then-given-s-ne0 c =
    λ text xs sup. length_some sup c.args.s c.requires.2 c.if-given-s-ne0.true

pub returns-else-given-s-ne0 : goal.returns-else-given-s-ne0
returns-else-given-s-ne0 c =
    λ text xs sup. sym (length_none sup c.args.s c.requires.2 c.if-given-s-ne0.false)
