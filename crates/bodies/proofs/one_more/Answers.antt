-- `one_more` meets its contract.
use mathlib.Core.Path.{refl}
use Rattle.bodies.proofs.one_more.Goals as goal

pub returns-then-macros : goal.returns-then-macros
returns-then-macros c = rw c.if-macros.true refl

pub returns : goal.returns
returns c = rw c.if-macros.false refl
