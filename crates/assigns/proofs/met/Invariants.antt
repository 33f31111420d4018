use mathlib.Core.Path.{◌≡◌}
use lib.ListN.{drop}
use Rattle.meaning.specs.Body.{Assigns}
use Rattle.meaning.specs.Lists.{meets}
use Rattle.meaning.specs.Data.{assigned}
use Rattle.assigns.specs.Given.{Gave}
use Rattle.assigns.proofs.met.Given as goal

abbrev pub invariant-loop-s : goal.invariant-loop-s
invariant-loop-s l = (xs : Assigns) → Gave xs l.given → meets l.signals (assigned xs) ≡ meets (drop l.s-index l.signals) (assigned xs)
