-- A word of a command line as a number (docs/COMMANDS.md): decimal digits, 0 to the largest of 64 bits, leading zeros allowed.
use Rattle.std.specs.Prelude.{ℕ, true, false, List, [], ◌∷◌, leb, Option as Maybe, Some, None}
use Rattle.std.proofs.Math.Option.{Option, none, some}
use Rattle.pages.specs.Pages.{value}

abbrev pub number_most : ℕ
number_most = 18_446_744_073_709_551_615

-- a number, if it is not above the largest
unfoldable pub at_most : Option ℕ → Option ℕ
at_most none = none
at_most (some n) = elim (leb n number_most) [ true ↦ some n | false ↦ none ]

-- what a word stands for; none if it is no number
unfoldable pub number_of : List ℕ → Option ℕ
number_of [] = none
number_of (b ∷ s) = at_most (value 0 (b ∷ s))

-- as the code tells it
abbrev pub told : Option ℕ → Maybe ℕ
told none = None
told (some n) = Some n
