-- Numbers that the code holds: up to a largest one, above every bound of document 01.
use Rattle.std.specs.Prelude.{ℕ, ◌+◌, ◌*◌, ◌-◌, min, ◌≡◌, Bool, true, false, leb, Option as Maybe, Some, None}
use Rattle.std.proofs.Math.Option.{Option, none, some}
use Rattle.tokens.specs.Bytes.{digit}

abbrev pub most : ℕ
most = 10_000_000_000

-- what the code has of a number
abbrev pub capped : Option ℕ → Option ℕ
capped none = none
capped (some n) = some (min most n)

-- a number that is not above m
unfoldable pub up_to : ℕ → Option ℕ → Option ℕ
up_to m none = none
up_to m (some n) = elim (leb n m) [ true ↦ some n | false ↦ none ]

-- a number that is one (right), or none
abbrev pub told : Bool → ℕ → Option ℕ
told true n = some n
told false n = none

-- what the code tells of a number
abbrev pub value_of : Maybe ℕ → Option ℕ
value_of None = none
value_of (Some n) = some n

-- a digit b behind a number of which the code has n
pub record Longer (n b r : ℕ) : Type 0 where
  pub is : digit b ≡ true → (m : ℕ) → n ≡ min most m → r ≡ min most (m * 10 + (b - 48))
