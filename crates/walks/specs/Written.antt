-- Rows at the front of a buffer, the rest of which stays.
use Rattle.std.specs.Prelude.{ℕ, ◌*◌, ◌≡◌, List, ◌++◌, length, drop}
use Rattle.meaning.specs.Run.{Cycle}
use Rattle.meaning.specs.Services.{rows, row_width}

-- cycles over so many signals: each row is as wide as the others
abbrev pub Even : (mark signals : ℕ) → List Cycle → Type 0
Even mark signals cs = length (rows mark cs) ≡ length cs * row_width signals

-- the rows of the cycles cs, with a mark, in a buffer that was `entry` before
pub record Written (mark signals : ℕ) (entry buffer : List ℕ) (cs : List Cycle) : Type 0 where
  pub even : Even mark signals cs
  pub is : buffer ≡ rows mark cs ++ drop (length cs * row_width signals) entry
