-- Fold (request 11): what callers in C get, the folded text and its length.
use Rattle.std.specs.Prelude.{ℕ, ◌≡◌, List, [], ◌∷◌}
use Rattle.meaning.specs.Meaning.{Answer}
use Rattle.folded.specs.Fold.{Folded}
use Rattle.verdicts.specs.Buffers.{afterwards}
use Rattle.stil.specs.Interface.{with_room, Hands}

abbrev pub length_of : Folded → List ℕ
length_of x = x.size ∷ []

pub record Flattens (a : Answer Folded) (folded folded' numbers : List ℕ) (r : ℕ) (numbers' : List ℕ) : Type 0 where
  pub counted : Hands 1 length_of a numbers r numbers'
  pub folded_is : folded' ≡ afterwards (λ x. x.buffer) (with_room 1 numbers a) folded
