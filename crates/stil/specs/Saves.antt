-- Saving hurt reels (request 13): what callers in C get.
use Rattle.std.specs.Prelude.{ℕ, ◌≡◌, List, [], ◌∷◌}
use Rattle.meaning.specs.Meaning.{Answer}
use Rattle.saving.specs.Saving.{Restored}
use Rattle.verdicts.specs.Buffers.{afterwards}
use Rattle.stil.specs.Interface.{with_room, Hands}

-- how many spans; the text; and their numbers
abbrev pub count_of : Restored → List ℕ
count_of x = x.count ∷ []

pub record Restores (a : Answer Restored) (text text' spans spans' numbers : List ℕ) (r : ℕ) (numbers' : List ℕ) : Type 0 where
  pub counted : Hands 1 count_of a numbers r numbers'
  pub text_is : text' ≡ afterwards (λ x. x.text) (with_room 1 numbers a) text
  pub spans_are : spans' ≡ afterwards (λ x. x.spans) (with_room 1 numbers a) spans
