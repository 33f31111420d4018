-- The index (request 7): what callers in C get.
use Rattle.std.specs.Prelude.{ℕ, ◌≡◌, List, [], ◌∷◌}
use Rattle.std.proofs.Math.Option.{Option, none, some}
use Rattle.meaning.specs.Meaning.{Answer}
use Rattle.index.specs.Index.{Rebuilt as Bytes}
use Rattle.verdicts.specs.Buffers.{afterwards}
use Rattle.stil.specs.Interface.{with_room, Hands}

-- Index: its length; and its bytes
abbrev pub size_of : Bytes → List ℕ
size_of x = x.size ∷ []

pub record Writes (a : Answer Bytes) (index index' numbers : List ℕ) (r : ℕ) (numbers' : List ℕ) : Type 0 where
  pub counted : Hands 1 size_of a numbers r numbers'
  pub index_is : index' ≡ afterwards (λ x. x.buffer) (with_room 1 numbers a) index

-- Holds: 1 and the pattern's number, or twice 0 where there is none
abbrev pub holder_two : Option ℕ → List ℕ
holder_two (some k) = 1 ∷ k ∷ []
holder_two none = 0 ∷ 0 ∷ []
