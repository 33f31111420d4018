-- A list of spans in lent numbers, two for each span: as many spans as there is room for stand at its front.
use Rattle.std.specs.Prelude.{ℕ, zero, suc, ◌≡◌, List, [], ◌∷◌}
use Rattle.std.proofs.Math.Option.{Option, none, some}
use Rattle.saving.specs.Saving.{Span}

-- a span's numbers behind those of k spans, if there is room for both
unfoldable pub noted : ℕ → Span → List ℕ → List ℕ
noted k s [] = []
noted k s (a ∷ []) = a ∷ []
noted zero s (a ∷ b ∷ l) = s.first ∷ s.behind ∷ l
noted (suc k) s (a ∷ b ∷ l) = a ∷ b ∷ noted k s l

-- those of all spans
unfoldable pub noted_all : List Span → List ℕ → List ℕ
noted_all [] numbers = numbers
noted_all (s ∷ spans) [] = []
noted_all (s ∷ spans) (a ∷ []) = a ∷ []
noted_all (s ∷ spans) (a ∷ b ∷ numbers) = s.first ∷ s.behind ∷ noted_all spans numbers

-- one more, if there is one, behind k of them
abbrev pub counted_on : ℕ → Option Span → ℕ
counted_on k none = k
counted_on k (some s) = suc k

abbrev pub noted_on : ℕ → Option Span → List ℕ → List ℕ
noted_on k none numbers = numbers
noted_on k (some s) numbers = noted k s numbers

pub record Notes (k : ℕ) (o : Option Span) (before : List ℕ) (r : ℕ) (after : List ℕ) : Type 0 where
  pub counted : r ≡ counted_on k o
  pub numbers : after ≡ noted_on k o before
