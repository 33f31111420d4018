-- Windows laid end to end (document 01, "The services"; the third demand), all with one mark: what they give, joined.
use Rattle.std.specs.Prelude.{ℕ, ◌+◌, ◌*◌, ◌≤◌, List, [], ◌∷◌, ◌++◌, length, take}
use Rattle.meaning.specs.Meaning.{Answer, given, refused, Meaning}
use Rattle.meaning.specs.Services.{Window, window, rows_due, width_of}

-- one window: how many rows are wanted, and the bytes lent for them
pub record Lent : Type 0 where
  pub wanted : ℕ
  pub buffer : List ℕ

-- the rows of an answer, over rows of that width: the front of the buffer
unfoldable pub rows_given : ℕ → Answer Window → List ℕ
rows_given width (given w) = take (w.count * width) w.buffer
rows_given width (refused n p) = []

-- the rows of windows on a text, the first of them at a cycle, each of the others where the one before ends
unfoldable pub joined : List ℕ → ℕ → ℕ → ℕ → List Lent → List ℕ
joined text width mark first [] = []
joined text width mark first (l ∷ ls) =
    rows_given width (window text first l.wanted mark l.buffer) ++ joined text width mark (first + l.wanted) ls

-- each is lent room enough
unfoldable pub Roomy : Meaning → ℕ → List Lent → Type 0
Roomy m first [] = Unit {0}
Roomy m first (l ∷ ls) = (rows_due m first l.wanted * width_of m ≤ length l.buffer) × Roomy m (first + l.wanted) ls

-- how many rows they want together
unfoldable pub reach : List Lent → ℕ
reach [] = 0
reach (l ∷ ls) = l.wanted + reach ls
