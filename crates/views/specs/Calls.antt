-- Calls of the service Window laid end to end (document 01, the third demand), all with one mark: what they leave in their buffers.
use Rattle.std.specs.Prelude.{ℕ, ◌+◌, List, [], ◌∷◌, ◌++◌, Result}
use Rattle.tokens.specs.declared.Refusal.{Refusal}
use Rattle.meaning.specs.Services.{window}
use Rattle.meaning.specs.Windows.{Lent, rows_given}
use Rattle.views.specs.Views.{shown_of, Views}
use Rattle.views.specs.declared.Rows.{Rows}

-- one call: how many rows were wanted, its buffer before and after, and the answer
pub record Call : Type 0 where
  pub wanted : ℕ
  pub before : List ℕ
  pub after : List ℕ
  pub answer : Result Rows Refusal

-- what was lent to them
unfoldable pub lent : List Call → List Lent
lent [] = []
lent (c ∷ cs) = record { wanted = c.wanted; buffer = c.before } ∷ lent cs

-- each keeps the service's promise, the first at a cycle, each of the others where the one before ends
unfoldable pub Kept : List ℕ → ℕ → ℕ → List Call → Type 0
Kept text mark first [] = Unit {0}
Kept text mark first (c ∷ cs) =
    Views (window text first c.wanted mark c.before) c.before c.after c.answer × Kept text mark (first + c.wanted) cs

-- the fronts of their buffers, as many rows as each answer counts, joined
unfoldable pub fronts : ℕ → List Call → List ℕ
fronts width [] = []
fronts width (c ∷ cs) = rows_given width (shown_of c.answer c.after) ++ fronts width cs
