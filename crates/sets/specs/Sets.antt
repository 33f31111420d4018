-- What the code's sets stand for: their first numbers, in order.
use Rattle.std.specs.Prelude.{ℕ, ◌+◌, ◌<◌, ◌≡◌, List, [], ◌∷◌, ◌++◌, take}
use Rattle.meaning.specs.Bounds.{signals_most}
use Rattle.sets.specs.declared.Set.{Set}

abbrev pub list_of : Set → List ℕ
list_of s = take s.n s.v

-- one number more, where there is room
pub record Pushed (s : Set) (x : ℕ) (r : Set) : Type 0 where
  pub list : s.n < signals_most → list_of r ≡ list_of s ++ x ∷ []
  pub count : s.n < signals_most → r.n ≡ s.n + 1
