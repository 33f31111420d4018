-- Lists of numbers as ordered sets: signals, characters.
use Rattle.std.specs.Prelude.{ℕ, suc, Bool, true, false, ◌&&◌, ◌||◌, List, [], ◌∷◌, eqb}

unfoldable pub has : ℕ → List ℕ → Bool
has x [] = false
has x (y ∷ l) = eqb y x || has x l

-- does some number of the first list stand in the second
unfoldable pub meets : List ℕ → List ℕ → Bool
meets [] l = false
meets (x ∷ xs) l = has x l || meets xs l

-- do all
unfoldable pub inside : List ℕ → List ℕ → Bool
inside [] l = true
inside (x ∷ xs) l = has x l && inside xs l

-- the first list without what stands in the second
unfoldable pub without : List ℕ → List ℕ → List ℕ
without [] l = []
without (x ∷ xs) l = elim (has x l) [ true ↦ without xs l | false ↦ x ∷ without xs l ]

-- does a number stand there twice
unfoldable pub repeats : List ℕ → Bool
repeats [] = false
repeats (x ∷ xs) = has x xs || repeats xs

unfoldable pub count : ℕ → List ℕ → ℕ
count x [] = 0
count x (y ∷ l) = elim (eqb y x) [ true ↦ suc (count x l) | false ↦ count x l ]

unfoldable pub empty : {A : Type 0} → List A → Bool
empty [] = true
empty (x ∷ xs) = false
