-- How rows are parted (request 11), in the request's words: where a Pattern begins and nowhere else, and each longest stretch of equal rows.
use Rattle.std.specs.Prelude.{ℕ, ◌≤◌, ◌≡◌, true, false, List, [], ◌∷◌, ◌++◌, replicate}
use Rattle.folded.specs.Flat.{Row, same_row, loses, Stretch}

unfoldable pub concat : {A : Type 0} → List (List A) → List A
concat [] = []
concat (l ∷ ls) = l ++ concat ls

-- ---- Patterns

-- from a row on, no pin goes from assigned to unassigned
unfoldable pub Steady : List ℕ → List Row → Type 0
Steady old [] = Unit {0}
Steady old (x ∷ xs) = (loses old x.pins ≡ false) × Steady x.pins xs

-- within a Pattern
abbrev pub Begins : List Row → Type 0
Begins [] = Unit {0}
Begins (x ∷ xs) = Steady x.pins xs

-- between the last row of one Pattern and the first of the next, some pin does
pub record Border (p q : List Row) : Type 0 where
  pub front : List Row
  pub last : Row
  pub first : Row
  pub back : List Row
  pub one : p ≡ front ++ last ∷ []
  pub other : q ≡ first ∷ back
  pub lost : loses last.pins first.pins ≡ true

-- each Pattern and the next; there is at least one
unfoldable pub Parted : List (List Row) → Type 0
Parted [] = ⊥
Parted (p ∷ []) = Begins p
Parted (p ∷ q ∷ ps) = Begins p × Border p q × Parted (q ∷ ps)

-- ---- stretches

unfoldable pub expand : List Stretch → List Row
expand [] = []
expand (y ∷ ys) = replicate y.1 y.0 ++ expand ys

-- each has a row at least, and the next one's is another: none could be longer
unfoldable pub Longest : List Stretch → Type 0
Longest [] = Unit {0}
Longest (y ∷ []) = 1 ≤ y.1
Longest (y ∷ z ∷ ys) = (1 ≤ y.1) × (same_row y.0 z.0 ≡ false) × Longest (z ∷ ys)
