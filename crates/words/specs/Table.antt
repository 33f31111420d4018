-- Tables of names: two numbers a name, its place and its end in the text.
use Rattle.std.specs.Prelude.{ℕ, zero, suc, ◌+◌, ◌*◌, List, [], ◌∷◌, get_or}
use Rattle.tokens.specs.Tokens.{Tok}
use Rattle.words.specs.Cursor.{span}

-- the name of number i
abbrev pub name_of : List ℕ → List ℕ → ℕ → Tok
name_of text places i = record { at = get_or places (i * 2) 0; word = span text (get_or places (i * 2) 0) (get_or places (i * 2 + 1) 0) }

-- k names from number i on, each with its number
unfoldable pub names_from : List ℕ → List ℕ → ℕ → ℕ → List (Tok × ℕ)
names_from text places i zero = []
names_from text places i (suc k) = (name_of text places i, i) ∷ names_from text places (suc i) k

abbrev pub names : List ℕ → List ℕ → ℕ → List (Tok × ℕ)
names text places count = names_from text places 0 count

-- the same names, each standing for f of what it stood for
unfoldable pub named : {A B : Type 0} → (A → B) → List (Tok × A) → List (Tok × B)
named f [] = []
named f (x ∷ xs) = (x.0, f x.1) ∷ named f xs

-- what the names of a list stand for (the names are its `firsts`)
unfoldable pub seconds : {A : Type 0} → List (Tok × A) → List A
seconds [] = []
seconds (x ∷ xs) = x.1 ∷ seconds xs
