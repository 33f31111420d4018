-- Texts written out, tables of cases, and equal byte strings.
use Rattle.std.specs.Prelude.{ℕ, Bool, true, false, ◌&&◌, List, [], ◌∷◌, ◌++◌, eqb}
use Prim.Native.Char.{code}
use Prim.Native.String.{String, [] as ε, ◌∷◌ as ◌◂◌}

-- the bytes of a quoted text (all its characters are ASCII)
unfoldable pub bytes : String → List ℕ
bytes ε = []
bytes (c ◂ s) = code c ∷ bytes s

-- a text given by its lines, each ended by LF
unfoldable pub lines : List String → List ℕ
lines [] = []
lines (l ∷ ls) = bytes l ++ 10 ∷ lines ls

-- equal byte strings
unfoldable pub same : List ℕ → List ℕ → Bool
same [] [] = true
same [] (b ∷ t) = false
same (a ∷ s) [] = false
same (a ∷ s) (b ∷ t) = eqb a b && same s t

-- the first byte is b
unfoldable pub starts : ℕ → List ℕ → Bool
starts b [] = false
starts b (a ∷ s) = eqb a b

-- a table: the answer beside the first test that holds, or else the last one
unfoldable pub cases : {A : Type 0} → List (Bool × A) → A → A
cases [] z = z
cases (x ∷ xs) z = elim x.0 [ true ↦ x.1 | false ↦ cases xs z ]
