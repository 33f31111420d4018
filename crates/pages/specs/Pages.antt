-- Bytes put into a page one behind the other; numbers as decimal digits.
use Rattle.std.specs.Prelude.{ℕ, zero, suc, ◌+◌, ◌*◌, ◌-◌, ◌/◌, ◌%◌, ◌≡◌, true, false, ◌&&◌, List, [], ◌∷◌, ◌++◌, length, take, drop, leb, ltb}
use Rattle.std.proofs.Math.Option.{Option, none, some}

-- a number's digits, before those of acc; so many at most
unfoldable pub digits : ℕ → ℕ → List ℕ → List ℕ
digits zero n acc = acc
digits (suc f) n acc = elim (ltb n 10) [ true ↦ (48 + n) ∷ acc | false ↦ digits f (n / 10) ((48 + n % 10) ∷ acc) ]

-- 20 digits are enough for every number of 64 bits
abbrev pub digits_most : ℕ
digits_most = 20

unfoldable pub decimal : ℕ → List ℕ
decimal n = digits digits_most n []

-- what digits stand for, read behind m; none if a byte is no digit
unfoldable pub value : ℕ → List ℕ → Option ℕ
value m [] = some m
value m (b ∷ s) = elim (leb 48 b && leb b 57) [ true ↦ value (m * 10 + (b - 48)) s | false ↦ none ]

-- the bytes xs were put at a place of a page; the rest of it stays
pub record Puts (before : List ℕ) (at : ℕ) (xs : List ℕ) (r : ℕ) (after : List ℕ) : Type 0 where
  pub page : after ≡ take at before ++ (xs ++ drop (at + length xs) before)
  pub behind : r ≡ at + length xs
