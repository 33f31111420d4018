-- Bytes of words as the code looks at them: eight as one number, the last one, the first one.
use Rattle.std.specs.Prelude.{ℕ, zero, suc, ◌+◌, ◌*◌, ◌-◌, ◌≤◌, ◌<◌, ◌≡◌, Bool, ◌&&◌, List, leb, length, get_or}

-- the number whose digits to base 256 are the n bytes from a place on, the first the lowest
unfoldable pub packed : List ℕ → ℕ → ℕ → ℕ
packed w i zero = 0
packed w i (suc n) = get_or w i 0 + packed w (suc i) n * 256

-- a word with a last byte
pub record EndsWith (w : List ℕ) (b : ℕ) : Type 0 where
  pub some : 0 < length w
  pub last : b ≡ get_or w (length w - 1) 0

-- from n on the bytes are 0
pub record ZerosFrom (w : List ℕ) (n : ℕ) : Type 0 where
  pub within : n ≤ length w
  pub none : (i : ℕ) → n ≤ i → get_or w i 0 ≡ 0

abbrev pub capital : ℕ → Bool
capital b = leb 65 b && leb b 90
