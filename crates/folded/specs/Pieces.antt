-- A text as pieces: words, each with the byte behind it, and bytes alone. No two words touch.
use Rattle.std.specs.Prelude.{ℕ, List, [], ◌∷◌, ◌++◌}

pub data Piece : Type 0 where
  -- a word and the byte behind it
  word : List ℕ → ℕ → Piece
  -- a byte that no word stands before
  only : ℕ → Piece

-- the bytes of some pieces
unfoldable pub laid : List Piece → List ℕ
laid [] = []
laid (word w b ∷ ps) = w ++ b ∷ laid ps
laid (only b ∷ ps) = b ∷ laid ps

-- each of some things in order, before the pieces behind them; `put` has one thing's pieces
unfoldable pub each : {A : Type 0} → (A → List Piece → List Piece) → List A → List Piece → List Piece
each put [] behind = behind
each put (x ∷ xs) behind = put x (each put xs behind)

-- ---- bytes by their names

abbrev pub lf : ℕ
lf = 10

abbrev pub space : ℕ
space = 32

abbrev pub quote : ℕ
quote = 39

abbrev pub dash : ℕ
dash = 45

abbrev pub semicolon : ℕ
semicolon = 59

abbrev pub equals : ℕ
equals = 61

abbrev pub opening : ℕ
opening = 123

abbrev pub closing : ℕ
closing = 125
