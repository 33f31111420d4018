-- Folding row by row, from the left: what is left to write of a listed pattern's rows, where a row is in hand that came so often, and a table is in force.
use Rattle.std.specs.Prelude.{ℕ, suc, ◌+◌, true, false, List, [], ◌∷◌}
use Rattle.std.proofs.Math.Option.{Option, none, some}
use Rattle.folded.specs.Pieces.{Piece, word, only, each, lf, space, opening, closing}
use Rattle.folded.specs.Flat.{Row, same_row, loses, repeats, valued, choosing}
use Rattle.folded.specs.Layout.{say, pattern_name, line_put}

-- `Pattern pN{`
unfoldable pub opened : ℕ → List Piece → List Piece
opened i behind = say "Pattern" space ∷ word (pattern_name i) opening ∷ only lf ∷ behind

-- `}`
unfoldable pub closed : List Piece → List Piece
closed behind = only closing ∷ only lf ∷ behind

module _ (signals tables : List (List ℕ)) where
  -- the row in hand: its table if it is another, then its V or Loop
  unfoldable pub flushed : Option ℕ → Row → ℕ → List Piece → List Piece
  flushed t x c behind = each (line_put signals tables) (choosing t x.table (repeats c (valued 0 x.pins) ∷ [])) behind

  -- In Pattern i, where t is in force and the row x came c times: it and the rows behind it, and then what stands behind, from the number of the next Pattern on
  unfoldable pub rest : ℕ → Option ℕ → Row → ℕ → List Row → (ℕ → List Piece) → List Piece
  rest i t x c [] behind = flushed t x c (closed (behind (suc i)))
  rest i t x c (y ∷ ys) behind =
      elim (loses x.pins y.pins) [
        | true ↦ flushed t x c (closed (opened (suc i) (rest (suc i) none y 1 ys behind)))
        | false ↦ elim (same_row x y) [
          | true ↦ rest i t x (suc c) ys behind
          | false ↦ flushed t x c (rest i (some x.table) y 1 ys behind)
        ]
      ]

  -- a listed pattern's rows, in Patterns from number i on
  unfoldable pub walked : ℕ → List Row → (ℕ → List Piece) → List Piece
  walked i [] behind = opened i (closed (behind (suc i)))
  walked i (x ∷ xs) behind = opened i (rest i none x 1 xs behind)

  -- all listed patterns, one after the other
  unfoldable pub walked_all : ℕ → List (List Row) → List Piece → List Piece
  walked_all i [] behind = behind
  walked_all i (l ∷ ls) behind = walked i l (λ j. walked_all j ls behind)

-- how many Patterns begin behind a row
unfoldable pub begun : Row → List Row → ℕ
begun x [] = 0
begun x (y ∷ ys) = elim (loses x.pins y.pins) [ true ↦ suc (begun y ys) | false ↦ begun y ys ]

-- how many all listed patterns have
unfoldable pub begun_all : List (List Row) → ℕ
begun_all [] = 0
begun_all ([] ∷ ls) = suc (begun_all ls)
begun_all ((x ∷ xs) ∷ ls) = suc (begun x xs) + begun_all ls
