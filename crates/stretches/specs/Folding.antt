-- What is promised of rows that are folded one after the other: what was written, and what is then still to be written.
use Rattle.std.specs.Prelude.{ℕ, zero, suc, ◌+◌, ◌≤◌, ◌<◌, ◌≡◌, List, [], ◌∷◌, ◌++◌, length, Option as Maybe, Some, None}
use Rattle.std.proofs.Math.Option.{Option, none, some}
use Rattle.meaning.specs.Bounds.{cycles_most}
use Rattle.folded.specs.Pieces.{Piece, laid}
use Rattle.folded.specs.Flat.{Row}
use Rattle.folded.specs.Walk.{opened, closed, rest, begun}
use Rattle.pens.specs.Pens.{Writes}
use Rattle.pens.specs.declared.Pen.{Pen}
use Rattle.stretches.specs.Rows.{row_in}
use Rattle.stretches.specs.declared.Folding.{Folding}

-- the table in force, as the code holds it
abbrev pub in_force : Maybe ℕ → Option ℕ
in_force None = none
in_force (Some k) = some k

-- of all that is to be written some bytes were, and `left` is still to come
pub record Onward (entry : List ℕ) (pen : Pen) (all exit : List ℕ) (r : Pen) (left : List ℕ) : Type 0 where
  pub bytes : List ℕ
  pub writes : Writes entry pen bytes exit r
  pub is : all ≡ bytes ++ left

module _ (signals tables : List (List ℕ)) where
  -- as `rest`, also where no row is in hand yet (it came 0 times)
  unfoldable pub ahead : ℕ → Option ℕ → Row → ℕ → List Row → (ℕ → List Piece) → List Piece
  ahead i t x zero [] behind = closed (behind (suc i))
  ahead i t x zero (y ∷ ys) behind = rest signals tables i t y 1 ys behind
  ahead i t x (suc c) ys behind = rest signals tables i t x (suc c) ys behind

  -- what is left to write where the row x is in hand: of the rows ys, and then what stands behind
  abbrev pub left_by : Folding → Row → List Row → (ℕ → List Piece) → List ℕ
  left_by f x ys behind = laid (ahead f.pattern (in_force f.table) x f.times ys behind)

-- how many Patterns begin behind the row in hand, or behind the first row
unfoldable pub begins : Row → ℕ → List Row → ℕ
begins x zero [] = 0
begins x zero (y ∷ ys) = begun y ys
begins x (suc c) ys = begun x ys

-- a row of n signals is in hand, and so many more can be counted
pub record Taking (n : ℕ) (f : Folding) (more : ℕ) (hand : List ℕ) : Type 0 where
  pub long : n + 2 ≤ length hand
  pub few_times : f.times + more ≤ cycles_most
  pub few_patterns : f.pattern + more ≤ cycles_most

module _ (signals tables : List (List ℕ)) where
  -- behind the row x came the row y, whatever stands behind it; from the second time on they are the same
  pub record Follows (entry : List ℕ) (f : Folding) (x y : Row) (exit : List ℕ) (r : Folding) : Type 0 where
    pub kept : length exit ≡ length entry
    pub on : (more : List Row) (behind : ℕ → List Piece) → Onward entry f.pen (left_by signals tables f x (y ∷ more) behind) exit r.pen (left_by signals tables r y more behind)
    pub counts : (more : List Row) → f.pattern + begins x f.times (y ∷ more) ≡ r.pattern + begins y r.times more
    pub few_times : r.times ≤ f.times + 1
    pub few_patterns : r.pattern ≤ f.pattern + 1
    pub again : 1 < r.times → x ≡ y

  -- the rows ys were taken, whatever stands behind them
  pub record Takes (n : ℕ) (entry : List ℕ) (f : Folding) (hand : List ℕ) (ys : List Row) (exit : List ℕ) (r : Folding) (hand' : List ℕ) : Type 0 where
    pub kept : length exit ≡ length entry
    pub hand_kept : length hand' ≡ length hand
    pub on : (more : List Row) (behind : ℕ → List Piece)
        → Onward entry f.pen (left_by signals tables f (row_in n hand) (ys ++ more) behind) exit r.pen (left_by signals tables r (row_in n hand') more behind)
    pub counts : (more : List Row) → f.pattern + begins (row_in n hand) f.times (ys ++ more) ≡ r.pattern + begins (row_in n hand') r.times more
    pub few_times : r.times ≤ f.times + length ys
    pub few_patterns : r.pattern ≤ f.pattern + length ys

  -- no row is left: what stands behind comes next
  pub record Ends (n : ℕ) (entry : List ℕ) (f : Folding) (hand exit : List ℕ) (r : Pen) : Type 0 where
    pub kept : length exit ≡ length entry
    pub on : (behind : ℕ → List Piece) → Onward entry f.pen (left_by signals tables f (row_in n hand) [] behind) exit r (laid (behind (suc f.pattern)))

-- the Pattern of number i begins, and no row is in hand
pub record Opens (entry : List ℕ) (pen : Pen) (i : ℕ) (exit : List ℕ) (r : Folding) : Type 0 where
  pub writes : Writes entry pen (laid (opened i [])) exit r.pen
  pub number : r.pattern ≡ i
  pub no_table : in_force r.table ≡ none
  pub no_row : r.times ≡ 0
