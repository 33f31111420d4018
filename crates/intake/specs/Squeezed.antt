-- What becomes of a raw text (request 3): each longest run of blanks and comments becomes one LF if it holds an LF, else one space; all else is kept.
use Rattle.std.specs.Prelude.{ℕ, suc, Bool, true, false, ◌||◌, List, [], ◌∷◌, ◌++◌, eqb}
use Rattle.std.proofs.Math.Option.{Option, none, some}
use Rattle.tokens.specs.Tokens.{Mode, plain, inword, line, closing, opened, block, Act, go, token, bad, act}

-- a byte of the raw text: kept, or one of a run (is it an LF?)
pub data Piece : Type 0 where
  kept : ℕ → Piece
  in_run : Bool → Piece

-- by what the token rules do at the byte: the bytes of tokens are kept, blanks and comments are a run
unfoldable pub piece_of : Act → ℕ → Piece
piece_of (token w m) b = kept b
piece_of (go inword) b = kept b
piece_of (go plain) b = in_run (eqb b 10)
piece_of (go line) b = in_run (eqb b 10)
piece_of (go closing) b = in_run (eqb b 10)
piece_of (go (opened q)) b = in_run (eqb b 10)
piece_of (go (block q)) b = in_run (eqb b 10)
piece_of bad b = kept b

unfoldable pub mode_of : Act → Mode
mode_of (token w m) = m
mode_of (go m) = m
mode_of bad = plain

unfoldable pub pieces : Mode → ℕ → List ℕ → List Piece
pieces m p [] = []
pieces m p (b ∷ s) = let a = act m p b s in piece_of a b ∷ pieces (mode_of a) (suc p) s

-- a run's byte: does it hold an LF?
unfoldable pub mark_of : Bool → ℕ
mark_of true = 10
mark_of false = 32

unfoldable pub of_run : Option Bool → List ℕ
of_run none = []
of_run (some lf) = mark_of lf ∷ []

unfoldable pub longer : Option Bool → Bool → Option Bool
longer none lf = some lf
longer (some l) lf = some (l || lf)

-- behind a run that is not over, if there is one
unfoldable pub joined_runs : Option Bool → List Piece → List ℕ
joined_runs r [] = of_run r
joined_runs r (kept b ∷ xs) = of_run r ++ b ∷ joined_runs none xs
joined_runs r (in_run lf ∷ xs) = joined_runs (longer r lf) xs

unfoldable pub squeezed : List ℕ → List ℕ
squeezed raw = joined_runs none (pieces plain 0 raw)
