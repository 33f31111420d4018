-- Calls one after the other, each lent the store as the last one left it, and the close (request 3).
use Rattle.std.specs.Prelude.{ℕ, List, [], ◌∷◌, ◌++◌}
use Rattle.tokens.specs.Tokens.{Toks, stop, tok}
use Rattle.intake.specs.Intake.{Progress, chunked, closed, begun}

unfoldable pub calls : Progress → List (List ℕ) → List ℕ → Progress × List ℕ
calls p [] store = (p, store)
calls p (c ∷ cs) store = let x = chunked p c store in calls x.0 cs x.1

-- a raw text that comes in these chunks
unfoldable pub all_chunks : List (List ℕ) → List ℕ
all_chunks [] = []
all_chunks (c ∷ cs) = c ++ all_chunks cs

-- what is answered at last, and the store then
unfoldable pub intake : List (List ℕ) → List ℕ → Progress × List ℕ
intake cs store = let x = calls begun cs store in closed x.0 x.1

-- the bytes of the tokens, without their places
unfoldable pub words_of : Toks → List (List ℕ)
words_of (stop n p) = []
words_of (tok t ts) = t.word ∷ words_of ts
