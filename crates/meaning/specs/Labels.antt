-- Labels (request 9): the names of patterns and X names share one name space with the burst's name, and one that is used already is refused 7 at the name.
use Rattle.std.specs.Prelude.{ℕ, Bool, true, false, ◌&&◌, ◌||◌, List, [], ◌∷◌, ltb}
use Rattle.std.proofs.Math.Option.{Option, none, some}
use Rattle.tokens.specs.Written.{bytes, same, cases}
use Rattle.tokens.specs.Tokens.{Tok, Toks, stop, tok}
use Rattle.meaning.specs.Refusals.{used_name}
use Rattle.meaning.specs.Reader.{Res, Reader, ok, refuse}

-- ---- the labels of a text, in order

-- at a token: a statement, a block or an assignment begins there; or a label is due; or neither
pub data Here : Type 0 where
  begins due within : Here

unfoldable pub beginning : Here → Bool
beginning begins = true
beginning due = false
beginning within = false

-- the tokens behind which something begins
unfoldable pub parting : List ℕ → Bool
parting w = same w (bytes "{") || same w (bytes "}") || same w (bytes ";")

-- the words behind which a label is due, where something begins with them
unfoldable pub labelling : List ℕ → Bool
labelling w = same w (bytes "Pattern") || same w (bytes "X")

-- behind the token w
unfoldable pub behind : Here → List ℕ → Here
behind h w = cases ((parting w, begins) ∷ (beginning h && labelling w, due) ∷ []) within

-- a label that is due is the next token, whatever it is
unfoldable pub labelled : Here → Tok → List Tok → List Tok
labelled begins t l = l
labelled due t l = t ∷ l
labelled within t l = l

unfoldable pub labels_from : Here → Toks → List Tok
labels_from h (stop n p) = []
labels_from h (tok t ts) = labelled h t (labels_from (behind h t.word) ts)

unfoldable pub labels : Toks → List Tok
labels ts = labels_from begins ts

-- ---- the first that is used already

unfoldable pub taken : List (List ℕ) → List ℕ → Bool
taken [] w = false
taken (v ∷ vs) w = same v w || taken vs w

-- behind tokens: their words too, the latest first
unfoldable pub used_by : List (List ℕ) → List Tok → List (List ℕ)
used_by vs [] = vs
used_by vs (t ∷ l) = used_by (t.word ∷ vs) l

-- the place of the first token whose word is one of these, or an earlier token's
unfoldable pub repeated : List (List ℕ) → List Tok → Option ℕ
repeated vs [] = none
repeated vs (t ∷ l) = elim (taken vs t.word) [ true ↦ some t.at | false ↦ repeated (t.word ∷ vs) l ]

-- behind the burst's name
unfoldable pub used_twice : List ℕ → Toks → Option ℕ
used_twice burst ts = repeated (burst ∷ []) (labels ts)

-- how it joins what else is read: 4 to 14 from left to right
unfoldable pub earlier : {A : Type 0} → Option ℕ → Res A → Res A
earlier none r = r
earlier (some q) (ok a ts) = refuse used_name q
earlier (some q) (refuse n p) = elim (ltb q p) [ true ↦ refuse used_name q | false ↦ refuse n p ]

-- so the reader m, where each name is used once
unfoldable pub each_once : {A : Type 0} → List ℕ → Reader A → Reader A
each_once burst m ts = earlier (used_twice burst ts) (m ts)
