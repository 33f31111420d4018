-- References (request 9): the X names of a pattern, each with how many cycles of the pattern come before it at its first execution.
use Rattle.std.specs.Prelude.{ℕ, ◌+◌, ◌*◌, true, false, List, [], ◌∷◌, ◌++◌}
use Rattle.std.proofs.Math.Option.{Option, some}
use Rattle.tokens.specs.Written.{same}
use Rattle.tokens.specs.Tokens.{Tok, Toks, stop, tok}
use Rattle.meaning.specs.Reader.{Res, ok, refuse, any, ahead}
use Rattle.meaning.specs.Names.{find}
use Rattle.meaning.specs.Body.{assigning, choosing, looped, shifted, entered, Body, done, vec, set', inner}
use Rattle.meaning.specs.Statements.{Env}
use Rattle.meaning.specs.Run.{cycles}
use Rattle.held.specs.Held.{free_head}

-- ---- tokens behind others

-- behind what was read
unfoldable pub behind : {A : Type 0} → Res A → Toks
behind (ok a us) = us
behind (refuse n p) = stop n p

module _ (e : Env) where
  -- behind the head that stands at ts
  unfoldable pub behind_head : Toks → Toks
  behind_head ts = behind (free_head e ts)

  -- behind the body that is held from ts on, and its `}`; a used body is held elsewhere
  unfoldable pub behind_body : Toks → Body → Toks
  behind_body ts done = behind_head ts
  behind_body ts (vec p a r) = behind_body (behind_head ts) r
  behind_body ts (set' x r) = behind_body (behind_head ts) r
  behind_body ts (inner (looped m) b r) = behind_body (behind_body (behind_head ts) b) r
  behind_body ts (inner shifted b r) = behind_body (behind_body (behind_head ts) b) r
  behind_body ts (inner (entered k t a) b r) = behind_body (behind_head ts) r

-- ---- X names

-- the next token, with n cycles before it
unfoldable pub next_at : ℕ → Toks → List (Tok × ℕ)
next_at n (stop m p) = []
next_at n (tok t ts) = (t, n) ∷ []

-- the name of `X NAME;` at ts; `C { .. }` has none
unfoldable pub name_at : ℕ → Toks → List (Tok × ℕ)
name_at n ts = elim (ahead "X" ts) [ true ↦ next_at n (behind (any ts)) | false ↦ [] ]

-- the X names of the body that is held from ts on, in order, where n cycles come before it. Those in a Loop are met in its first turn; a used body has none
unfoldable pub referred : Env → Toks → ℕ → Body → List (Tok × ℕ)
referred e ts n done = []
referred e ts n (vec p a r) = referred e (behind_head e ts) (n + 1) r
referred e ts n (set' (assigning a) r) = name_at n ts ++ referred e (behind_head e ts) n r
referred e ts n (set' (choosing k) r) = referred e (behind_head e ts) n r
referred e ts n (inner (looped m) b r) =
    referred e (behind_head e ts) n b ++ referred e (behind_body e (behind_head e ts) b) (n + m * cycles 0 b) r
referred e ts n (inner shifted b r) = referred e (behind_body e (behind_head e ts) b) n r
referred e ts n (inner (entered k t a) b r) = referred e (behind_head e ts) (n + cycles t b) r

-- ---- references

-- how many cycles of the pattern of name p come before the reference w: none before p itself, and f tells it of the X names
unfoldable pub past_by : List ℕ → (List ℕ → Option ℕ) → List ℕ → Option ℕ
past_by p f w = elim (same p w) [ true ↦ some 0 | false ↦ f w ]

-- where the pattern's body b is held from ts on: the first X of that name counts
unfoldable pub past : Env → Toks → Body → List ℕ → List ℕ → Option ℕ
past e ts b p w = past_by p (find (referred e ts 0 b)) w
