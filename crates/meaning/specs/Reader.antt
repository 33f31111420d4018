-- Readers: functions that take tokens from the front and answer a value, or stop at the first fault with its number and place.
-- The tests on one token stand in the order of their numbers, so that the lowest is given.
use Rattle.std.specs.Prelude.{ℕ, zero, suc, Bool, true, false, not, List, [], ◌∷◌}
use Prim.Native.String.{String}
use Rattle.tokens.specs.Written.{bytes, same}
use Rattle.tokens.specs.Bytes.{wordy}
use Rattle.tokens.specs.Refusals.{not_here}
use Rattle.tokens.specs.Tokens.{Tok, Toks, stop, tok, left}

-- an answer and the tokens behind it, or a refusal: number, place
pub data Res (A : Type 0) : Type 0 where
  ok : A → Toks → Res A
  refuse : ℕ → ℕ → Res A

abbrev pub Reader : Type 0 → Type 0
Reader A = Toks → Res A

infixl 20 ◌>>=◌
infixl 20 ◌>>◌
-- what follows an answer; a refusal stays
unfoldable pub after : {A B : Type 0} → Res A → (A → Reader B) → Res B
after (ok a ts) f = f a ts
after (refuse n p) f = refuse n p

unfoldable pub ◌>>=◌ : {A B : Type 0} → Reader A → (A → Reader B) → Reader B
◌>>=◌ m f ts = after (m ts) f

abbrev pub ◌>>◌ : {A B : Type 0} → Reader A → Reader B → Reader B
◌>>◌ m k = m >>= λ a. k

unfoldable pub give : {A : Type 0} → A → Reader A
give a ts = ok a ts

-- refused where the test holds
unfoldable pub refuse_if : Bool → ℕ → ℕ → Reader Unit
refuse_if true n p ts = refuse n p
refuse_if false n p ts = ok tt ts

-- the next token; where there is none, what the tokens stop with
unfoldable pub any : Reader Tok
any (stop n p) = refuse n p
any (tok t ts) = ok t ts

-- is the next token this one
unfoldable pub ahead_of : List ℕ → Toks → Bool
ahead_of w (stop n p) = false
ahead_of w (tok t ts) = same t.word w

abbrev pub ahead : String → Toks → Bool
ahead s = ahead_of (bytes s)

-- this token is due, and no other; its place
unfoldable pub due_of : List ℕ → Reader ℕ
due_of w = do
  t ← any
  refuse_if (not (same t.word w)) not_here t.at
  give t.at

abbrev pub due : String → Reader ℕ
due s = due_of (bytes s)

-- the entry whose token is next, at its place; another token is not allowed here
unfoldable pub one_of : {A : Type 0} → List (String × (ℕ → Reader A)) → Tok → Reader A
one_of [] t ts = refuse not_here t.at
one_of (x ∷ xs) t ts = elim (same t.word (bytes x.0)) [ true ↦ x.1 t.at ts | false ↦ one_of xs t ts ]

unfoldable pub choose : {A : Type 0} → List (String × (ℕ → Reader A)) → Reader A
choose xs = any >>= one_of xs

-- a word, and no other token
unfoldable pub is_word : List ℕ → Bool
is_word [] = false
is_word (b ∷ s) = wordy b

unfoldable pub word : Reader Tok
word = do
  t ← any
  refuse_if (not (is_word t.word)) not_here t.at
  give t

-- one reader where this token is next, and another where it is not
unfoldable pub if_ahead : {A : Type 0} → String → Reader A → Reader A → Reader A
if_ahead s m k ts = elim (ahead s ts) [ true ↦ m ts | false ↦ k ts ]

-- a part that may be missing
unfoldable pub option : {S : Type 0} → String → (S → Reader S) → S → Reader S
option s part x = if_ahead s (part x) (give x)

-- a part again and again, as long as a test on what is next holds. A turn takes a token, so that as many turns as there are
-- tokens are enough
module _ {S : Type 0} (test : Toks → Bool) (step : S → Reader S) where
  unfoldable pub while_f : ℕ → S → Reader S
  while_f zero s ts = ok s ts
  while_f (suc k) s ts = elim (test ts) [ true ↦ (step s >>= λ s'. while_f k s') ts | false ↦ ok s ts ]

  unfoldable pub while : S → Reader S
  while s ts = while_f (suc (left ts)) s ts

-- a part again and again until a closing token, which is taken too; that token's place
unfoldable pub closed : {S : Type 0} → String → (S → Reader S) → S → Reader (S × ℕ)
closed close step s = do
  x ← while (λ ts. not (ahead close ts)) step s
  p ← due close
  give (x, p)

-- the same, without the place
unfoldable pub until : {S : Type 0} → String → (S → Reader S) → S → Reader S
until close step s = do
  x ← closed close step s
  give x.0
