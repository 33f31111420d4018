-- Where the code's reading stands: a cursor, and what the readers of the code promise.
use Rattle.std.specs.Prelude.{ℕ, ◌-◌, ◌≡◌, Bool, true, false, cond, not, ◌&&◌, List, take, drop, ltb, eqb}
use Rattle.tokens.specs.Refusals.{not_here}
use Rattle.tokens.specs.Tokens.{Tok, Toks, stop, tok, toks}
use Rattle.meaning.specs.Reader.{Res, Reader, refuse, give, ◌>>=◌, ◌>>◌, any, refuse_if}
use Rattle.words.specs.declared.Cursor.{Cursor}

-- bytes of the text, from a place up to an end
abbrev pub span : List ℕ → ℕ → ℕ → List ℕ
span text at end = take (end - at) (drop at text)

-- the token ahead
abbrev pub ahead : List ℕ → Cursor → Tok
ahead text c = record { at = c.at; word = span text c.at c.end }

-- the number with which the tokens stop there: 4 where the text ends, or that of a fault
abbrev pub stop_no : Cursor → ℕ
stop_no c = elim (eqb c.fault 0) [ true ↦ not_here | false ↦ c.fault ]

-- the tokens from there on
unfoldable pub stream : List ℕ → Cursor → Toks
stream text c = elim (ltb c.at c.end) [ true ↦ tok (ahead text c) (toks text c.end) | false ↦ stop (stop_no c) c.at ]

-- a cursor that stands at the first token from a place
pub record Stands (text : List ℕ) (at : ℕ) (c : Cursor) : Type 0 where
  pub on : c.no ≡ 0
  pub there : stream text c ≡ toks text at

-- is nothing refused
abbrev pub alive : Cursor → Bool
alive c = eqb c.no 0

-- a reader from a cursor on: a refusal stays
unfoldable pub from : {A : Type 0} → List ℕ → Cursor → Reader A → Res A
from text c m = elim (alive c) [ true ↦ m (stream text c) | false ↦ refuse c.no c.at ]

-- THE PROMISE of a function that does what the reader m does: from the cursor c it goes to r, with the answer a
pub record Goes {A : Type 0} (text : List ℕ) (c : Cursor) (m : Reader A) (r : Cursor) (a : A) : Type 0 where
  pub same : from text r (give a) ≡ from text c m

-- refused with n at p where the test holds, unless it was refused before
abbrev pub refusing : Cursor → Bool → ℕ → ℕ → Cursor
refusing c b n p = cond (alive c && b) (record { no = n; fault = 0; at = p; end = 0 }) c

pub record Checked (c : Cursor) (b : Bool) (n p : ℕ) (r : Cursor) : Type 0 where
  pub is : r ≡ refusing c b n p

-- the token ahead is taken if it is the right one; else it is not allowed here
abbrev pub taking : Bool → Reader Tok
taking right = do
  t ← any
  refuse_if (not right) not_here t.at
  give t
