-- Reading again what was read before: the definition's reader answers, so that the code tests nothing and goes where that goes.
use Rattle.std.specs.Prelude.{ℕ, ◌≡◌, true, List}
use Rattle.tokens.specs.Tokens.{Toks, toks}
use Rattle.meaning.specs.Reader.{Reader, ok, ◌>>◌, due}
use Rattle.words.specs.Cursor.{alive, stream}
use Rattle.words.specs.declared.Cursor.{Cursor}

-- from a cursor in the text the reader m answers a, and leaves us
pub record Answers {A : Type 0} (text : List ℕ) (c : Cursor) (m : Reader A) (a : A) (us : Toks) : Type 0 where
  pub on : alive c ≡ true
  pub placed : (at : ℕ) × (stream text c ≡ toks text at)
  pub gives : m (stream text c) ≡ ok a us

-- the code stands behind what was read
pub record Behind (text : List ℕ) (r : Cursor) (us : Toks) : Type 0 where
  pub on : alive r ≡ true
  pub there : stream text r ≡ us

-- a text begins with `STIL 1.0;`, and then these
pub record Opens (text : List ℕ) (ts : Toks) : Type 0 where
  pub last : ℕ
  pub read : (do due "STIL"; due "1.0"; due ";") (toks text 0) ≡ ok last ts
