-- What the code doesn't hold: the reader m goes from c to r and gives an answer, of which the code's tables hold what P says.
use Rattle.std.specs.Prelude.{ℕ, ◌≡◌, true, List}
use Rattle.meaning.specs.Reader.{Reader}
use Rattle.words.specs.declared.Cursor.{Cursor}
use Rattle.words.specs.Cursor.{alive, from, Goes}

pub record Makes {A : Type 0} (text : List ℕ) (c : Cursor) (m : Reader A) (r : Cursor) (P : A → Type 0) : Type 0 where
  pub it : A
  pub goes : Goes text c m r it
  pub held : alive r ≡ true → P it

-- a part of a reader that is done: reading m from c is reading k from r
pub record Brings {A : Type 0} (text : List ℕ) (c : Cursor) (m : Reader A) (r : Cursor) (k : Reader A) : Type 0 where
  pub same : from text r k ≡ from text c m
