-- What the code has of PatternBurst: the burst's name by its place and end, and so the listed names.
use Rattle.std.specs.Prelude.{ℕ, ◌*◌, ◌≤◌, ◌≡◌, true, List, length}
use Rattle.tokens.specs.Tokens.{Tok}
use Rattle.meaning.specs.Bounds.{list_most}
use Rattle.meaning.specs.Reader.{Reader}
use Rattle.meaning.specs.Meaning.{firsts}
use Rattle.words.specs.Cursor.{span, alive, Goes}
use Rattle.words.specs.Table.{names}
use Rattle.words.specs.declared.Cursor.{Cursor}

-- the token of the text from a place up to an end
abbrev pub token_at : List ℕ → ℕ → ℕ → Tok
token_at text at end = record { at = at; word = span text at end }

-- the first `count` names of a list
abbrev pub listed_in : List ℕ → List ℕ → ℕ → List Tok
listed_in text list count = firsts (names text list count)

abbrev pub list_length : ℕ
list_length = list_most * 2

-- THE PROMISE of a function that reads listed names: the reader m goes from c to r, and answers the first `count` names of the list
pub record Lists (text : List ℕ) (c : Cursor) (m : Reader (List Tok)) (r : Cursor) (list : List ℕ) (count : ℕ) : Type 0 where
  pub goes : Goes text c m r (listed_in text list count)
  pub long : length list ≡ list_length
  pub few : alive r ≡ true → count ≤ list_most

-- and of the whole block, with the burst's name
pub record Bursts (text : List ℕ) (c : Cursor) (m : Reader (Tok × List Tok)) (r : Cursor) (at end : ℕ) (list : List ℕ) (count : ℕ) : Type 0 where
  pub goes : Goes text c m r (token_at text at end, listed_in text list count)
  pub long : length list ≡ list_length
  pub few : alive r ≡ true → count ≤ list_most
