-- What the code has of DATA: how many characters there are, and those at the front of a buffer, as far as they fit.
use Rattle.std.specs.Prelude.{ℕ, ◌-◌, ◌≤◌, min, ◌≡◌, Bool, true, List, [], ◌∷◌, ◌++◌, length, get_or}
use Rattle.meaning.specs.Reader.{Reader, any, ◌>>=◌}
use Rattle.meaning.specs.Timing.{wave_char}
use Rattle.meaning.specs.Data.{repeat_of, times, piece}
use Rattle.words.specs.declared.Cursor.{Cursor}
use Rattle.words.specs.Cursor.{alive, Goes}

-- a count that the code holds: up to one that is above the length of every buffer
abbrev pub count_most : ℕ
count_most = 9_223_372_036_854_775_808

-- characters written over the front of a buffer: what has no room is dropped, and what stood behind them stays
unfoldable pub over : List ℕ → List ℕ → List ℕ
over [] entry = entry
over (c ∷ cs) [] = []
over (c ∷ cs) (b ∷ entry) = c ∷ over cs entry

-- the n characters cs, in a buffer that was `entry` before
pub record Holds (entry buffer : List ℕ) (n : ℕ) (cs : List ℕ) : Type 0 where
  pub count : n ≡ min count_most (length cs)
  pub front : buffer ≡ over cs entry

-- the characters ds, put behind n that a buffer holds
pub record Adds (before : List ℕ) (n : ℕ) (ds behind : List ℕ) (m : ℕ) : Type 0 where
  pub kept : length behind ≡ length before
  pub adds : (entry cs : List ℕ) → Holds entry before n cs → Holds entry behind m (cs ++ ds)

-- the reader k, which answers characters, goes from c to r; where it goes on, they are put behind n that the buffer holds
pub record Puts (text : List ℕ) (c : Cursor) (k : Reader (List ℕ)) (r : Cursor) (before : List ℕ) (n : ℕ) (behind : List ℕ) (m : ℕ) : Type 0 where
  pub ds : List ℕ
  pub goes : Goes text c k r ds
  pub kept : length behind ≡ length before
  pub puts : alive r ≡ true → Adds before n ds behind m

-- THE PROMISE of `data`: the reader k, which answers characters and the place of their `;`, goes from c to r; where it goes on, the buffer holds the
-- characters. `entry` is the buffer before, whose length it keeps
pub record Fills (text : List ℕ) (c : Cursor) (k : Reader (List ℕ × ℕ)) (r : Cursor) (entry buffer : List ℕ) (n last : ℕ) : Type 0 where
  pub cs : List ℕ
  pub goes : Goes text c k r (cs, last)
  pub kept : length buffer ≡ length entry
  pub holds : alive r ≡ true → Holds entry buffer n cs

-- one letter or digit alone is ahead
pub record Single (text : List ℕ) (c : Cursor) : Type 0 where
  pub on : alive c ≡ true
  pub one : c.end - c.at ≡ 1
  pub inside : c.end ≤ length text
  pub char : wave_char (get_or text c.at 0) ≡ true

-- `r` and a number, behind `\`
abbrev pub times_due : Reader ℕ
times_due = any >>= λ t. times t (repeat_of t.word)

abbrev pub piece_due : Bool → Reader (List ℕ)
piece_due may = any >>= piece may
