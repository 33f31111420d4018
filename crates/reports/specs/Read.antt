-- What the code has of a report: whether it is sound, the pattern's name by its place and end, and from where on its records can be read.
use Rattle.std.specs.Prelude.{ℕ, ◌≡◌, true, List, [], ◌∷◌, leb, length, Result, Ok, Err}
use Rattle.std.proofs.Math.Option.{Option, none, some}
use Rattle.tokens.specs.declared.Refusal.{Refusal}
use Rattle.tokens.specs.Tokens.{Toks, toks}
use Rattle.meaning.specs.Reader.{Reader, ok, until}
use Rattle.meaning.specs.Meaning.{given, refused}
use Rattle.words.specs.Cursor.{span, stream, alive, Goes}
use Rattle.words.specs.Values.{told, value_of}
use Rattle.words.specs.declared.Cursor.{Cursor}
use Rattle.reports.specs.Report.{Signals, Offset, one_more, Record, one_record, opening, reported}
use Rattle.reports.specs.declared.Placed.{Placed}
use Rattle.reports.specs.declared.Opened.{Opened}
use Rattle.reports.specs.declared.Sound.{Sound}

-- THE PROMISE of a function that reads what it does not keep: the reader m goes from c to r with some answer
pub record Passes {A : Type 0} (text : List ℕ) (c : Cursor) (m : Reader A) (r : Cursor) : Type 0 where
  pub it : A
  pub goes : Goes text c m r it

-- ---- offsets that fall outside the pattern, of which `left` cycles are left behind the reference

-- the place of an offset, if it does
abbrev pub outside_at : ℕ → ℕ → ℕ → Option ℕ
outside_at left n at = told (leb left n) at

-- the first of two places
unfoldable pub earlier : Option ℕ → Option ℕ → Option ℕ
earlier none o = o
earlier (some p) o = some p

unfoldable pub first_outside : ℕ → List Offset → Option ℕ
first_outside left [] = none
first_outside left (o ∷ os) = earlier (outside_at left o.n o.at) (first_outside left os)

-- THE PROMISE of a function that reads a record's offsets: how many there are, and the first that falls outside
pub record Places (text : List ℕ) (c : Cursor) (left : ℕ) (r : Placed) : Type 0 where
  pub list : List Offset
  pub goes : Goes text c (until ";" one_more []) r.cursor list
  pub many : r.count ≡ length list
  pub first : value_of r.outside ≡ first_outside left list

-- ---- the whole report

-- THE PROMISE of what comes before the records: the pattern's name from `at` to `end`; and where reading goes on, it goes on as from the place `records`
pub record Opens (text : List ℕ) (c : Cursor) (r : Opened) : Type 0 where
  pub goes : Goes text c opening r.cursor (record { at = r.at; word = span text r.at r.end })
  pub there : alive r.cursor ≡ true → stream text r.cursor ≡ toks text r.records

-- a report that is sound: the pattern's name from `at` to `end`, and its records, which are read from the place `from` on
pub record Holds (ss : Signals) (bs : List ℕ) (at end from : ℕ) : Type 0 where
  pub list : List Record
  pub behind : Toks
  pub whole : reported ss bs ≡ given (record { pattern = record { at = at; word = span bs at end }; records = list })
  pub again : until "}" (one_record ss) [] (toks bs from) ≡ ok list behind

-- THE PROMISE of the whole pass: the report's refusal, or that it is sound
abbrev pub Decides : Signals → List ℕ → Result Sound Refusal → Type 0
Decides ss bs (Err r) = reported ss bs ≡ refused r.no r.place
Decides ss bs (Ok s) = Holds ss bs s.at s.end s.records
