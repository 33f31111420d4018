-- The writing pass over a report's records: the answers stand at the fronts of three rows.
use Rattle.std.specs.Prelude.{ℕ, ◌+◌, ◌≤◌, ◌≡◌, List, [], ◌∷◌, ◌++◌, length}
use Rattle.std.proofs.Math.Option.{Option}
use Rattle.tokens.specs.Tokens.{Toks}
use Rattle.meaning.specs.Bounds.{cycles_most}
use Rattle.meaning.specs.Reader.{until}
use Rattle.meaning.specs.Meaning.{given}
use Rattle.words.specs.Cursor.{Goes}
use Rattle.words.specs.declared.Cursor.{Cursor}
use Rattle.reports.specs.Report.{Signals, Offset, one_more, Record, one_record, Fail, answered_of, answered_all}
use Rattle.reports.proofs.Counting.{fails_from}
use Rattle.fails.specs.Fails.{Rows, in_front}
use Rattle.fails.specs.Judged.{Records}
use Rattle.fails.specs.declared.Wrote.{Wrote}

-- the three rows are those of b with the answers gs at their fronts
pub record Stand (b : Rows) (gs : List Fail) (cycles signals letters : List ℕ) : Type 0 where
  pub cycles_are : cycles ≡ in_front (λ x. x.cycle) gs b.cycles
  pub signals_are : signals ≡ in_front (λ x. x.signal) gs b.signals
  pub letters_are : letters ≡ in_front (λ x. x.letter) gs b.letters

-- they have room for n answers
pub record Roomy (n : ℕ) (b : Rows) : Type 0 where
  pub cycles : n ≤ length b.cycles
  pub signals : n ≤ length b.signals
  pub letters : n ≤ length b.letters

-- THE PROMISE: behind the answers gs, which stand in rows with room for more, those of fs stand too, and so many were written
pub record Adds (fs : List Fail) (at : ℕ) (cycles signals letters cycles' signals' letters' : List ℕ) (r : ℕ) : Type 0 where
  pub all : (b : Rows) (gs : List Fail) → length gs ≡ at → Stand b gs cycles signals letters → Roomy (at + length fs) b
      → (r ≡ at + length fs) × Stand b (gs ++ fs) cycles' signals' letters'

-- one answer
abbrev pub PutsOne : ℕ → Fail → (cycles signals letters cycles' signals' letters' : List ℕ) → ℕ → Type 0
PutsOne at x = Adds (x ∷ []) at

-- each offset counts to a cycle of some run
abbrev pub Within : ℕ → List Offset → Type 0
Within start [] = Unit {0}
Within start (o ∷ os) = (start + o.n ≤ cycles_most) × Within start os

-- a record's offsets, which count from the run's cycle `start`
pub record WritesOffsets (report : List ℕ) (c : Cursor) (start signal at : ℕ) (cycles signals letters cycles' signals' letters' : List ℕ) (r : Wrote) : Type 0 where
  pub list : List Offset
  pub goes : Goes report c (until ";" one_more []) r.cursor list
  pub adds : Within start list → Adds (fails_from start signal list) at cycles signals letters cycles' signals' letters' r.at

-- one record
pub record WritesRecord (report : List ℕ) (c : Cursor) (ss : Signals) (first : ℕ) (past : List ℕ → Option ℕ) (at : ℕ) (cycles signals letters cycles' signals' letters' : List ℕ) (r : Wrote) : Type 0 where
  pub it : Record
  pub goes : (l : List Record) → Goes report c (one_record ss l) r.cursor (l ++ it ∷ [])
  pub adds : (count : ℕ) (fs : List Fail) → first + count ≤ cycles_most → answered_of first count past it ≡ given fs → Adds fs at cycles signals letters cycles' signals' letters' r.at

-- all records
pub record Writes (report : List ℕ) (from : ℕ) (ss : Signals) (first : ℕ) (past : List ℕ → Option ℕ) (cycles signals letters cycles' signals' letters' : List ℕ) (r : ℕ) : Type 0 where
  pub adds : (l : List Record) (us : Toks) → Records report from ss l us → (count : ℕ) (fs : List Fail) → first + count ≤ cycles_most → answered_all first count past l ≡ given fs
      → Adds fs 0 cycles signals letters cycles' signals' letters' r
