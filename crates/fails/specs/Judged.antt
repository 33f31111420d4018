-- The pass for 24 over a report's records: what is promised of one of them, of all, and of the room for their answers.
use Rattle.std.specs.Prelude.{ℕ, ◌+◌, ◌≤◌, ◌<◌, ◌≡◌, Bool, true, false, List, [], ◌∷◌, ◌++◌, length, Some, None}
use Rattle.std.proofs.Math.Option.{Option}
use Rattle.tokens.specs.Tokens.{Toks, toks}
use Rattle.meaning.specs.Reader.{ok, until}
use Rattle.meaning.specs.Meaning.{given, refused}
use Rattle.words.specs.Cursor.{Goes}
use Rattle.words.specs.declared.Cursor.{Cursor}
use Rattle.reports.specs.Report.{Signals, Record, one_record, Fail, not_in_pattern, answered_of, answered_all}
use Rattle.fails.specs.declared.Judged.{Judged}
use Rattle.fails.specs.declared.Room.{Room}
use Rattle.fails.specs.declared.Verdict.{Verdict}

-- THE PROMISE for one record, wherever the pattern begins: its 24, or how many answers there are
pub record JudgesRecord (report : List ℕ) (c : Cursor) (ss : Signals) (cycles : ℕ) (past : List ℕ → Option ℕ) (r : Judged) : Type 0 where
  pub it : Record
  pub goes : (l : List Record) → Goes report c (one_record ss l) r.cursor (l ++ it ∷ [])
  pub refuses : (place : ℕ) → r.outside ≡ Some place → (first : ℕ) → answered_of first cycles past it ≡ refused not_in_pattern place
  pub answers : r.outside ≡ None → (first : ℕ) → (fs : List Fail) × (answered_of first cycles past it ≡ given fs) × (length fs ≡ r.count)

-- of so much room so much is used, or there was not enough
pub record Roomed (room used : ℕ) (x : Room) : Type 0 where
  pub fits : x.full ≡ false → used + x.left ≡ room
  pub lacks : x.full ≡ true → room < used

-- all answers, and whether there is room for them
pub record Answered (first cycles : ℕ) (past : List ℕ → Option ℕ) (l : List Record) (room : ℕ) (full : Bool) : Type 0 where
  pub fails : List Fail
  pub are : answered_all first cycles past l ≡ given fails
  pub fits : full ≡ false → length fails ≤ room
  pub lacks : full ≡ true → room < length fails

-- the records that can be read from a place on
abbrev pub Records : (report : List ℕ) (from : ℕ) → Signals → List Record → Toks → Type 0
Records report from ss l us = until "}" (one_record ss) [] (toks report from) ≡ ok l us

-- THE PROMISE for all of them: the first 24, or all answers
pub record Judges (report : List ℕ) (from : ℕ) (ss : Signals) (cycles : ℕ) (past : List ℕ → Option ℕ) (room : ℕ) (r : Verdict) : Type 0 where
  pub refuses : (place : ℕ) → r.outside ≡ Some place → (first : ℕ) (l : List Record) (us : Toks) → Records report from ss l us → answered_all first cycles past l ≡ refused not_in_pattern place
  pub answers : r.outside ≡ None → (first : ℕ) (l : List Record) (us : Toks) → Records report from ss l us → Answered first cycles past l room r.full
