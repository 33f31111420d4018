-- A text that 1 to 16 leave, with the tables that hold it; and 17 and 25.
use Rattle.std.specs.Prelude.{ℕ, ◌≡◌, List, length, Option, Result, Ok, Err}
use Rattle.tokens.specs.declared.Refusal.{Refusal}
use Rattle.meaning.specs.Bounds.{tables_most}
use Rattle.meaning.specs.Meaning.{given, refused, Meaning, meaning_of, meaning}
use Rattle.timing.specs.Marks.{table_size}
use Rattle.timing.specs.declared.Watch.{Watch}
use Rattle.texts.specs.declared.Verdict.{Verdict}
use Rattle.texts.specs.Texts.{Sound}
use Rattle.texts.specs.Tables.{Found, NotesSound}
use Rattle.plays.specs.Run.{Decides}
use Rattle.crossings.specs.Run.{Decides as DecidesPair}

-- an accepted text
abbrev pub meant_by : Sound → Meaning
meant_by x = meaning_of x.read x.run

-- a waveform that no text has
abbrev pub no_waveform : Watch
no_waveform = record { table = tables_most; signal = 0; char = 0 }

-- whatever waveform was watched for; what the text assigns is noted
pub record SomeFound (text places lists tplaces waves book rows list used : List ℕ) (v : Verdict) : Type 0 where
  pub watch : Watch
  pub found : Found text watch places lists tplaces waves book rows list v
  pub notes : NotesSound text used v
  pub long : length used ≡ table_size

-- the first cycle of its run that fails, or that there is none
pub record Unplayable (text places lists tplaces waves book rows list : List ℕ) (v : Verdict) (r : Option ℕ) : Type 0 where
  pub decides : {w : Watch} (f : Found text w places lists tplaces waves book rows list v) → Decides f.it.read f.it.run r

-- the first pair of neighbouring cycles that is not in order, or that there is none
pub record Crosses (text places lists tplaces waves book rows list : List ℕ) (v : Verdict) (r : Option ℕ) : Type 0 where
  pub decides : {w : Watch} (f : Found text w places lists tplaces waves book rows list v) → DecidesPair f.it.read f.it.run r

-- THE PROMISE of judging its run: it is accepted, or refused, 17 or 25
abbrev pub Plays : (text places lists tplaces waves book rows list : List ℕ) → Verdict → Result (Unit {0}) Refusal → Type 0
Plays text places lists tplaces waves book rows list v (Ok u) = (w : Watch) (f : Found text w places lists tplaces waves book rows list v) → meaning text ≡ given (meant_by f.it)
Plays text places lists tplaces waves book rows list v (Err r) = (w : Watch) → Found text w places lists tplaces waves book rows list v → meaning text ≡ refused r.no r.place
