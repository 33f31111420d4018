-- What the service promises of its answer and of the three rows.
use Rattle.std.specs.Prelude.{ℕ, ◌+◌, ◌≤◌, ◌≡◌, Bool, true, false, List, Result, Ok, Err}
use Rattle.tokens.specs.Tokens.{Toks}
use Rattle.meaning.specs.Bounds.{cycles_most}
use Rattle.meaning.specs.Refusals.{no_room}
use Rattle.meaning.specs.Statements.{Decl, Decls, Env}
use Rattle.words.specs.Cursor.{span}
use Rattle.heads.specs.declared.Known.{Known}
use Rattle.references.specs.References.{past}
use Rattle.words.specs.Table.{names}
use Rattle.reports.specs.Report.{Record, answered_all}
use Rattle.fails.specs.Fails.{Told, answers, refuses, telling, Rows, Failed, fails_out}
use Rattle.fails.specs.Judged.{Records}
use Rattle.fails.specs.Referred.{Pattern}
use Rattle.fails.specs.declared.Unanswered.{Unanswered}
use Rattle.fails.specs.declared.Unanswered.TheVariants.{Text, Report}

abbrev pub rows_of : (cycles signals letters : List ℕ) → Rows
rows_of cycles signals letters = record { cycles = cycles; signals = signals; letters = letters }

-- the answer, with the rows as they are afterwards: a refusal says whether it is the report's
abbrev pub told_of : Result ℕ Unanswered → (cycles signals letters : List ℕ) → Told Failed
told_of (Ok n) cycles signals letters = answers (record { count = n; rows = rows_of cycles signals letters })
told_of (Err (Text r)) cycles signals letters = refuses false r.no r.place
told_of (Err (Report r)) cycles signals letters = refuses true r.no r.place

-- a row afterwards: that of the answer, or as it was
unfoldable pub row_after : (Rows → List ℕ) → Told Failed → List ℕ → List ℕ
row_after f (answers x) row = f x.rows
row_after f (refuses its n p) row = row

-- 19 where there is no room for what else is handed out
unfoldable pub spared_told : Bool → Told Failed → Told Failed
spared_told spare (answers x) = elim spare [ true ↦ answers x | false ↦ refuses false no_room 0 ]
spared_told spare (refuses its n p) = refuses its n p

-- THE PROMISE of the service, whose answer is a
pub record Reports (a : Told Failed) (cycles cycles' signals signals' letters letters' : List ℕ) (r : Result ℕ Unanswered) : Type 0 where
  pub told : told_of r cycles' signals' letters' ≡ a
  pub cycles_are : cycles' ≡ row_after (λ b. b.cycles) a cycles
  pub signals_are : signals' ≡ row_after (λ b. b.signals) a signals
  pub letters_are : letters' ≡ row_after (λ b. b.letters) a letters

-- a sound report, whose pattern is listed once and has so many cycles from the run's cycle `first` on
pub record Answering (text places lists tplaces book rows : List ℕ) (known : Known) (signals patterns : ℕ) (report : List ℕ) (at end from first count : ℕ) (spare : Bool)
    (c c' s s' l l' : List ℕ) (r : Result ℕ Unanswered) : Type 0 where
  pub reports : (E : Env) (ps : Decls) (d : Decl) → Pattern text places lists tplaces book rows known patterns (span report at end) E ps d
      → (rs : List Record) (us : Toks) → Records report from (names text places signals) rs us → first + count ≤ cycles_most
      → Reports (spared_told spare (telling true (answered_all first count (past E d.from d.body (span report at end)) rs) λ fs. fails_out fs (rows_of c s l))) c c' s s' l l' r
