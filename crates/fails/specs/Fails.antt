-- The service Fails (request 9): a text and a fail report to a run's cycle, a signal's number and a letter for each offset of the report.
use Rattle.std.specs.Prelude.{ℕ, Bool, true, false, ◌&&◌, List, [], ◌∷◌, leb, length, drop}
use Rattle.std.proofs.Math.Option.{Option, none, some}
use Rattle.tokens.specs.Written.{same}
use Rattle.tokens.specs.Tokens.{Tok, toks}
use Rattle.meaning.specs.Refusals.{no_room}
use Rattle.meaning.specs.Reader.{Res, Reader, ok, refuse, ◌>>=◌, ◌>>◌, give, due, option}
use Rattle.meaning.specs.Names.{find}
use Rattle.meaning.specs.Signals.{signals}
use Rattle.meaning.specs.Groups.{groups}
use Rattle.meaning.specs.Timing.{timing}
use Rattle.meaning.specs.Statements.{Decls, Env, for_patterns, numbered}
use Rattle.meaning.specs.Document.{Read, bodies, document}
use Rattle.meaning.specs.Meaning.{Answer, given, refused, answering, meaning}
use Rattle.held.proofs.Parts.{first_env}
use Rattle.index.specs.Index.{Line, index_of}
use Rattle.references.specs.References.{past}
use Rattle.reports.specs.Report.{reported, not_in_pattern, Fail, answered}

-- ---- answers and refusals

-- an answer; or a refusal's number and place: is it the report's, so that the place is one in the report?
pub data Told (A : Type 0) : Type 0 where
  answers : A → Told A
  refuses : Bool → ℕ → ℕ → Told A

-- what an answer leads to; a refusal stays, and says whose it is
unfoldable pub telling : {A B : Type 0} → Bool → Answer A → (A → Told B) → Told B
telling its (given a) f = f a
telling its (refused n p) f = refuses its n p

-- ---- the pattern that a report names

-- the listed patterns of that name
unfoldable pub lines_named : List ℕ → List Line → List Line
lines_named w [] = []
lines_named w (x ∷ xs) = elim (same x.name w) [ true ↦ x ∷ lines_named w xs | false ↦ lines_named w xs ]

-- 24 where it isn't one
unfoldable pub only_line : Tok → List Line → Answer Line
only_line t [] = refused not_in_pattern t.at
only_line t (x ∷ []) = given x
only_line t (x ∷ y ∷ l) = refused not_in_pattern t.at

abbrev pub listed_once : List Line → Tok → Answer Line
listed_once xs t = only_line t (lines_named t.word xs)

-- what is declared before the patterns, in which their statements are read
unfoldable pub declarations : Reader Env
declarations = do
  (do due "STIL"; due "1.0"; due ";")
  ss ← signals
  ns ← option "SignalGroups" groups ss
  tabs ← timing ns
  e ← bodies (first_env ns tabs)
  give (for_patterns e)

-- how many of its cycles come before a reference
unfoldable pub past_in : Env → Decls → List ℕ → List ℕ → Option ℕ
past_in e ps p w = elim (find ps p) [ none ↦ none | some d ↦ past e d.from d.body p w ]

-- ---- the answers to a report

-- its own faults, then 24 in report order: every refusal here is the report's
unfoldable pub fails_of : List Line → Env → Read → List ℕ → Answer (List Fail)
fails_of lines e d report =
    answering (reported (numbered 0 d.signals) report) λ r.
    answering (listed_once lines r.pattern) λ x.
    answered x.first x.count (past_in e d.patterns r.pattern.word) r

-- of an accepted text, which was read
unfoldable pub fails_in : List Line → List ℕ → Res Env → Res Read → Answer (List Fail)
fails_in lines report (ok e us) (ok d vs) = fails_of lines e d report
fails_in lines report (ok e us) (refuse n p) = refused n p
fails_in lines report (refuse n p) r = refused n p

-- ---- the service

-- three rows of equal length: cycles, signals, letters (0 for none)
pub record Rows : Type 0 where
  pub cycles : List ℕ
  pub signals : List ℕ
  pub letters : List ℕ

-- how many answers there are, and the rows with them at their fronts
pub record Failed : Type 0 where
  pub count : ℕ
  pub rows : Rows

-- an answer's number at the front of a row, and the rest of the row
unfoldable pub in_front : (Fail → ℕ) → List Fail → List ℕ → List ℕ
in_front f [] row = row
in_front f (x ∷ xs) row = f x ∷ in_front f xs (drop 1 row)

unfoldable pub room_for : List Fail → Rows → Bool
room_for fs b = leb (length fs) (length b.cycles) && leb (length fs) (length b.signals) && leb (length fs) (length b.letters)

-- 19 last, and not the report's
unfoldable pub fails_out : List Fail → Rows → Told Failed
fails_out fs b =
    elim (room_for fs b) [
      | false ↦ refuses false no_room 0
      | true ↦ answers (record {
        count = length fs;
        rows = record { cycles = in_front (λ x. x.cycle) fs b.cycles; signals = in_front (λ x. x.signal) fs b.signals; letters = in_front (λ x. x.letter) fs b.letters };
      })
    ]

-- Fails: the text's refusals, then the report's, then 19
unfoldable pub fails : List ℕ → List ℕ → Rows → Told Failed
fails text report b =
    telling false (meaning text) λ m.
    telling true (fails_in (index_of text m).patterns report (declarations (toks text 0)) (document (toks text 0))) λ fs.
    fails_out fs b
