-- The service, from what was decided, played, read and judged: refused as the text is, as the report is, 24, 19, or the answers.
use Prim.Native.Nat.{ℕ, zero, suc, ◌+◌, ◌≤◌, ◌<◌, min}
use native.Mathlib.Omega.{arith}
use mathlib.Core.Path.{◌≡◌, refl, sym, ap, ◌∙◌, subst}
use mathlib.Core.Bool.{Bool, true, false, not, ◌&&◌, ◌||◌}
use mathlib.Core.Option.{Option, none, some}
use mathlib.Core.List.{List, [], ◌∷◌, ◌++◌}
use lib.Dec.{leb}
use lib.ListN.{length}
use borrow.Author.Tests.{le-leb, leb-true}
use Rattle.std.specs.Prelude.{Result, Ok, Err, Some, None}
use Rattle.tokens.specs.declared.Refusal.{Refusal}
use Rattle.tokens.specs.Tokens.{Tok}
use Rattle.tokens.proofs.Bools.{never}
use Rattle.meaning.specs.Refusals.{no_room}
use Rattle.meaning.specs.Statements.{Decl, Decls, Env, numbered}
use Rattle.meaning.specs.Meaning.{Answer, given, refused, answering, meaning}
use Rattle.words.specs.Cursor.{span}
use Rattle.words.specs.Table.{name_of, names_from, names, named}
use Rattle.signals.specs.Names.{list_at}
use Rattle.timing.specs.declared.Watch.{Watch}
use Rattle.bursts.specs.Listed.{listed_in}
use Rattle.texts.specs.Tables.{Found}
use Rattle.texts.specs.declared.Verdict.{Verdict}
use Rattle.texts.proofs.Sounds.{sound_runs}
use Rattle.heads.specs.declared.Known.{Known}
use Rattle.index.specs.Index.{Line, lines_from, lines_of, index_of}
use Rattle.index.specs.Lines.{blocks_in}
use Rattle.references.specs.References.{past_by, past}
use Rattle.references.specs.Filled.{noted}
use Rattle.reports.specs.Report.{Record, reported, Fail, not_in_pattern, answered_of, answered_all}
use Rattle.reports.specs.Read.{Holds}
use Rattle.verdicts.specs.Found.{meant_by}
use Rattle.fails.specs.Fails.{Told, answers, refuses, telling, lines_named, only_line, past_in, fails_of, fails_in, Rows, Failed, in_front, room_for, fails_out, fails}
use Rattle.fails.specs.Once.{Often}
use Rattle.fails.specs.Judged.{Judges}
use Rattle.fails.specs.Written.{Roomy, Writes}
use Rattle.fails.specs.Referred.{Pattern, Refers}
use Rattle.fails.specs.Service.{rows_of, row_after, spared_told, Reports, Answering}
use Rattle.fails.specs.declared.Times.{Times}
use Rattle.fails.specs.declared.Verdict.{Verdict as Judged}
use Rattle.fails.specs.declared.Unanswered.{Unanswered}
use Rattle.fails.specs.declared.Unanswered.TheVariants.{Text, Report}
use Rattle.fails.proofs.Laws.{declarations_are}
use Rattle.fails.proofs.Judging.{answered_unknown, answered_known}
use Rattle.fails.proofs.Patterns.{pattern_is}

-- ---- an answer, and the rows

module _ {a : Told Failed} {c s l : List ℕ} where
  reports_refused : {x : Refusal} → a ≡ refuses false x.no x.place → Reports a c c s s l l (Err (Text x))
  unfolding row_after
  reports_refused e = rw e (record { told = refl; cycles_are = refl; signals_are = refl; letters_are = refl })

  reports_of : {x : Refusal} → a ≡ refuses true x.no x.place → Reports a c c s s l l (Err (Report x))
  unfolding row_after
  reports_of e = rw e (record { told = refl; cycles_are = refl; signals_are = refl; letters_are = refl })

  reports_answers : {n : ℕ} {c' s' l' : List ℕ} → a ≡ answers (record { count = n; rows = rows_of c' s' l' }) → Reports a c c' s s' l l' (Ok n)
  unfolding row_after
  reports_answers e = rw e (record { told = refl; cycles_are = refl; signals_are = refl; letters_are = refl })

pub spared_all : (a : Told Failed) → spared_told true a ≡ a
unfolding spared_told
spared_all (answers x) = refl
spared_all (refuses its n p) = refl

pub reports_all : {a : Told Failed} {c c' s s' l l' : List ℕ} {r : Result ℕ Unanswered} → Reports (spared_told true a) c c' s s' l l' r → Reports a c c' s s' l l' r
reports_all {a} {c} {c'} {s} {s'} {l} {l'} {r} h = subst (λ (x : Told Failed). Reports x c c' s s' l l' r) (spared_all a) h

-- ---- references that are known alike

module _ (first count : ℕ) (f g : List ℕ → Option ℕ) (same_past : (w : List ℕ) → f w ≡ g w) where
  same_answer : (it : Record) → answered_of first count f it ≡ answered_of first count g it
  same_answer it = by (f it.reference.word) refl
    where
      by : (o : Option ℕ) → f it.reference.word ≡ o → answered_of first count f it ≡ answered_of first count g it
      by none e = answered_unknown first count f it e ∙ sym (answered_unknown first count g it (sym (same_past _) ∙ e))
      by (some n) e = answered_known first count f it e ∙ sym (answered_known first count g it (sym (same_past _) ∙ e))

  same_answers : (l : List Record) → answered_all first count f l ≡ answered_all first count g l
  unfolding answered_all answering
  same_answers [] = refl
  same_answers (it ∷ l) =
      ap (λ (a : Answer (List Fail)). answering a λ fs. answering (answered_all first count f l) λ gs. given (fs ++ gs)) (same_answer it)
      ∙ ap (λ (a : Answer (List Fail)). answering (answered_of first count g it) λ fs. answering a λ gs. given (fs ++ gs)) (same_answers l)

-- the lines of a name
pub often_at : {ps : Decls} {v u : List ℕ} {t : Times} (xs : List Line) → v ≡ u → Often ps v (lines_named v xs) t → Often ps u (lines_named u xs) t
often_at {ps} {v} {u} {t} xs e o = subst (λ (y : List ℕ). Often ps y (lines_named y xs) t) e o

-- ---- room

module _ (fs : List Fail) (b : Rows) where
  abbrev room : ℕ
  room = min (length b.cycles) (min (length b.signals) (length b.letters))

  roomy : length fs ≤ room → Roomy (0 + length fs) b
  roomy h = record { cycles = omega arith; signals = omega arith; letters = omega arith }

  has_room : length fs ≤ room → room_for fs b ≡ true
  unfolding room_for
  has_room h = rw (le-leb (length fs) (length b.cycles) (omega arith), le-leb (length fs) (length b.signals) (omega arith), le-leb (length fs) (length b.letters) (omega arith))

  no_room_lem : room < length fs → room_for fs b ≡ false
  unfolding room_for
  no_room_lem h = by (leb (length fs) (length b.cycles)) refl (leb (length fs) (length b.signals)) refl (leb (length fs) (length b.letters)) refl
    where
      by : (x : Bool) → leb (length fs) (length b.cycles) ≡ x → (y : Bool) → leb (length fs) (length b.signals) ≡ y → (z : Bool) → leb (length fs) (length b.letters) ≡ z
          → (leb (length fs) (length b.cycles) && leb (length fs) (length b.signals) && leb (length fs) (length b.letters)) ≡ false
      by true p true q true r =
          absurd (omega (arith, leb-true (length fs) (length b.cycles) p, leb-true (length fs) (length b.signals) q, leb-true (length fs) (length b.letters) r))
      by true p true q false r = rw (p, q, r)
      by true p false q z r = rw (p, q)
      by false p y q z r = rw p

  -- 19
  out_full : room < length fs → fails_out fs b ≡ refuses false no_room 0
  unfolding fails_out
  out_full h = rw (no_room_lem h, fails_out)

  out_given : length fs ≤ room
      → fails_out fs b
      ≡ answers (record { count = length fs; rows = rows_of (in_front (λ x. x.cycle) fs b.cycles) (in_front (λ x. x.signal) fs b.signals) (in_front (λ x. x.letter) fs b.letters) })
  unfolding fails_out
  out_given h = rw (has_room h, fails_out)

-- ---- a sound report, whose pattern is listed once

module _ {text places lists tplaces book rows : List ℕ} {known : Known} {patterns : ℕ} {report : List ℕ} {from count : ℕ} (signals at end first : ℕ) (spare : Bool) (c s l : List ℕ)
    {name labels chains nexts table : List ℕ} {k : ℕ} {v : Judged} {m : ℕ} (name_is : name ≡ span report at end) (x : Refers text places lists tplaces book rows known patterns name labels chains nexts table k)
    (room-is : m ≡ min (length c) (min (length s) (length l)))
    (j : Judges report from (names text places signals) count (past_by name (noted text labels k table)) m v) where
  -- by the references that the code has
  as_found : {E : Env} {ps : Decls} {d : Decl} → Pattern text places lists tplaces book rows known patterns (span report at end) E ps d → (rs : List Record)
      → answered_all first count (past E d.from d.body (span report at end)) rs ≡ answered_all first count (past_by name (noted text labels k table)) rs
  as_found {E} {ps} {d} p rs =
      same_answers first count _ _ (λ w. sym (x.past_is E ps d (subst (λ (n : List ℕ). Pattern text places lists tplaces book rows known patterns n E ps d) (sym name_is) p) w
      ∙ ap (λ (n : List ℕ). past E d.from d.body n w) name_is)) rs

  pub answer_outside : {place : ℕ} → v.outside ≡ Some place → Answering text places lists tplaces book rows known signals patterns report at end from first count spare c c s s l l (Err (Report (record { no = not_in_pattern; place = place })))
  unfolding spared_told telling
  answer_outside {place} o = record { reports = λ E ps d p rs us q fits. reports_of (rw (as_found p rs ∙ j.refuses place o first rs us q)) }

  module _ (o : v.outside ≡ None) where
    pub answer_full : (v.full || not spare) ≡ true → Answering text places lists tplaces book rows known signals patterns report at end from first count spare c c s s l l (Err (Text (record { no = no_room; place = 0 })))
    unfolding spared_told telling
    answer_full e = record {
      reports = λ E ps d p rs us q fits. (
          let a = j.answers o first rs us q in
          reports_refused (rw (as_found p rs ∙ a.are) (by v.full refl spare refl a.fails a.fits a.lacks)));
    }
      where
        by : (y : Bool) → v.full ≡ y → (z : Bool) → spare ≡ z → (fs : List Fail) → (v.full ≡ false → length fs ≤ m) → (v.full ≡ true → m < length fs)
            → spared_told spare (fails_out fs (rows_of c s l)) ≡ refuses false no_room 0
        by true y z w fs few many = ap (spared_told spare) (out_full fs (rows_of c s l) (omega (arith, room-is, many y)))
        by false y false w fs few many = ap (λ (t : Told Failed). spared_told spare t) (out_given fs (rows_of c s l) (omega (arith, room-is, few y))) ∙ rw w
        by false y true w fs few many = never (sym (rw (y, w)) ∙ e)

    pub answer_given : {c' s' l' : List ℕ} {n : ℕ} → (v.full || not spare) ≡ false
        → Writes report from (names text places signals) first (past_by name (noted text labels k table)) c s l c' s' l' n
        → Answering text places lists tplaces book rows known signals patterns report at end from first count spare c c' s s' l l' (Ok n)
    unfolding spared_told telling in_front
    answer_given {c'} {s'} {l'} {n} e w = record {
      reports = λ E ps d p rs us q fits. (
          let a = j.answers o first rs us q in
          let fs = a.fails in
          let both-on = yes v.full spare e in
          let few : length fs ≤ min (length c) (min (length s) (length l)) = omega (arith, room-is, a.fits both-on.0) in
          let u = (w.adds rs us q count fs fits a.are).all (rows_of c s l) [] refl (record { cycles_are = refl; signals_are = refl; letters_are = refl }) (roomy fs (rows_of c s l) few) in
          let n_is : length fs ≡ n = omega (arith, u.0) in
          reports_answers (rw (as_found p rs ∙ a.are, both-on.1) (
          ap (spared_told true) (out_given fs (rows_of c s l) few) ∙ same_told n_is (sym u.1.cycles_are) (sym u.1.signals_are) (sym u.1.letters_are))));
    }
      where
        yes : (y z : Bool) → (y || not z) ≡ false → (y ≡ false) × (z ≡ true)
        yes true z e = never (sym e)
        yes false true e = (refl, refl)
        yes false false e = never (sym e)

        same_told : {i n : ℕ} {c₁ c₂ s₁ s₂ l₁ l₂ : List ℕ} → i ≡ n → c₁ ≡ c₂ → s₁ ≡ s₂ → l₁ ≡ l₂
            → ◌≡◌ {A = Told Failed} (answers (record { count = i; rows = rows_of c₁ s₁ l₁ })) (answers (record { count = n; rows = rows_of c₂ s₂ l₂ }))
        same_told p q r t = rw (p, q, r, t)

-- ---- a text that 1 to 16 leave

-- names that stand for their own numbers
numbered_named : {A : Type 0} (f : ℕ → A) (text places : List ℕ) (i k : ℕ) → numbered i (named f (names_from text places i k)) ≡ names_from text places i k
unfolding numbered named names_from
numbered_named f text places i zero = refl
numbered_named f text places i (suc k) = ap (λ (l : List (Tok × ℕ)). (name_of text places i, i) ∷ l) (numbered_named f text places (suc i) k)

pub fails_refused : (text report : List ℕ) {x : Refusal} (spare : Bool) {c s l : List ℕ} → meaning text ≡ refused x.no x.place
    → Reports (spared_told spare (fails text report (rows_of c s l))) c c s s l l (Err (Text x))
unfolding fails telling spared_told
fails_refused text report spare e = reports_refused (rw e)

module _ {w : Watch} {text places lists tplaces waves book rows list : List ℕ} {v : Verdict} (f : Found text w places lists tplaces waves book rows list v) where
  abbrev lines : List Line
  lines = lines_from 0 (blocks_in text f.it.read.patterns) (listed_in text list v.parts.listed)

  module _ (on : meaning text ≡ given (meant_by f.it)) (report : List ℕ) (spare : Bool) (c s l : List ℕ) where
    -- an accepted text is what is asked of
    asked : fails text report (rows_of c s l) ≡ telling true (fails_of lines f.tabled.parts.env f.it.read report) (λ fs. fails_out fs (rows_of c s l))
    unfolding fails telling fails_in index_of lines_of
    asked = rw (on, (sound_runs text f.is).read, declarations_are f.tabled.parts, f.tabled.listed_are)

    signals_are : numbered 0 f.it.read.signals ≡ names text places v.parts.signals
    signals_are = ap (numbered 0) f.tabled.signals_are ∙ numbered_named (list_at lists) text places 0 v.parts.signals

    pub fails_faulty : {x : Refusal} → reported (names text places v.parts.signals) report ≡ refused x.no x.place
        → Reports (spared_told spare (fails text report (rows_of c s l))) c c s s l l (Err (Report x))
    unfolding telling fails_of answering spared_told
    fails_faulty e = reports_of (rw (asked, signals_are, e))

    module _ {at end from : ℕ} (h : Holds (names text places v.parts.signals) report at end from) {t : Times} (o : Often f.it.read.patterns (span report at end) (lines_named (span report at end) lines) t) where
      abbrev pattern : Tok
      pattern = record { at = at; word = span report at end }

      -- a sound report is asked of
      read : fails text report (rows_of c s l)
          ≡ telling true (answering (only_line pattern (lines_named (span report at end) lines)) λ x.
          answered_all x.first x.count (past_in f.tabled.parts.env f.it.read.patterns (span report at end)) h.list) (λ fs. fails_out fs (rows_of c s l))
      unfolding fails_of answering
      read = asked ∙ rw (signals_are, h.whole)

      pub fails_unlisted : (t.times ≡ 1 → ⊥) → Reports (spared_told spare (fails text report (rows_of c s l))) c c s s l l (Err (Report (record { no = not_in_pattern; place = at })))
      unfolding telling answering only_line spared_told
      fails_unlisted z = reports_of (ap (spared_told spare) (read ∙ by t.times refl))
        where
          by : (n : ℕ) → t.times ≡ n
              → telling true (answering (only_line pattern (lines_named (span report at end) lines)) λ x.
              answered_all x.first x.count (past_in f.tabled.parts.env f.it.read.patterns (span report at end)) h.list) (λ fs. fails_out fs (rows_of c s l)) ≡ refuses true not_in_pattern at
          by zero e = rw (o.never e)
          by (suc n) e = let x = o.again (λ y. omega (arith, e)) z in rw x.are

      module _ (one : t.times ≡ 1) where
        pub listed_pattern : Pattern text places lists tplaces book rows v.parts.known v.parts.patterns (span report at end) f.tabled.parts.env f.it.read.patterns (o.once one).decl
        listed_pattern =
            let x = o.once one in
            pattern_is f (span report at end) x.decl x.found (omega (arith, x.cycles_are, x.fits))

        pub fails_listed : {c' s' l' : List ℕ} {r : Result ℕ Unanswered}
            → Answering text places lists tplaces book rows v.parts.known v.parts.signals v.parts.patterns report at end from t.first t.cycles spare c c' s s' l l' r
            → Reports (spared_told spare (fails text report (rows_of c s l))) c c' s s' l l' r
        unfolding answering only_line past_in
        fails_listed {c'} {s'} {l'} {r} a =
            let x = o.once one in
            let d = x.decl in
            let E = f.tabled.parts.env in
            let same_past : (u : List ℕ) → past_in E f.it.read.patterns (span report at end) u ≡ past E d.from d.body (span report at end) u = λ u. rw (x.found, past_in) in
            let is : fails text report (rows_of c s l) ≡ telling true (answered_all t.first t.cycles (past E d.from d.body (span report at end)) h.list) (λ fs. fails_out fs (rows_of c s l)) =
            read ∙ rw (x.is, x.first_is, x.count_is, same_answers t.first t.cycles _ _ same_past h.list) in
            subst (λ (y : Told Failed). Reports (spared_told spare y) c c' s s' l l' r) (sym is)
            (a.reports E f.it.read.patterns d listed_pattern h.list h.behind h.again x.fits)
