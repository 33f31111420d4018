-- The service from what was decided, played and written: refused as the text is, 23, 22, 19, or the folded text at the front of the buffer.
use Prim.Native.Nat.{ℕ, ◌+◌, ◌-◌, ◌≤◌, ◌<◌}
use native.Mathlib.Nat.{zero-add}
use native.Mathlib.Omega.{arith}
use mathlib.Core.Path.{◌≡◌, refl, sym, ap, ap₂, ◌∙◌}
use mathlib.Core.Bool.{Bool, true, false, not, ◌&&◌, ◌||◌}
use mathlib.Core.List.{List, ◌++◌}
use lib.Dec.{leb, ltb}
use lib.ListN.{length, take, drop}
use borrow.Author.Tests.{le-leb, lt-leb, ltb-true, ltb-false}
use Rattle.std.specs.Prelude.{Result, Ok, Err}
use Rattle.tokens.specs.declared.Refusal.{Refusal}
use Rattle.tokens.specs.Refusals.{text_most}
use Rattle.meaning.specs.Bounds.{patterns_most}
use Rattle.meaning.specs.Refusals.{no_room}
use Rattle.meaning.specs.Run.{cycles}
use Rattle.meaning.specs.Meaning.{Answer, given, refused, answering, Meaning, meaning}
use Rattle.meaning.specs.Services.{Counts, counts, names_of}
use Rattle.timing.specs.declared.Watch.{Watch}
use Rattle.texts.specs.Tables.{Found}
use Rattle.texts.specs.declared.Verdict.{Verdict}
use Rattle.plays.specs.Plays.{grounded}
use Rattle.pages.specs.Pages.{Puts as Put}
use Rattle.verdicts.specs.Found.{meant_by}
use Rattle.verdicts.proofs.Found.{runs, names_are, counts_met}
use Rattle.folded.specs.Flat.{patterns_of, flat}
use Rattle.folded.specs.Layout.{written}
use Rattle.folded.specs.Fold.{folded_most, many_patterns, many_cycles, Folded as Bytes, folded_in, folded, fold}
use Rattle.flats.specs.Meant.{Meant}
use Rattle.flats.specs.Flattens.{flat_in, flat_of, Stands, Puts, Flattens, Folds}
use Rattle.verdicts.specs.Buffers.{afterwards, spared}

-- ---- a text that 1 to 16 leave

pub flat_refused : (text : List ℕ) {n p : ℕ} → meaning text ≡ refused n p → flat_of text ≡ refused n p
unfolding flat_of answering
flat_refused text e = rw (e, flat_of)

module _ {w : Watch} {text places lists tplaces waves book rows list : List ℕ} {v : Verdict} (f : Found text w places lists tplaces waves book rows list v)
    (on : meaning text ≡ given (meant_by f.it)) where
  cycles_are : cycles 0 f.it.run ≡ v.total.cycles
  unfolding counts
  cycles_are = ap (λ (c : Counts). c.cycles) (counts_met f)

  by_cycles : {c : Bool} → leb (cycles 0 f.it.run) folded_most ≡ c → flat_of text ≡ elim c as (λ x. Answer (List ℕ)) [ false ↦ refused many_cycles 0 | true ↦ flat_in text (meant_by f.it) ]
  unfolding flat_of answering
  by_cycles e =
      ap (λ x. answering x λ m. elim (leb (cycles 0 m.run) folded_most) as (λ x. Answer (List ℕ)) [ false ↦ refused many_cycles 0 | true ↦ flat_in text m ]) on
      ∙ ap (λ (c : Bool). elim c as (λ x. Answer (List ℕ)) [ false ↦ refused many_cycles 0 | true ↦ flat_in text (meant_by f.it) ]) e

  -- 23
  pub flat_many : folded_most < v.total.cycles → flat_of text ≡ refused many_cycles 0
  flat_many l = by_cycles (lt-leb (cycles 0 f.it.run) folded_most (omega (arith, cycles_are)))

  module _ (l : v.total.cycles ≤ folded_most) where
    pub is_meant : Meant (grounded text places lists tplaces book rows waves v.parts.known v.parts.signals) list v.parts.listed v.parts.patterns v.total.size (meant_by f.it)
    unfolding counts names_of
    is_meant = record {
      parts = v.parts;
      read = f.it.read;
      runs = runs f;
      meant = on;
      size_is = ap (λ (c : Counts). c.size) (counts_met f);
      few = omega (arith, cycles_are);
      signals_are = names_are f false;
      tables_are = names_are f true;
    }

    pub flat_put : {page : List ℕ} {r : Result ℕ Refusal}
        → Puts (grounded text places lists tplaces book rows waves v.parts.known v.parts.signals) list v.parts.listed v.parts.patterns v.total.size page r → Flattens text page r
    flat_put {page} {r} s = by r (s.stands _ is_meant)
      where
        few : flat_of text ≡ flat_in text (meant_by f.it)
        few = by_cycles (le-leb (cycles 0 f.it.run) folded_most (omega (arith, cycles_are)))

        by : (x : Result ℕ Refusal) → Stands (flat_in text (meant_by f.it)) page x → Flattens text page x
        by (Ok n) h = (few ∙ h.0, h.1)
        by (Err x) h = few ∙ h

-- ---- into the buffer

-- at the front of a buffer, if it has room
abbrev placed : List ℕ → List ℕ → Answer Bytes
placed bytes buffer = elim (leb (length bytes) (length buffer)) [ false ↦ refused no_room 0 | true ↦ given (record { size = length bytes; buffer = bytes ++ drop (length bytes) buffer }) ]

-- the service is the folded text, and then the buffer
fold_as : (text buffer : List ℕ) → fold text buffer ≡ answering (flat_of text) (λ bytes. placed bytes buffer)
unfolding fold folded folded_in flat_of flat_in answering
fold_as text buffer = by (meaning text)
  where
    in_room : (a : Bool) (bytes : List ℕ) → ◌≡◌ {A = Answer Bytes} (elim (a && leb (length bytes) (length buffer)) [ false ↦ refused no_room 0 | true ↦ given (record { size = length bytes; buffer = bytes ++ drop (length bytes) buffer }) ])
        (answering {A = List ℕ} (elim a as (λ x. Answer (List ℕ)) [ false ↦ refused no_room 0 | true ↦ given bytes ]) λ l. placed l buffer)
    in_room true bytes = refl
    in_room false bytes = refl

    one : (m : Meaning) (a b : Bool) → ◌≡◌ {A = Answer Bytes} (elim a [ false ↦ refused many_cycles 0 | true ↦ elim b [ false ↦ refused many_patterns 0 | true ↦ folded_in (written (flat text m)) buffer ] ])
        (answering {A = List ℕ} (elim a as (λ x. Answer (List ℕ)) [
          | false ↦ refused many_cycles 0
          | true ↦ elim b as (λ x. Answer (List ℕ)) [
            | false ↦ refused many_patterns 0
            | true ↦ elim (leb (length (written (flat text m))) text_most) as (λ x. Answer (List ℕ)) [ false ↦ refused no_room 0 | true ↦ given (written (flat text m)) ]
          ]
        ]) λ l. placed l buffer)
    one m false b = refl
    one m true false = refl
    one m true true = in_room (leb (length (written (flat text m))) text_most) (written (flat text m))

    by : (x : Answer Meaning) → answering x (λ m. folded text m buffer)
        ≡ answering {A = List ℕ} (answering x λ m. elim (leb (cycles 0 m.run) folded_most) as (λ x. Answer (List ℕ)) [ false ↦ refused many_cycles 0 | true ↦ flat_in text m ]) λ l. placed l buffer
    by (given m) = one m (leb (cycles 0 m.run) folded_most) (leb (length (patterns_of m)) patterns_most)
    by (refused n p) = refl

module _ {a : Answer Bytes} {buffer : List ℕ} where
  folds_refused : {x : Refusal} → a ≡ refused x.no x.place → Folds a buffer buffer (Err x)
  unfolding afterwards
  folds_refused e = rw e (record { answers = refl; buffer_is = refl })

  folds_given : {n : ℕ} {after : List ℕ} → a ≡ given (record { size = n; buffer = after }) → Folds a buffer after (Ok n)
  unfolding afterwards
  folds_given e = rw e (record { answers = refl; buffer_is = refl })

spared_placed : (spare : Bool) (bytes buffer : List ℕ) {y : Bool} → (not spare || ltb (length buffer) (length bytes)) ≡ y
    → spared spare (placed bytes buffer) ≡ elim y as (λ x. Answer Bytes) [ true ↦ refused no_room 0 | false ↦ given (record { size = length bytes; buffer = bytes ++ drop (length bytes) buffer }) ]
unfolding answering
spared_placed spare bytes buffer {y} e = by spare (ltb (length buffer) (length bytes)) refl ∙ ap (λ (y : Bool). elim y as (λ x. Answer Bytes) [ true ↦ refused no_room 0 | false ↦ given (record { size = length bytes; buffer = bytes ++ drop (length bytes) buffer }) ]) e
  where
    tested : (b : Bool) → ltb (length buffer) (length bytes) ≡ b → leb (length bytes) (length buffer) ≡ not b
    tested true q = lt-leb (length bytes) (length buffer) (ltb-true (length buffer) (length bytes) q)
    tested false q = le-leb (length bytes) (length buffer) (ltb-false (length buffer) (length bytes) q)

    cases : (s b : Bool) → spared {A = Bytes} s (elim (not b) as (λ x. Answer Bytes) [ false ↦ refused no_room 0 | true ↦ given (record { size = length bytes; buffer = bytes ++ drop (length bytes) buffer }) ])
        ≡ elim (not s || b) as (λ x. Answer Bytes) [ true ↦ refused no_room 0 | false ↦ given (record { size = length bytes; buffer = bytes ++ drop (length bytes) buffer }) ]
    cases true true = refl
    cases true false = refl
    cases false true = refl
    cases false false = refl

    by : (s b : Bool) → ltb (length buffer) (length bytes) ≡ b → spared {A = Bytes} s (placed bytes buffer)
        ≡ elim (not s || b) as (λ x. Answer Bytes) [ true ↦ refused no_room 0 | false ↦ given (record { size = length bytes; buffer = bytes ++ drop (length bytes) buffer }) ]
    by s b q = ap (λ (c : Bool). spared {A = Bytes} s (elim c as (λ x. Answer Bytes) [ false ↦ refused no_room 0 | true ↦ given (record { size = length bytes; buffer = bytes ++ drop (length bytes) buffer }) ])) (tested b q) ∙ cases s b

pub fold_refused : (text : List ℕ) {x : Refusal} (spare : Bool) (buffer : List ℕ) → flat_of text ≡ refused x.no x.place → Folds (spared spare (fold text buffer)) buffer buffer (Err x)
unfolding answering
fold_refused text spare buffer e = folds_refused (ap (spared spare) (fold_as text buffer ∙ ap (λ x. answering x (λ bytes. placed bytes buffer)) e))

module _ (text page : List ℕ) {n : ℕ} (h : Flattens text page (Ok n)) (spare : Bool) (buffer : List ℕ) {y : Bool} (e : (not spare || ltb (length buffer) n) ≡ y) where
  answered : spared spare (fold text buffer)
      ≡ elim y as (λ x. Answer Bytes) [ true ↦ refused no_room 0 | false ↦ given (record { size = n; buffer = take n page ++ drop n buffer }) ]
  unfolding answering
  answered =
      ap (spared spare) (fold_as text buffer ∙ ap (λ x. answering x (λ bytes. placed bytes buffer)) h.0)
      ∙ spared_placed spare (take n page) buffer (ap (λ (i : ℕ). not spare || ltb (length buffer) i) h.1 ∙ e)
      ∙ ap (λ (i : ℕ). elim y as (λ x. Answer Bytes) [ true ↦ refused no_room 0 | false ↦ given (record { size = i; buffer = take n page ++ drop i buffer }) ]) h.1

  pub fold_full : y ≡ true → Folds (spared spare (fold text buffer)) buffer buffer (Err (record { no = no_room; place = 0 }))
  fold_full z = folds_refused (answered ∙ ap (λ (y : Bool). elim y as (λ x. Answer Bytes) [ true ↦ refused no_room 0 | false ↦ given (record { size = n; buffer = take n page ++ drop n buffer }) ]) z)

  pub fold_given : {bytes after : List ℕ} {at : ℕ} → y ≡ false → bytes ≡ take (n - 0) (drop 0 page) → Put buffer 0 bytes at after → Folds (spared spare (fold text buffer)) buffer after (Ok n)
  fold_given {bytes} z b p =
      let zero : n - 0 ≡ n = omega arith in
      let is : bytes ≡ take n page = b ∙ ap (λ (k : ℕ). take k page) zero in
      let long : 0 + length bytes ≡ n = zero-add (length bytes) ∙ ap length is ∙ h.1 in
      folds_given (answered ∙ ap (λ (y : Bool). elim y as (λ x. Answer Bytes) [ true ↦ refused no_room 0 | false ↦ given (record { size = n; buffer = take n page ++ drop n buffer }) ]) z
      ∙ ap (λ (l : List ℕ). given (record { size = n; buffer = l })) (sym (p.page ∙ ap₂ (λ (l : List ℕ) (k : ℕ). l ++ drop k buffer) is long)))

  pub fold_fits : {bytes : List ℕ} → y ≡ false → bytes ≡ take (n - 0) (drop 0 page) → 0 + length bytes ≤ length buffer
  fold_fits {bytes} z b =
      let zero : n - 0 ≡ n = omega arith in
      let is : bytes ≡ take n page = b ∙ ap (λ (k : ℕ). take k page) zero in
      let long : length bytes ≡ n = ap length is ∙ h.1 in
      by spare (ltb (length buffer) n) refl (e ∙ z) long
    where
      by : (s b : Bool) → ltb (length buffer) n ≡ b → (not s || b) ≡ false → {k : ℕ} → k ≡ n → 0 + k ≤ length buffer
      by true true q w k = absurd (let z : ◌≡◌ {A = ℕ} 0 1 = cc in omega arith)
      by true false q w k = omega (arith, ltb-false (length buffer) n q)
      by false b q w k = absurd (let z : ◌≡◌ {A = ℕ} 0 1 = cc in omega arith)
