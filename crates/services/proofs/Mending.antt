-- Saving a text: a turn from what was judged, and the service's answer from all turns.
use Prim.Native.Nat.{ℕ, ◌+◌, ◌*◌, ◌-◌, ◌/◌, ◌≤◌, ◌<◌}
use native.Mathlib.Omega.{arith}
use native.Mathlib.Nat.{zero-add}
use mathlib.Core.Path.{◌≡◌, refl, sym, ap, ◌∙◌, subst}
use mathlib.Core.Bool.{Bool, true, false, not, ◌||◌}
use mathlib.Core.List.{List, ◌++◌, append-nil}
use lib.Dec.{ltb}
use lib.ListN.{length, take, drop, length-take, drop_of_length-le}
use lib.Seq.{take_at}
use borrow.Author.Tests.{ltb-true, ltb-false, not-false}
use Rattle.std.specs.Prelude.{Ok, Err}
use Rattle.tokens.specs.declared.Refusal.{Refusal}
use Rattle.tokens.specs.Refusals.{text_most, too_long}
use Rattle.tokens.proofs.Bools.{neither}
use Rattle.meaning.specs.Refusals.{no_room}
use Rattle.meaning.specs.Meaning.{Answer, given, refused, answering}
use Rattle.pages.specs.Pages.{Puts}
use Rattle.saving.specs.Saving.{verdict, Saved as SavedText, saving, Restored, save}
use Rattle.saving.specs.Steps.{Steps}
use Rattle.saving.specs.Spans.{noted_all}
use Rattle.saving.specs.Mends.{Mends}
use Rattle.saving.specs.declared.Mended.{Mended}
use Rattle.saving.proofs.Repeating.{steps_length}
use Rattle.saving.proofs.Saved.{saved_from}
use Rattle.saving.proofs.Noting.{all_length}
use Rattle.saving.proofs.Mending.{mends_refused, mends_saved, log_front, too_long_saving, save_refused, save_full, save_given}
use Rattle.verdicts.specs.Buffers.{afterwards, spared}
use Rattle.services.specs.Saves.{SomeCopy, Saves}
use Rattle.verdicts.proofs.Sparing.{spared_all}

-- ---- a copy of the text, mended

-- the part that is handed over is the text
pub copied_part : {text before copied : List ℕ} {s : ℕ} → Puts before 0 text s copied → take (length text - 0) (drop 0 copied) ≡ text
copied_part {text} {before} {copied} p =
    let z : length text - 0 ≡ length text = omega arith in
    ap (λ (n : ℕ). take n copied) z ∙ ap (take (length text)) p.page ∙ take_at text (drop (0 + length text) before) (length text) refl

pub copy_mended : {text part behind : List ℕ} (rest : List ℕ) {log log' : List ℕ} {r : Mended} → part ≡ text → Mends part behind log log' r → Mends text (take (length text) (behind ++ rest)) log log' r
copy_mended {text} {part} {behind} rest {log} {log'} {r} e m = subst (λ (t : List ℕ). Mends t (take (length text) (behind ++ rest)) log log' r) e (record {
  spans = m.spans;
  steps = subst (Steps part m.spans) front m.steps;
  counted = m.counted;
  noted = m.noted;
  ended = ap verdict (sym front) ∙ m.ended;
})
  where
    front : behind ≡ take (length text) (behind ++ rest)
    front = sym (take_at behind rest (length text) (steps_length m.steps ∙ ap length e))

-- ---- handed back

pub span_fits : (copy text : List ℕ) {bytes : List ℕ} → bytes ≡ take (length text - 0) (drop 0 copy) → 0 + length bytes ≤ length text
span_fits copy text e = omega (arith, ap length e, length-take (length text - 0) copy)

pub handed_back : {text text' spans spans' copy log bytes : List ℕ} {count s : ℕ} → SomeCopy text spans copy log count → count ≤ length log / 2
    → bytes ≡ take (length text - 0) (drop 0 copy) → Puts text 0 bytes s text' → spans' ≡ take (count * 2) log ++ drop (count * 2) spans
    → (x : SavedText) → saving text ≡ given x → (text' ≡ x.text) × (spans' ≡ noted_all x.spans spans)
handed_back {text} {text'} {spans} {spans'} {copy} {log} {bytes} {count} h k b p q x e =
    let y : h.saved ≡ x = (let g = sym h.saves ∙ e in cc) in
    let z : length text - 0 ≡ length text = omega arith in
    let i : bytes ≡ h.saved.text = b ∙ ap (λ (n : ℕ). take n copy) z ∙ h.copied in
    let l : length bytes ≡ length text = ap length i ∙ (saved_from text h.saved h.saves).same_length in
    let m : length log ≡ length h.blank = ap length h.logged ∙ all_length h.saved.spans h.blank in (
      p.page ∙ ap (λ (n : ℕ). bytes ++ drop n text) (zero-add (length bytes) ∙ l) ∙ ap (λ (u : List ℕ). bytes ++ u) (drop_of_length-le text {i = length text} (omega arith)) ∙ append-nil bytes ∙ i
          ∙ ap (λ (u : SavedText). u.text) y,
      q ∙ ap (λ (u : List ℕ). take (count * 2) u ++ drop (count * 2) spans) h.logged
          ∙ log_front h.saved.spans h.blank spans {n = count * 2} (omega (arith, h.counted)) (omega arith) (omega (arith, h.roomy)) ∙ ap (λ (u : SavedText). noted_all u.spans spans) y,
    )

-- ---- as the service answers it

module _ {a : Answer Restored} {text spans : List ℕ} where
  saves_refused : {x : Refusal} → a ≡ refused x.no x.place → Saves a text text spans spans (Err x)
  unfolding afterwards
  saves_refused e = rw e (record { answers = refl; text_is = refl; spans_are = refl })

  saves_given : {n : ℕ} {text' spans' : List ℕ} → a ≡ given (record { count = n; text = text'; spans = spans' }) → Saves a text text' spans spans' (Ok n)
  unfolding afterwards
  saves_given e = rw e (record { answers = refl; text_is = refl; spans_are = refl })

spared_refused : {A : Type 0} (spare : Bool) {a : Answer A} {n p : ℕ} → a ≡ refused n p → spared spare a ≡ refused n p
unfolding answering
spared_refused spare e = rw e

-- what is given has no room beside
spared_given : {A : Type 0} {a : Answer A} {x : A} → a ≡ given x → spared false a ≡ refused no_room 0
unfolding answering
spared_given e = rw e

module _ (text spans : List ℕ) (spare : Bool) where
  pub save_too_long : text_most < length text → Saves (spared spare (save text spans)) text text spans spans (Err (record { no = too_long; place = 0 }))
  save_too_long h = saves_refused (spared_refused spare (save_refused text spans (too_long_saving text h)))

  pub save_beyond : (copy : List ℕ) {log log' : List ℕ} {r : Mended} {x : Refusal} → Mends text (take (length text) copy) log log' r → r.end ≡ Err x → Saves (spared spare (save text spans)) text text spans spans (Err x)
  save_beyond copy h k = saves_refused (spared_refused spare (save_refused text spans (mends_refused h k)))

  module _ (copy : List ℕ) {log log' : List ℕ} {r : Mended} {u : Unit} (h : Mends text (take (length text) copy) log log' r) (k : r.end ≡ Ok u) where
    abbrev it : SavedText
    it = record { text = take (length text) copy; spans = h.spans }

    saves_it : saving text ≡ given it
    saves_it = mends_saved h k

    pub save_roomless : (not spare || ltb (length spans / 2) r.count) ≡ true → Saves (spared spare (save text spans)) text text spans spans (Err (record { no = no_room; place = 0 }))
    save_roomless e = saves_refused (by spare (ltb (length spans / 2) r.count) refl e)
      where
        by : (s : Bool) (l : Bool) → ltb (length spans / 2) r.count ≡ l → (not s || l) ≡ true → spared s (save text spans) ≡ refused no_room 0
        by s true q e = spared_refused s (save_full text spans saves_it (omega (arith, ltb-true (length spans / 2) r.count q, h.counted)))
        by false false q e = spared_given (save_given text spans saves_it (omega (arith, ltb-false (length spans / 2) r.count q, h.counted)))
        by true false q e = let z : ◌≡◌ {A = ℕ} 0 1 = cc in absurd (omega arith)

    module _ (e : (not spare || ltb (length spans / 2) r.count) ≡ false) where
      enough : r.count ≤ length spans / 2
      enough = ltb-false (length spans / 2) r.count (neither (not spare) (ltb (length spans / 2) r.count) e).1

      pub some_copy : length text ≤ text_most → SomeCopy text spans copy log' r.count
      some_copy s = record { saved = it; saves = saves_it; short = s; copied = refl; blank = log; logged = h.noted; counted = h.counted; roomy = enough }

      pub save_told : {text' spans' : List ℕ} → ((x : SavedText) → saving text ≡ given x → (text' ≡ x.text) × (spans' ≡ noted_all x.spans spans))
          → Saves (spared spare (save text spans)) text text' spans spans' (Ok r.count)
      save_told {text'} {spans'} f =
          let w = f it saves_it in
          saves_given (ap (λ (b : Bool). spared b (save text spans)) (not-false spare (neither (not spare) (ltb (length spans / 2) r.count) e).0) ∙ spared_all (save text spans)
          ∙ save_given text spans saves_it (omega (arith, enough, h.counted)) ∙ rw (← h.counted, ← w.0, ← w.1))
