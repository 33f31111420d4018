-- A saved text as a caller in C has it: one number, the text and its spans in two buffers, and how many there are at the front of a third.
use Prim.Native.Nat.{ℕ, ◌≤◌}
use mathlib.Core.Path.{◌≡◌, sym, ap, ◌∙◌}
use mathlib.Core.List.{List, [], ◌∷◌}
use lib.Dec.{leb}
use lib.ListN.{length}
use Rattle.meaning.specs.Meaning.{Answer}
use Rattle.texts.specs.Told.{packed_refusal}
use Rattle.saving.specs.Saving.{Restored}
use Rattle.verdicts.specs.Buffers.{afterwards, spared}
use Rattle.services.specs.Saves.{saved_of, Saves}
use Rattle.std.specs.Prelude.{Result, Ok, Err}
use Rattle.tokens.specs.declared.Refusal.{Refusal}
use Rattle.stil.specs.Interface.{with_room, fronted}
use Rattle.stil.specs.Saves.{Restores}
use Rattle.stil.proofs.Handing.{hands_none, hands_all}
use Rattle.stil.proofs.Opening.{some_room}

module _ (a : Answer Restored) {text text' spans spans' : List ℕ} {r : Result ℕ Refusal} (numbers : List ℕ) (h : Saves (spared (leb 1 (length numbers)) a) text text' spans spans' r) where
  answered : saved_of r text' spans' ≡ with_room 1 numbers a
  unfolding with_room
  answered = h.answers

  the_text : text' ≡ afterwards (λ x. x.text) (with_room 1 numbers a) text
  unfolding with_room
  the_text = h.text_is

  the_spans : spans' ≡ afterwards (λ x. x.spans) (with_room 1 numbers a) spans
  unfolding with_room
  the_spans = h.spans_are

  pub restores_none : {x : Refusal} {s : ℕ} → r ≡ Err x → s ≡ packed_refusal x.no x.place → Restores a text text' spans spans' numbers s numbers
  restores_none e q = record { counted = hands_none (sym answered ∙ ap (λ (x : Result ℕ Refusal). saved_of x text' spans') e) q; text_is = the_text; spans_are = the_spans }

  module _ {n : ℕ} (e : r ≡ Ok n) where
    pub restores_room : 1 ≤ length numbers
    restores_room = some_room a 1 numbers (sym h.answers ∙ ap (λ (x : Result ℕ Refusal). saved_of x text' spans') e)

    pub restores_all : {numbers' : List ℕ} → numbers' ≡ fronted (n ∷ []) numbers → Restores a text text' spans spans' numbers 0 numbers'
    restores_all q = record { counted = hands_all (sym answered ∙ ap (λ (x : Result ℕ Refusal). saved_of x text' spans') e) q; text_is = the_text; spans_are = the_spans }
