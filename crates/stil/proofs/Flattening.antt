-- Fold for callers in C, from what the service answers where its length has room, or 19.
use Prim.Native.Nat.{ℕ, ◌≤◌}
use mathlib.Core.Path.{◌≡◌, sym, ap, ◌∙◌}
use mathlib.Core.List.{List, [], ◌∷◌}
use lib.Dec.{leb}
use lib.ListN.{length}
use Rattle.meaning.specs.Meaning.{Answer}
use Rattle.texts.specs.Told.{packed_refusal}
use Rattle.folded.specs.Fold.{Folded as Bytes}
use Rattle.flats.specs.Flattens.{folded_of, Folds}
use Rattle.std.specs.Prelude.{Result, Ok, Err}
use Rattle.tokens.specs.declared.Refusal.{Refusal}
use Rattle.verdicts.specs.Buffers.{afterwards, spared}
use Rattle.stil.specs.Interface.{with_room, fronted}
use Rattle.stil.specs.Folds.{Flattens}
use Rattle.stil.proofs.Handing.{hands_none, hands_all}
use Rattle.stil.proofs.Opening.{some_room}

module _ (a : Answer Bytes) {buffer buffer' : List ℕ} {r : Result ℕ Refusal} (numbers : List ℕ) (h : Folds (spared (leb 1 (length numbers)) a) buffer buffer' r) where
  roomy : folded_of r buffer' ≡ with_room 1 numbers a
  unfolding with_room
  roomy = h.answers

  filled : buffer' ≡ afterwards (λ x. x.buffer) (with_room 1 numbers a) buffer
  unfolding with_room
  filled = h.buffer_is

  pub flattens_none : {x : Refusal} {s : ℕ} → r ≡ Err x → s ≡ packed_refusal x.no x.place → Flattens a buffer buffer' numbers s numbers
  flattens_none e q = record { counted = hands_none (sym roomy ∙ ap (λ (x : Result ℕ Refusal). folded_of x buffer') e) q; folded_is = filled }

  module _ {n : ℕ} (e : r ≡ Ok n) where
    pub flattens_room : 1 ≤ length numbers
    flattens_room = some_room a 1 numbers (sym h.answers ∙ ap (λ (x : Result ℕ Refusal). folded_of x buffer') e)

    pub flattens_all : {numbers' : List ℕ} → numbers' ≡ fronted (n ∷ []) numbers → Flattens a buffer buffer' numbers 0 numbers'
    flattens_all q = record { counted = hands_all (sym roomy ∙ ap (λ (x : Result ℕ Refusal). folded_of x buffer') e) q; folded_is = filled }
