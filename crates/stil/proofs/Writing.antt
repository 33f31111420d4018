-- An index as a caller in C has it: one number, its bytes in one buffer, and its length at the front of another.
use Prim.Native.Nat.{ℕ, ◌≤◌}
use mathlib.Core.Path.{◌≡◌, sym, ap, ◌∙◌}
use mathlib.Core.List.{List, [], ◌∷◌}
use lib.Dec.{leb}
use lib.ListN.{length}
use Rattle.meaning.specs.Meaning.{Answer}
use Rattle.texts.specs.Told.{packed_refusal}
use Rattle.index.specs.Index.{Rebuilt as Bytes}
use Rattle.verdicts.specs.Buffers.{afterwards, spared}
use Rattle.services.specs.Indexes.{indexed_of, Indexes}
use Rattle.std.specs.Prelude.{Result, Ok, Err}
use Rattle.tokens.specs.declared.Refusal.{Refusal}
use Rattle.stil.specs.Interface.{with_room, fronted}
use Rattle.stil.specs.Indexes.{Writes}
use Rattle.stil.proofs.Handing.{hands_none, hands_all}
use Rattle.stil.proofs.Opening.{some_room}

module _ (a : Answer Bytes) {buffer buffer' : List ℕ} {r : Result ℕ Refusal} (numbers : List ℕ) (h : Indexes (spared (leb 1 (length numbers)) a) buffer buffer' r) where
  roomy : indexed_of r buffer' ≡ with_room 1 numbers a
  unfolding with_room
  roomy = h.answers

  filled : buffer' ≡ afterwards (λ x. x.buffer) (with_room 1 numbers a) buffer
  unfolding with_room
  filled = h.buffer_is

  pub writes_none : {x : Refusal} {s : ℕ} → r ≡ Err x → s ≡ packed_refusal x.no x.place → Writes a buffer buffer' numbers s numbers
  writes_none e q = record { counted = hands_none (sym roomy ∙ ap (λ (x : Result ℕ Refusal). indexed_of x buffer') e) q; index_is = filled }

  module _ {n : ℕ} (e : r ≡ Ok n) where
    pub writes_room : 1 ≤ length numbers
    writes_room = some_room a 1 numbers (sym h.answers ∙ ap (λ (x : Result ℕ Refusal). indexed_of x buffer') e)

    pub writes_all : {numbers' : List ℕ} → numbers' ≡ fronted (n ∷ []) numbers → Writes a buffer buffer' numbers 0 numbers'
    writes_all q = record { counted = hands_all (sym roomy ∙ ap (λ (x : Result ℕ Refusal). indexed_of x buffer') e) q; index_is = filled }
