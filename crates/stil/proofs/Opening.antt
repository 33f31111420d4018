-- A window as a caller in C has it: one number, the rows in one buffer, and their count and the visits at the front of another.
use Prim.Native.Nat.{ℕ, ◌≤◌}
use native.Mathlib.Omega.{arith}
use mathlib.Core.Path.{◌≡◌, refl, sym, ap, ◌∙◌}
use mathlib.Core.Bool.{Bool, true, false}
use mathlib.Core.List.{List, [], ◌∷◌}
use lib.Dec.{leb}
use lib.ListN.{length}
use borrow.Author.Tests.{leb-true}
use Rattle.meaning.specs.Meaning.{Answer, given, refused, answering}
use Rattle.meaning.specs.Services.{Window}
use Rattle.texts.specs.Told.{packed_refusal}
use Rattle.verdicts.specs.Buffers.{afterwards, spared}
use Rattle.views.specs.Views.{shown_of, Views}
use Rattle.stil.specs.Interface.{with_room, fronted, Opens}
use Rattle.std.specs.Prelude.{Result, Ok, Err}
use Rattle.tokens.specs.declared.Refusal.{Refusal}
use Rattle.views.specs.declared.Rows.{Rows}
use Rattle.stil.proofs.Handing.{hands_none, hands_all}

-- without room for what else is handed out, nothing is given
spared_none : {A : Type 0} (a : Answer A) (x : A) → spared false a ≡ given x → ⊥
unfolding answering
spared_none (given y) x e = let z : ◌≡◌ {A = ℕ} 0 1 = cc in omega arith
spared_none (refused n p) x e = let z : ◌≡◌ {A = ℕ} 0 1 = cc in omega arith

pub some_room : {A : Type 0} (a : Answer A) (k : ℕ) (numbers : List ℕ) {x : A} → spared (leb k (length numbers)) a ≡ given x → k ≤ length numbers
some_room a k numbers {x} e = by (leb k (length numbers)) refl e
  where
    by : (y : Bool) → leb k (length numbers) ≡ y → spared y a ≡ given x → k ≤ length numbers
    by true t e = leb-true k (length numbers) t
    by false t e = absurd (spared_none a x e)

module _ (a : Answer Window) {rows rows' : List ℕ} {r : Result Rows Refusal} (numbers : List ℕ) (h : Views (spared (leb 2 (length numbers)) a) rows rows' r) where
  answered : shown_of r rows' ≡ with_room 2 numbers a
  unfolding with_room
  answered = h.answers

  written : rows' ≡ afterwards (λ w. w.buffer) (with_room 2 numbers a) rows
  unfolding with_room
  written = h.buffer_is

  pub opens_none : {x : Refusal} {s : ℕ} → r ≡ Err x → s ≡ packed_refusal x.no x.place → Opens a rows rows' numbers s numbers
  opens_none e q = record { counted = hands_none (sym answered ∙ ap (λ (x : Result Rows Refusal). shown_of x rows') e) q; rows_are = written }

  module _ {x : Rows} (e : r ≡ Ok x) where
    pub opens_room : 2 ≤ length numbers
    opens_room = some_room a 2 numbers (sym h.answers ∙ ap (λ (x : Result Rows Refusal). shown_of x rows') e)

    pub opens_all : {numbers' : List ℕ} → numbers' ≡ fronted (x.count ∷ x.visits ∷ []) numbers → Opens a rows rows' numbers 0 numbers'
    opens_all q = record { counted = hands_all (sym answered ∙ ap (λ (x : Result Rows Refusal). shown_of x rows') e) q; rows_are = written }
