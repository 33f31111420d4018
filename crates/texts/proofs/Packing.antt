-- An answer as a caller in C has it: one number, and the numbers of its buffer.
use Prim.Native.Nat.{ℕ, ◌+◌, ◌*◌, ◌≤◌, ◌<◌}
use mathlib.Core.Path.{◌≡◌, refl, ap}
use mathlib.Core.List.{List, [], ◌∷◌, ◌++◌}
use lib.ListN.{length, drop}
use borrow.Author.Tests.{le-leb, lt-leb}
use Rattle.tokens.specs.Refusals.{text_most}
use Rattle.meaning.specs.Refusals.{no_room}
use Rattle.meaning.specs.Meaning.{Answer, given, refused}
use Rattle.meaning.specs.Services.{Counts}
use Rattle.texts.specs.Told.{packed_refusal, packed, written, Packs}

module _ {a : Answer Counts} (l : List ℕ) where
  module _ {n p : ℕ} (e : refused n p ≡ a) where
    pub packs_refusal : p ≤ text_most → Packs a l (p * 32 + n) l
    unfolding packed written
    packs_refusal h = rw (← e) (record { number = rw (le-leb p text_most h, packed_refusal); buffer = refl })

    pub packs_far : text_most < p → Packs a l n l
    unfolding packed written
    packs_far h = rw (← e) (record { number = rw (lt-leb p text_most h, packed_refusal); buffer = refl })

  module _ {x : Counts} (e : given x ≡ a) where
    pub packs_none : length l < 5 → Packs a l no_room l
    unfolding packed written
    packs_none h = rw (← e) (record { number = rw (lt-leb 5 (length l) h, packed); buffer = rw (lt-leb 5 (length l) h, written) })

    pub packs_five : 5 ≤ length l → {five : List ℕ} → five ≡ x.signals ∷ x.tables ∷ x.listed ∷ x.cycles ∷ x.size ∷ [] → Packs a l 0 (five ++ drop 5 l)
    unfolding packed written
    packs_five h q = rw (← e) (record { number = rw (le-leb 5 (length l) h, packed); buffer = rw (le-leb 5 (length l) h, written) (ap (λ (b : List ℕ). b ++ drop 5 l) q) })
