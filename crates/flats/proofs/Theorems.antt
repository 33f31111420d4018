-- What follows from the promise of the service, whatever keeps it: one answer only, and nothing written where a call is refused.
use Prim.Native.Nat.{ℕ}
use mathlib.Core.Path.{◌≡◌, sym, ap, ◌∙◌}
use mathlib.Core.List.{List}
use Rattle.std.specs.Prelude.{Result, Ok, Err}
use Rattle.tokens.specs.declared.Refusal.{Refusal}
use Rattle.meaning.specs.Meaning.{Answer, given, refused}
use Rattle.folded.specs.Fold.{Folded as Bytes}
use Rattle.verdicts.specs.Buffers.{afterwards}
use Rattle.flats.specs.Flattens.{buffer_of, folded_of, Folds}

pub fold_determined : {a : Answer Bytes} {before x y : List ℕ} {r s : Result ℕ Refusal} → Folds a before x r → Folds a before y s → (r ≡ s) × (x ≡ y)
fold_determined {a} {before} {x} {y} {r} {s} h k = (told r x h.answers ∙ sym (told s y k.answers), h.buffer_is ∙ sym k.buffer_is)
  where
    back : Answer Bytes → Result ℕ Refusal
    back (given w) = Ok w.size
    back (refused n p) = Err (record { no = n; place = p })

    told : (r : Result ℕ Refusal) (after : List ℕ) → folded_of r after ≡ a → r ≡ back a
    told (Ok n) after e = ap back e
    told (Err x) after e = ap back e

pub fold_untouched : {a : Answer Bytes} {before after : List ℕ} {x : Refusal} → Folds a before after (Err x) → after ≡ before
unfolding afterwards
fold_untouched {a} {before} h = h.buffer_is ∙ ap (λ (x : Answer Bytes). buffer_of x before) (sym h.answers)
