-- What follows from the promise of the service, whatever keeps it: one answer only, and nothing written where a call is refused.
use Prim.Native.Nat.{ℕ}
use mathlib.Core.Path.{◌≡◌, sym, ap, ◌∙◌}
use mathlib.Core.Bool.{true, false}
use mathlib.Core.List.{List}
use Rattle.std.specs.Prelude.{Result, Ok, Err}
use Rattle.tokens.specs.declared.Refusal.{Refusal}
use Rattle.fails.specs.Fails.{Told, answers, refuses, Failed}
use Rattle.fails.specs.Service.{told_of, row_after, Reports}
use Rattle.fails.specs.declared.Unanswered.{Unanswered}
use Rattle.fails.specs.declared.Unanswered.TheVariants.{Text, Report}

pub report_determined : {a : Told Failed} {c x₁ x₂ s y₁ y₂ l z₁ z₂ : List ℕ} {r q : Result ℕ Unanswered} → Reports a c x₁ s y₁ l z₁ r → Reports a c x₂ s y₂ l z₂ q
    → (r ≡ q) × (x₁ ≡ x₂) × (y₁ ≡ y₂) × (z₁ ≡ z₂)
report_determined {a} {c} {x₁} {x₂} {s} {y₁} {y₂} {l} {z₁} {z₂} {r} {q} h k = (
  told r x₁ y₁ z₁ h.told ∙ sym (told q x₂ y₂ z₂ k.told),
  h.cycles_are ∙ sym k.cycles_are,
  h.signals_are ∙ sym k.signals_are,
  h.letters_are ∙ sym k.letters_are,
)
  where
    back : Told Failed → Result ℕ Unanswered
    back (answers x) = Ok x.count
    back (refuses its n p) = elim its [ true ↦ Err (Report (record { no = n; place = p })) | false ↦ Err (Text (record { no = n; place = p })) ]

    told : (r : Result ℕ Unanswered) (x y z : List ℕ) → told_of r x y z ≡ a → r ≡ back a
    told (Ok n) x y z e = ap back e
    told (Err (Text u)) x y z e = ap back e
    told (Err (Report u)) x y z e = ap back e

module _ {a : Told Failed} {c c' s s' l l' : List ℕ} {x : Refusal} where
  pub text_untouched : Reports a c c' s s' l l' (Err (Text x)) → (c' ≡ c) × (s' ≡ s) × (l' ≡ l)
  unfolding row_after
  text_untouched h = (
    h.cycles_are ∙ ap (λ (x : Told Failed). row_after (λ b. b.cycles) x c) (sym h.told),
    h.signals_are ∙ ap (λ (x : Told Failed). row_after (λ b. b.signals) x s) (sym h.told),
    h.letters_are ∙ ap (λ (x : Told Failed). row_after (λ b. b.letters) x l) (sym h.told),
  )

  pub report_untouched : Reports a c c' s s' l l' (Err (Report x)) → (c' ≡ c) × (s' ≡ s) × (l' ≡ l)
  unfolding row_after
  report_untouched h = (
    h.cycles_are ∙ ap (λ (x : Told Failed). row_after (λ b. b.cycles) x c) (sym h.told),
    h.signals_are ∙ ap (λ (x : Told Failed). row_after (λ b. b.signals) x s) (sym h.told),
    h.letters_are ∙ ap (λ (x : Told Failed). row_after (λ b. b.letters) x l) (sym h.told),
  )
