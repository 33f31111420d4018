-- What follows from the promises of the services, whatever keeps them: one answer only, and nothing written where a call is refused.
use Prim.Native.Nat.{ℕ}
use native.Mathlib.Omega.{arith}
use mathlib.Core.Path.{◌≡◌, refl, sym, ap, ◌∙◌}
use Rattle.std.specs.Prelude.{Result, Ok, Err, Option as Maybe, Some, None}
use Rattle.tokens.specs.declared.Refusal.{Refusal}
use mathlib.Core.Option.{Option, none, some}
use mathlib.Core.List.{List}
use Rattle.meaning.specs.Meaning.{Answer, given, refused}
use Rattle.meaning.specs.Results.{answer_of}
use Rattle.meaning.specs.Services.{Counts, Waveform}
use Rattle.meaning.specs.Charts.{Chart}
use Rattle.index.specs.Index.{Rebuilt as Bytes}
use Rattle.index.specs.Lines.{held_of}
use Rattle.saving.specs.Saving.{Restored}
use Rattle.verdicts.specs.Buffers.{afterwards}
use Rattle.texts.specs.Told.{counts_in}
use Rattle.texts.specs.declared.Counts.{Counts as Five}
use Rattle.services.specs.Answers.{checked_of, located_of}
use Rattle.services.specs.Waveforms.{Shapes}
use Rattle.services.specs.Charts.{charted_of, Plots}
use Rattle.services.specs.Indexes.{belonging_of, holding_of, Indexes}
use Rattle.services.specs.Saves.{Saves}
use Rattle.services.specs.declared.Undrawn.{Undrawn}
use Rattle.services.specs.declared.Undrawn.TheVariants.{Stopped, Refused}
use Rattle.verdicts.specs.declared.Name.{Name}

-- ---- one answer only, and one content of each buffer afterwards

-- where what the code gives can be told from the answer
determined : {T A : Type 0} (f : T → A) (back : A → T) → ((x : T) → x ≡ back (f x)) → {a : Answer A} (r s : Result T Refusal) → answer_of f r ≡ a → answer_of f s ≡ a → r ≡ s
determined {T} {A} f back same {a} r s h k = told r h ∙ sym (told s k)
  where
    result : Answer A → Result T Refusal
    result (given x) = Ok (back x)
    result (refused n p) = Err (record { no = n; place = p })

    told : (r : Result T Refusal) → answer_of f r ≡ a → r ≡ result a
    told (Ok x) e = ap Ok (same x) ∙ ap result e
    told (Err x) e = ap result e

pub check_determined : {a : Answer Counts} (r s : Result Five Refusal) → checked_of r ≡ a → checked_of s ≡ a → r ≡ s
check_determined r s h k = determined counts_in (λ x. record { signals = x.signals; tables = x.tables; listed = x.listed; cycles = x.cycles; size = x.size }) (λ x. refl) r s h k

pub name_determined : {a : Answer (ℕ × ℕ)} (r s : Result Name Refusal) → located_of r ≡ a → located_of s ≡ a → r ≡ s
name_determined r s h k = determined (λ x. (x.at, x.length)) (λ x. record { at = x.0; length = x.1 }) (λ x. refl) r s h k

-- where a number is given, and what it stands beside
counted : {A : Type 0} {f g : ℕ → A} (number : A → ℕ) → ((n : ℕ) → n ≡ number (f n)) → ((n : ℕ) → n ≡ number (g n)) → {a : Answer A} (r s : Result ℕ Refusal)
    → answer_of f r ≡ a → answer_of g s ≡ a → r ≡ s
counted {A} {f} {g} number p q {a} r s h k = told p r h ∙ sym (told q s k)
  where
    result : Answer A → Result ℕ Refusal
    result (given x) = Ok (number x)
    result (refused n p) = Err (record { no = n; place = p })

    told : {e : ℕ → A} → ((n : ℕ) → n ≡ number (e n)) → (r : Result ℕ Refusal) → answer_of e r ≡ a → r ≡ result a
    told p (Ok n) e = ap Ok (p n) ∙ ap result e
    told p (Err x) e = ap result e

pub waveform_determined : {a : Answer Waveform} {times t u letters l k : List ℕ} {r s : Result ℕ Refusal}
    → Shapes a times t letters l r → Shapes a times u letters k s → (r ≡ s) × (t ≡ u) × (l ≡ k)
waveform_determined {a} {times} {t} {u} {letters} {l} {k} {r} {s} h j =
    (counted (λ w. w.count) (λ n. refl) (λ n. refl) r s h.answers j.answers, h.times_are ∙ sym j.times_are, h.letters_are ∙ sym j.letters_are)

pub waveforms_determined : {a : Answer Chart} {times t u letters l k counts c d : List ℕ} {r s : Result ℕ Undrawn}
    → Plots a times t letters l counts c r → Plots a times u letters k counts d s → (r ≡ s) × (t ≡ u) × (l ≡ k) × (c ≡ d)
waveforms_determined h j =
    (h.answers ∙ sym j.answers, h.times_are ∙ sym j.times_are, h.letters_are ∙ sym j.letters_are, h.counts_are ∙ sym j.counts_are)

pub index_determined : {a : Answer Bytes} {before x y : List ℕ} {r s : Result ℕ Refusal} → Indexes a before x r → Indexes a before y s → (r ≡ s) × (x ≡ y)
index_determined {a} {before} {x} {y} {r} {s} h k = (counted (λ w. w.size) (λ n. refl) (λ n. refl) r s h.answers k.answers, h.buffer_is ∙ sym k.buffer_is)

pub belongs_determined : {a : Answer (Unit {0})} (r s : Result (Unit {0}) Refusal) → belonging_of r ≡ a → belonging_of s ≡ a → r ≡ s
belongs_determined r s h k = determined (λ u. tt) (λ u. tt) (λ u. refl) r s h k

pub holds_determined : {a : Answer (Option ℕ)} (r s : Result (Maybe ℕ) Refusal) → holding_of r ≡ a → holding_of s ≡ a → r ≡ s
holds_determined r s h k = determined held_of back same r s h k
  where
    back : Option ℕ → Maybe ℕ
    back (some k) = Some k
    back none = None

    same : (o : Maybe ℕ) → o ≡ back (held_of o)
    same (Some k) = refl
    same None = refl

pub save_determined : {a : Answer Restored} {text t u spans n m : List ℕ} {r s : Result ℕ Refusal} → Saves a text t spans n r → Saves a text u spans m s → (r ≡ s) × (t ≡ u) × (n ≡ m)
save_determined {a} {text} {t} {u} {spans} {n} {m} {r} {s} h k =
    (counted (λ x. x.count) (λ i. refl) (λ i. refl) r s h.answers k.answers, h.text_is ∙ sym k.text_is, h.spans_are ∙ sym k.spans_are)

-- ---- a refused call leaves every buffer as it was

pub save_untouched : {a : Answer Restored} {text t spans b : List ℕ} {x : Refusal} → Saves a text t spans b (Err x) → (t ≡ text) × (b ≡ spans)
unfolding afterwards
save_untouched {a} {text} {t} {spans} h = (
  h.text_is ∙ ap (λ (x : Answer Restored). afterwards (λ w. w.text) x text) (sym h.answers),
  h.spans_are ∙ ap (λ (x : Answer Restored). afterwards (λ w. w.spans) x spans) (sym h.answers),
)

pub index_untouched : {a : Answer Bytes} {before after : List ℕ} {x : Refusal} → Indexes a before after (Err x) → after ≡ before
unfolding afterwards
index_untouched {a} {before} h = h.buffer_is ∙ ap (λ (x : Answer Bytes). afterwards (λ w. w.buffer) x before) (sym h.answers)

pub waveform_untouched : {a : Answer Waveform} {times t letters l : List ℕ} {x : Refusal} → Shapes a times t letters l (Err x) → (t ≡ times) × (l ≡ letters)
unfolding afterwards
waveform_untouched {a} {times} {t} {letters} h = (
  h.times_are ∙ ap (λ (x : Answer Waveform). afterwards (λ w. w.times) x times) (sym h.answers),
  h.letters_are ∙ ap (λ (x : Answer Waveform). afterwards (λ w. w.letters) x letters) (sym h.answers),
)

-- of a list, one that is refused before any of its waveforms
pub waveforms_untouched : {a : Answer Chart} {times t letters l counts c : List ℕ} {x : Refusal} → Plots a times t letters l counts c (Err (Refused x))
    → (t ≡ times) × (l ≡ letters) × (c ≡ counts)
unfolding afterwards
waveforms_untouched {a} {times} {t} {letters} {l} {counts} {c} {x} h = by a h.answers h.times_are h.letters_are h.counts_are
  where
    on : {A : Type 0} (o : Option (ℕ × ℕ)) (e s : ℕ) → ◌≡◌ {A = Result ℕ Undrawn} (Err (Refused x)) (elim o [ none ↦ Ok e | some q ↦ Err (Stopped (record { no = q.0; place = q.1 }) s) ]) → A
    on none e s q = let z : ◌≡◌ {A = ℕ} 0 1 = cc in absurd (omega arith)
    on (some y) e s q = let z : ◌≡◌ {A = ℕ} 0 1 = cc in absurd (omega arith)

    by : (a : Answer Chart) → Err (Refused x) ≡ charted_of a → t ≡ afterwards (λ x. x.times) a times → l ≡ afterwards (λ x. x.letters) a letters
        → c ≡ afterwards (λ x. x.counts) a counts → (t ≡ times) × (l ≡ letters) × (c ≡ counts)
    by (given y) e p q r = on y.stopped y.events y.served e
    by (refused n p) e f g h = (f, g, h)
