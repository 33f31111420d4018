-- The repetition ends: each turn leaves fewer bytes that are no spaces, and so its count of turns is always enough and shows nowhere.
use Prim.Native.Nat.{ℕ, zero, suc, ◌+◌, ◌≤◌, ◌<◌}
use native.Mathlib.Omega.{arith}
use mathlib.Core.Path.{◌≡◌, refl, ap, ◌∙◌}
use mathlib.Core.Option.{Option, none, some}
use mathlib.Core.List.{List, [], ◌∷◌, ◌++◌}
use lib.ListN.{length}
use Rattle.meaning.specs.Meaning.{Answer, given, refused, answering, Meaning, meaning}
use Rattle.saving.specs.Saving.{Span, hurt, overwritten, Verdict, accepted, hurt_in, beyond_help, helped, judged_as, verdict, Saved, first, saving_f, saving}
use Rattle.saving.specs.Steps.{Steps, still, step}
use Rattle.saving.proofs.Spaces.{spaced_length, inked, inked_most, spaced_fewer}
use Rattle.saving.proofs.Marks.{Marked, hurt_marked}

-- ---- what a verdict says

-- the refusal that overwrites a span
pub record Refuses (text : List ℕ) (s : Span) : Type 0 where
  pub number : ℕ
  pub place : ℕ
  pub refuses : meaning text ≡ refused number place
  pub overwrites : hurt text number place ≡ some s

pub hurt_refuses : (text : List ℕ) (s : Span) → verdict text ≡ hurt_in s → Refuses text s
unfolding verdict judged_as helped
hurt_refuses text s e = by (meaning text) refl e
  where
    on : (n p : ℕ) → meaning text ≡ refused n p → (o : Option Span) → hurt text n p ≡ o → helped n p o ≡ hurt_in s → Refuses text s
    on n p q none h e = let z : ◌≡◌ {A = ℕ} 0 1 = cc in absurd (omega arith)
    on n p q (some t) h e = let k : t ≡ s = cc in record { number = n; place = p; refuses = q; overwrites = h ∙ ap some k }

    by : (a : Answer Meaning) → meaning text ≡ a → judged_as text a ≡ hurt_in s → Refuses text s
    by (given m) q e = let z : ◌≡◌ {A = ℕ} 0 1 = cc in absurd (omega arith)
    by (refused n p) q e = on n p q (hurt text n p) refl e

pub accepts_verdict : (text : List ℕ) (m : Meaning) → meaning text ≡ given m → verdict text ≡ accepted
unfolding verdict judged_as
accepts_verdict text m e = ap (judged_as text) e

pub refused_verdict : (text : List ℕ) {n p : ℕ} {o : Option Span} → meaning text ≡ refused n p → hurt text n p ≡ o → verdict text ≡ helped n p o
unfolding verdict judged_as
refused_verdict text {n} {p} e h = ap (judged_as text) e ∙ ap (helped n p) h

pub accepted_means : (text : List ℕ) → verdict text ≡ accepted → (m : Meaning) × (meaning text ≡ given m)
unfolding verdict judged_as helped
accepted_means text e = by (meaning text) refl e
  where
    on : {A : Type 0} (n p : ℕ) (o : Option Span) → helped n p o ≡ accepted → A
    on n p none e = let z : ◌≡◌ {A = ℕ} 0 1 = cc in absurd (omega arith)
    on n p (some s) e = let z : ◌≡◌ {A = ℕ} 0 1 = cc in absurd (omega arith)

    by : (a : Answer Meaning) → meaning text ≡ a → judged_as text a ≡ accepted → (m : Meaning) × (meaning text ≡ given m)
    by (given m) q e = (m, q)
    by (refused n p) q e = on n p (hurt text n p) e

pub beyond_refuses : (text : List ℕ) (n p : ℕ) → verdict text ≡ beyond_help n p → (meaning text ≡ refused n p) × (hurt text n p ≡ none)
unfolding verdict judged_as helped
beyond_refuses text n p e = by (meaning text) refl e
  where
    on : (m q : ℕ) → meaning text ≡ refused m q → (o : Option Span) → hurt text m q ≡ o → helped m q o ≡ beyond_help n p → (meaning text ≡ refused n p) × (hurt text n p ≡ none)
    on m q r none h e = let i : m ≡ n = cc in let j : q ≡ p = cc in (rw (i, j) at r, rw (i, j) at h)
    on m q r (some s) h e = let z : ◌≡◌ {A = ℕ} 0 1 = cc in absurd (omega arith)

    by : (a : Answer Meaning) → meaning text ≡ a → judged_as text a ≡ beyond_help n p → (meaning text ≡ refused n p) × (hurt text n p ≡ none)
    by (given m) q e = let z : ◌≡◌ {A = ℕ} 0 1 = cc in absurd (omega arith)
    by (refused m q) r e = on m q r (hurt text m q) refl e

-- ---- a turn

pub hurt_span : (text : List ℕ) (s : Span) → verdict text ≡ hurt_in s → Marked text s
hurt_span text s e = let r = hurt_refuses text s e in hurt_marked text r.number r.place s r.overwrites

pub turn_fewer : (text : List ℕ) (s : Span) → verdict text ≡ hurt_in s → inked (overwritten s text) < inked text
unfolding overwritten
turn_fewer text s e = let m = hurt_span text s e in spaced_fewer s.first s.behind text m.some m.ink.inside m.ink.mark

pub turn_length : (text : List ℕ) (s : Span) → length (overwritten s text) ≡ length text
unfolding overwritten
turn_length text s = spaced_length s.first s.behind text

-- counts that are large enough give the same
same_count : (j k : ℕ) (text : List ℕ) → inked text < j → inked text < k → saving_f j text ≡ saving_f k text
unfolding saving_f
same_count zero k text h i = absurd (omega arith)
same_count (suc j) zero text h i = absurd (omega arith)
same_count (suc j) (suc k) text h i = by (verdict text) refl (λ t f. same_count j k t (omega arith) (omega arith))
  where
    turned : ℕ → Verdict → Answer Saved
    turned n v = elim v [
      | accepted ↦ given (record { text = text; spans = [] })
      | hurt_in s ↦ answering (saving_f n (overwritten s text)) λ x. given (first s x)
      | beyond_help n p ↦ refused n p
    ]

    by : (v : Verdict) → verdict text ≡ v → ((t : List ℕ) → inked t < inked text → saving_f j t ≡ saving_f k t) → turned j v ≡ turned k v
    by accepted e ih = refl
    by (hurt_in s) e ih = ap (λ (a : Answer Saved). answering a (λ x. given (first s x))) (ih (overwritten s text) (turn_fewer text s e))
    by (beyond_help n p) e ih = refl

-- ---- THE TURNS, with no count

module _ (text : List ℕ) where
  pub saving_accepted : verdict text ≡ accepted → saving text ≡ given (record { text = text; spans = [] })
  unfolding saving saving_f
  saving_accepted e = rw (e, saving_f)

  pub saving_beyond : (n p : ℕ) → verdict text ≡ beyond_help n p → saving text ≡ refused n p
  unfolding saving saving_f
  saving_beyond n p e = rw (e, saving_f)

  pub saving_hurt : (s : Span) → verdict text ≡ hurt_in s → saving text ≡ answering (saving (overwritten s text)) (λ x. given (first s x))
  unfolding saving saving_f
  saving_hurt s e =
      let next = overwritten s text in
      let k : saving_f (length text) next ≡ saving_f (suc (length next)) next =
      same_count (length text) (suc (length next)) next (omega (arith, turn_fewer text s e, inked_most text)) (omega (arith, inked_most next)) in
      rw (e, saving_f) (ap (λ (a : Answer Saved). answering a (λ x. given (first s x))) k)

-- ---- several turns

pub steps_more : {text behind : List ℕ} {l : List Span} {s : Span} → Steps text l behind → verdict behind ≡ hurt_in s → Steps text (l ++ s ∷ []) (overwritten s behind)
steps_more still e = step e still
steps_more (step h r) e = step h (steps_more r e)

pub steps_length : {text behind : List ℕ} {l : List Span} → Steps text l behind → length behind ≡ length text
steps_length still = refl
steps_length (step {text = text} {s = s} h r) = steps_length r ∙ turn_length text s

pub steps_fewer : {text behind : List ℕ} {l : List Span} → Steps text l behind → length l + inked behind ≤ inked text
steps_fewer still = omega arith
steps_fewer (step {text = text} {s = s} h r) = omega (arith, steps_fewer r, turn_fewer text s h)

pub steps_saved : {text behind : List ℕ} {l : List Span} → Steps text l behind → verdict behind ≡ accepted → saving text ≡ given (record { text = behind; spans = l })
unfolding answering first
steps_saved {text} still e = saving_accepted text e
steps_saved {behind = behind} (step {text = text} {s = s} {l = l} h r) e =
    saving_hurt text s h ∙ ap (λ (a : Answer Saved). answering a (λ x. given (first s x))) (steps_saved r e)

pub steps_beyond : {text behind : List ℕ} {l : List Span} {n p : ℕ} → Steps text l behind → verdict behind ≡ beyond_help n p → saving text ≡ refused n p
unfolding answering
steps_beyond {text} {behind} {l} {n} {p} still e = saving_beyond text n p e
steps_beyond {n = n} {p = p} (step {text = text} {s = s} h r) e =
    saving_hurt text s h ∙ ap (λ (a : Answer Saved). answering a (λ x. given (first s x))) (steps_beyond r e)
