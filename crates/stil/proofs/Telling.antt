-- Fail reports as a caller in C has them: one number, the answers in three buffers, and how many there are at the front of a fourth.
use Prim.Native.Nat.{ℕ, ◌+◌, ◌*◌, ◌≤◌, ◌<◌}
use native.Mathlib.Omega.{arith}
use mathlib.Core.Path.{◌≡◌, refl, sym, ap, ◌∙◌}
use mathlib.Core.Bool.{Bool, true, false}
use mathlib.Core.List.{List, [], ◌∷◌}
use lib.Dec.{leb}
use lib.ListN.{length}
use borrow.Author.Tests.{leb-true}
use Rattle.std.specs.Prelude.{Result, Ok, Err}
use Rattle.tokens.specs.declared.Refusal.{Refusal}
use Rattle.tokens.specs.Refusals.{text_most}
use Rattle.texts.specs.Told.{packed_refusal}
use Rattle.fails.specs.Fails.{Told, answers, refuses, Failed}
use Rattle.fails.specs.Service.{told_of, spared_told, Reports}
use Rattle.fails.specs.declared.Unanswered.{Unanswered}
use Rattle.fails.specs.declared.Unanswered.TheVariants.{Text, Report}
use Rattle.stil.specs.Interface.{fronted}
use Rattle.stil.specs.Reports.{report_refusal, report_number, report_count, Replies}

-- a refusal as one number is small
pub packed_few : (n p : ℕ) → n < 256 → packed_refusal n p ≤ text_most * 32 + 256
packed_few n p h = by (leb p text_most) refl
  where
    by : (b : Bool) → leb p text_most ≡ b → (elim b as (λ x. ℕ) [ true ↦ p * 32 + n | false ↦ n ]) ≤ text_most * 32 + 256
    by true e = omega (arith, leb-true p text_most e)
    by false e = omega arith

never_answered : (a : Told Failed) {x : Failed} → spared_told false a ≡ answers x → ⊥
unfolding spared_told
never_answered (answers y) e = let z : ◌≡◌ {A = ℕ} 0 1 = cc in absurd (omega arith)
never_answered (refuses its n p) e = let z : ◌≡◌ {A = ℕ} 0 1 = cc in absurd (omega arith)

module _ (a : Told Failed) {c c' s s' l l' : List ℕ} {r : Result ℕ Unanswered} (numbers : List ℕ) (h : Reports (spared_told (leb 1 (length numbers)) a) c c' s s' l l' r) where
  abbrev given : Told Failed
  given = spared_told (leb 1 (length numbers)) a

  tells : {n : ℕ} {numbers' : List ℕ} → n ≡ report_number given → numbers' ≡ report_count given numbers → Replies a c c' s s' l l' numbers n numbers'
  tells e q = record { number = e; told = q; cycles_are = h.cycles_are; signals_are = h.signals_are; letters_are = h.letters_are }

  is : {x : Result ℕ Unanswered} → r ≡ x → told_of x c' s' l' ≡ given
  is e = ap (λ (y : Result ℕ Unanswered). told_of y c' s' l') (sym e) ∙ h.told

  pub tells_refused : {x : Refusal} {k : ℕ} → r ≡ Err (Text x) → k ≡ packed_refusal x.no x.place → Replies a c c' s s' l l' numbers k numbers
  unfolding report_number report_count
  tells_refused e q = tells (q ∙ ap report_number (is e)) (ap (λ (y : Told Failed). report_count y numbers) (is e))

  pub tells_of : {x : Refusal} {k : ℕ} → r ≡ Err (Report x) → k ≡ report_refusal x.no x.place → Replies a c c' s s' l l' numbers k numbers
  unfolding report_number report_count
  tells_of e q = tells (q ∙ ap report_number (is e)) (ap (λ (y : Told Failed). report_count y numbers) (is e))

  module _ {n : ℕ} (e : r ≡ Ok n) where
    pub tells_room : 1 ≤ length numbers
    tells_room = by (leb 1 (length numbers)) refl
      where
        by : (y : Bool) → leb 1 (length numbers) ≡ y → 1 ≤ length numbers
        by true t = leb-true 1 (length numbers) t
        by false t = absurd (never_answered a (ap (λ (y : Bool). spared_told y a) (sym t) ∙ sym (is e)))

    pub tells_all : {numbers' : List ℕ} → numbers' ≡ fronted (n ∷ []) numbers → Replies a c c' s s' l l' numbers 0 numbers'
    unfolding report_number report_count
    tells_all q = tells (ap report_number (is e)) (q ∙ ap (λ (y : Told Failed). report_count y numbers) (is e))
