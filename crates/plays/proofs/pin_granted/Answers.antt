-- Each turn asks for the next table; behind the last mark nothing is asked.
use Prim.Native.Nat.{ℕ, zero, suc, ◌+◌, ◌/◌, ◌%◌, ◌^◌, ◌≤◌, ◌<◌}
use native.Mathlib.Nat.{div-one, div-div-eq-div-mul, pow-suc}
use native.Mathlib.Numerals.{add-one}
use native.Mathlib.Omega.{arith}
use mathlib.Core.Path.{◌≡◌, sym, ap, refl, ◌∙◌}
use mathlib.Core.Bool.{Bool, true, false, ◌||◌}
use mathlib.Core.List.{List}
use lib.Dec.{ltb, eqb}
use borrow.Author.Tests.{eq-eqb, ltb-true, ltb-false}
use Rattle.tokens.proofs.Bools.{true_false}
use Rattle.meaning.specs.Bounds.{tables_most}
use Rattle.meaning.specs.Timing.{Tables}
use Rattle.meaning.specs.Run.{unassigned}
use Rattle.meaning.specs.Meaning.{has_wave, table_at}
use Rattle.memos.specs.Tracks.{is_marked, marks_most, Granted}
use Rattle.memos.proofs.Marking.{unmarked_behind, some_mark, marked_shifted}
use Rattle.plays.proofs.Marks.{GrantedTo, granted_none, granted_next, granted_all}
use Rattle.plays.proofs.pin_granted.Goals as goal

granted_unassigned : (tabs : Tables) (m i c : ℕ) → c ≡ 0 → Granted tabs m i c
granted_unassigned tabs m i c z = record { each = λ k l e. ap (λ (b : Bool). b || has_wave i c (table_at tabs k)) (eq-eqb c unassigned z) }

granted_rest : {waves : List ℕ} {m i c t : ℕ} → m < marks_most → t ≤ tables_most → m % 256 / 2 ^ t ≡ 0 → GrantedTo waves m i c t → GrantedTo waves m i c tables_most
granted_rest {m = m} {t = t} few l none x = record {
  each = λ tabs w k h p e. by k p e (ltb k t) refl (λ q. x.each tabs w k q p e);
}
  where
    by : {A : Type 0} (k : ℕ) → k < tables_most → is_marked m k ≡ true → (z : Bool) → ltb k t ≡ z → (k < t → A) → A
    by k p e true q f = f (ltb-true k t q)
    by k p e false q f = true_false e (unmarked_behind m t k few l none (ltb-false k t q) p)

-- the table's digit among those that are left
low_digit : (m t : ℕ) → t < tables_most → m % 256 / 2 ^ t % 2 ≡ m / 2 ^ t % 2
low_digit m zero l = omega arith
low_digit m (suc zero) l = omega arith
low_digit m (suc (suc zero)) l = omega arith
low_digit m (suc (suc (suc zero))) l = omega arith
low_digit m (suc (suc (suc (suc zero)))) l = omega arith
low_digit m (suc (suc (suc (suc (suc zero))))) l = omega arith
low_digit m (suc (suc (suc (suc (suc (suc zero)))))) l = omega arith
low_digit m (suc (suc (suc (suc (suc (suc (suc zero))))))) l = omega arith
low_digit m (suc (suc (suc (suc (suc (suc (suc (suc t)))))))) l = absurd (omega arith)

first_marked : (m t : ℕ) → t < tables_most → is_marked m t ≡ is_marked (m % 256 / 2 ^ t) 0
first_marked m t l = sym (marked_shifted m t) ∙ ap (λ (k : ℕ). eqb k 1) (sym (low_digit m t l) ∙ ap (λ (k : ℕ). k % 2) (sym (div-one (m % 256 / 2 ^ t)))) ∙ marked_shifted (m % 256 / 2 ^ t) 0

halved : (m t r : ℕ) → r ≡ m % 256 / 2 ^ t → r / 2 ≡ m % 256 / 2 ^ (t + 1)
halved m t r e = ap (λ (k : ℕ). k / 2) e ∙ div-div-eq-div-mul (m % 256) (2 ^ t) 2 ∙ ap (λ (k : ℕ). m % 256 / k) (sym (pow-suc 2 t) ∙ ap (λ (k : ℕ). 2 ^ k) (sym (add-one t)))

pub returns-then-x-eq0 : goal.returns-then-x-eq0
returns-then-x-eq0 c =
    λ e tabs w. granted_unassigned tabs _ _ _ c.if-x-eq0.true

pub loop-rest-init : goal.loop-rest-init
loop-rest-init c =
    (omega arith, sym (div-one _), granted_none)

pub mark_granted-requires : goal.mark_granted-requires
mark_granted-requires c =
    let inv = c.loop-rest.invariant in
    (c.requires.0, c.requires.1, some_mark c.args.m c.loop-rest.t inv.0 (λ z. c.loop-rest-test.true (inv.1 ∙ z)))

pub returns-then-not-mark_granted : goal.returns-then-not-mark_granted
returns-then-not-mark_granted c =
    λ e. true_false e refl

pub overflow_add-t : goal.overflow_add-t
overflow_add-t c =
    omega (arith, c.loop-rest.invariant.0)

pub loop-rest-smaller : goal.loop-rest-smaller
loop-rest-smaller c =
    let inv = c.loop-rest.invariant in
    omega (arith, some_mark c.args.m c.loop-rest.t inv.0 (λ z. c.loop-rest-test.true (inv.1 ∙ z)))

pub loop-rest-preserved : goal.loop-rest-preserved
loop-rest-preserved c =
    let m = c.args.m in
    let t = c.loop-rest.t in
    let inv = c.loop-rest.invariant in
    let below = some_mark m t inv.0 (λ z. c.loop-rest-test.true (inv.1 ∙ z)) in
    let first = first_marked m t below ∙ ap (λ (k : ℕ). is_marked k 0) (sym inv.1) in
    (omega (arith, below), halved m t c.loop-rest.rest inv.1, granted_next inv.2 (λ e. c.mark_granted.ensures c.if-not-mark_granted.false (sym first ∙ e)))

pub returns : goal.returns
returns c =
    let inv = c.loop-rest.invariant in
    λ e. granted_all (omega arith) (granted_rest c.requires.2 inv.0 (sym inv.1 ∙ c.loop-rest-test.false) inv.2)
