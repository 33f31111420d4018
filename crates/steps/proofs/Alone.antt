-- A statement with a body in it, alone: it costs its size, and then it is passed with all its cycles, or what is gone through in it is all of it.
use Prim.Native.Nat.{ℕ, ◌+◌, ◌-◌, ◌%◌, ◌≤◌, ◌<◌}
use native.Mathlib.Omega.{arith}
use mathlib.Core.Path.{◌≡◌, refl, ap, ◌∙◌, subst}
use mathlib.Core.Bool.{Bool, true, false}
use mathlib.Core.List.{List}
use lib.Dec.{leb}
use lib.ListN.{length}
use borrow.Author.Tests.{leb-true, leb-false}
use Rattle.meaning.specs.Bounds.{size_most, cycles_most}
use Rattle.meaning.specs.Timing.{Tables}
use Rattle.meaning.specs.Body.{Way, Body, done}
use Rattle.meaning.specs.Run.{size, cycles, shift_of, visits, State, play}
use Rattle.walks.specs.Statement.{played_in, cycles_in}
use Rattle.walks.proofs.Bodies.{length_in}
use Rattle.walks.proofs.Visits.{visits_passed, visits_into}
use Rattle.rows.specs.declared.Walk.{Walk}
use Rattle.rows.specs.Went.{Going, spends, spent, past, Went}
use Rattle.rows.proofs.Going.{went_past, went_into}
use Rattle.steps.specs.Walks.{Ready, only}
use Rattle.steps.proofs.Passing.{only_cycles}

-- what is left of a budget that is enough for all
left_over : (k : Bool) (budget c v : ℕ) → (k ≡ true → c + v ≤ budget) → k ≡ true → v ≤ budget - spends k c
left_over true budget c v h e = omega (arith, h refl)
left_over false budget c v h e = let z : ◌≡◌ {A = ℕ} 0 1 = cc in absurd (omega arith)

module _ (t : ℕ) (way : Way) (b : Body) (n : ℕ) where
  -- passed, it costs its size
  pub only_costs : cycles_in t way b ≤ n → visits t (only way b) n ≡ 1 + size b
  unfolding visits
  only_costs h = visits_passed t way b done n h ∙ omega arith

  -- and no less entered
  costs_size : 1 + size b ≤ visits t (only way b) n
  costs_size = by (leb (cycles_in t way b) n) refl
    where
      by : (k : Bool) → leb (cycles_in t way b) n ≡ k → 1 + size b ≤ visits t (only way b) n
      by true e = omega (arith, only_costs (leb-true (cycles_in t way b) n e))
      by false e = omega (arith, visits_into t way b done n (leb-false (cycles_in t way b) n e))

module _ {tabs : Tables} {t : ℕ} {way : Way} {b : Body} {s : State} {w : Walk} (ready : Ready tabs t (only way b) s w) where
  pub only_small : size b ≤ size_most
  unfolding size
  only_small = omega (arith, ready.small)

  pub only_few : cycles_in t way b ≤ cycles_most
  unfolding cycles
  only_few = omega (arith, ready.few_cycles)

  -- it costs c
  module _ {c : ℕ} (cost : 1 + size b ≡ c) where
    pub only_pays : w.walking ≡ true → c ≤ w.budget
    only_pays e = omega (arith, ready.pays e, costs_size t way b w.pass)

    -- all its k cycles are passed
    pub only_passed : {k signals : ℕ} {before : List ℕ} → cycles_in t way b ≡ k → Going signals w before → k ≤ w.pass
        → Went signals (play t (only way b) s).1 (visits t (only way b) w.pass) w (past (spent w c) k) before before
    only_passed {k} {signals} {before} many going h =
        let long : length (play t (only way b) s).1 ≡ k = ap length (only_cycles t way b s) ∙ length_in t way b s ∙ many in
        rw (only_costs t way b w.pass (omega arith) ∙ cost)
        (subst (λ (k : ℕ). Went signals (play t (only way b) s).1 c w (past (spent w c) k) before before) long
        (went_past (play t (only way b) s).1 c w before going.more only_pays (omega arith)))

    -- the cycle looked for is in it
    module _ (h : w.pass < cycles_in t way b) where
      costs_both : visits t (only way b) w.pass ≡ c + visits (shift_of t way) b (w.pass % cycles (shift_of t way) b)
      costs_both = visits_into t way b done w.pass h ∙ ap (λ (n : ℕ). n + visits (shift_of t way) b (w.pass % cycles (shift_of t way) b)) cost

      -- what is left is enough for the visits in its body
      pub only_affords : w.walking ≡ true → visits (shift_of t way) b (w.pass % cycles (shift_of t way) b) ≤ (spent w c).budget
      only_affords = left_over w.walking w.budget c _ (λ e. omega (arith, ready.pays e, costs_both))

      pub only_entered : {signals : ℕ} {w' : Walk} {before after : List ℕ}
          → Went signals (played_in t way b s).1 (visits (shift_of t way) b (w.pass % cycles (shift_of t way) b)) (spent w c) w' before after
          → Went signals (play t (only way b) s).1 (visits t (only way b) w.pass) w w' before after
      only_entered p = rw (costs_both, only_cycles t way b s) (went_into c only_pays p)
