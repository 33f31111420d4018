-- For callers: whether a body keeps its bounds is seen in its measure, and where it does, the measure has its numbers.
use Prim.Native.Nat.{ℕ, ◌≤◌, min}
use native.Mathlib.Omega.{arith}
use native.Mathlib.Nat.{zero-mul}
use mathlib.Core.Path.{◌≡◌, refl, sym, ◌∙◌}
use mathlib.Core.Bool.{Bool, true, false}
use lib.Dec.{leb}
use borrow.Author.Tests.{leb-true, le-leb}
use Rattle.meaning.specs.Bounds.{size_most, cycles_most}
use Rattle.meaning.specs.Body.{Body, depth}
use Rattle.meaning.specs.Run.{size, cycles}
use Rattle.measures.specs.Measures.{depth_cap, cycles_cap, Measures}
use Rattle.measures.specs.declared.Measure.{Measure}

same_test : (a b c d : ℕ) → (a ≤ b → c ≤ d) → (c ≤ d → a ≤ b) → leb a b ≡ leb c d
same_test a b c d f g = by (leb a b) (leb c d) refl refl
  where
    by : (y z : Bool) → leb a b ≡ y → leb c d ≡ z → y ≡ z
    by true true p q = refl
    by true false p q = sym (le-leb c d (f (leb-true a b p))) ∙ q
    by false true p q = sym p ∙ le-leb a b (g (leb-true c d q))
    by false false p q = refl

module _ {b : Body} {x : Measure} (m : Measures b x) where
  pub depth_test : (d : ℕ) → d ≤ depth_cap → leb d x.depth ≡ leb d (depth b)
  depth_test d h = let e = m.depth_is in same_test d x.depth d (depth b) (λ p. omega arith) (λ p. omega arith)

  pub size_test : leb x.size size_most ≡ leb (size b) size_most
  size_test = let e = m.size_is in same_test x.size size_most (size b) size_most (λ p. omega arith) (λ p. omega arith)

  pub size_within : size b ≤ size_most → x.size ≡ size b
  size_within h = omega (arith, m.size_is)

  -- a run's own Shift plays no turn
  cycles_own : min cycles_cap x.cycles ≡ min cycles_cap (cycles 0 b)
  cycles_own = omega (arith, zero-mul x.shifts, m.cycles_is 0)

  pub cycles_test : leb x.cycles cycles_most ≡ leb (cycles 0 b) cycles_most
  cycles_test = let e = cycles_own in same_test x.cycles cycles_most (cycles 0 b) cycles_most (λ p. omega arith) (λ p. omega arith)

  pub cycles_within : cycles 0 b ≤ cycles_most → x.cycles ≡ cycles 0 b
  cycles_within h = omega (arith, cycles_own)
