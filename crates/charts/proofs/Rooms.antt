-- Room in two buffers for as many events.
use Prim.Native.Nat.{ℕ, ◌≤◌}
use native.Mathlib.Omega.{arith}
use mathlib.Core.Path.{◌≡◌, refl, ap, ◌∙◌}
use mathlib.Core.Bool.{Bool, true, false, not, ◌&&◌, ◌||◌}
use lib.Dec.{leb, ltb}
use borrow.Author.Tests.{le-leb, lt-leb, ltb-true, ltb-false}

-- one of two buffers is too short, or none is
pub room : (a b n : ℕ) {y : Bool} → (ltb a n || ltb b n) ≡ y → (leb n a && leb n b) ≡ not y
room a b n {y} e = by (ltb a n) (ltb b n) refl refl ∙ ap not e
  where
    by : (x z : Bool) → ltb a n ≡ x → ltb b n ≡ z → (leb n a && leb n b) ≡ not (x || z)
    by true z p q = rw (lt-leb n a (ltb-true a n p))
    by false true p q = rw (le-leb n a (ltb-false a n p), lt-leb n b (ltb-true b n q))
    by false false p q = rw (le-leb n a (ltb-false a n p), le-leb n b (ltb-false b n q))

pub roomy : (a b n : ℕ) → (ltb a n || ltb b n) ≡ false → (n ≤ a) × (n ≤ b)
roomy a b n e = by (ltb a n) (ltb b n) refl refl e
  where
    by : (x z : Bool) → ltb a n ≡ x → ltb b n ≡ z → (x || z) ≡ false → (n ≤ a) × (n ≤ b)
    by false false p q h = (ltb-false a n p, ltb-false b n q)
    by false true p q h = let z : ◌≡◌ {A = ℕ} 0 1 = cc in absurd (omega arith)
    by true z p q h = let y : ◌≡◌ {A = ℕ} 0 1 = cc in absurd (omega arith)
