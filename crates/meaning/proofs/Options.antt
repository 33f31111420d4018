-- What is found first, or else second.
use mathlib.Core.Path.{◌≡◌, refl}
use mathlib.Core.Option.{Option, none, some, or_else}
use Prim.Native.Nat.{ℕ}
use native.Mathlib.Omega.{arith}

module _ {A : Type 0} where
  pub or_none : (x : Option A) → or_else x none ≡ x
  unfolding or_else
  or_none none = refl
  or_none (some a) = refl

  pub or_same : (x : Option A) → or_else x x ≡ x
  unfolding or_else
  or_same none = refl
  or_same (some a) = refl

  pub or_or : (x y z : Option A) → or_else (or_else x y) z ≡ or_else x (or_else y z)
  unfolding or_else
  or_or none y z = refl
  or_or (some a) y z = refl

  -- the second counts where there is no first
  pub or_alike : (x y z : Option A) → (x ≡ none → y ≡ z) → or_else x y ≡ or_else x z
  unfolding or_else
  or_alike none y z h = h refl
  or_alike (some a) y z h = refl

  -- nothing is found, so neither is there
  pub or_both : (x y : Option A) → or_else x y ≡ none → (x ≡ none) × (y ≡ none)
  unfolding or_else
  or_both none y h = (refl, h)
  or_both (some a) y h = let z : ◌≡◌ {A = ℕ} 0 1 = cc in absurd (omega arith)
