-- Numbers up to a cap: a sum or a product is known up to the cap from its parts up to the cap.
use Prim.Native.Nat.{ℕ, zero, suc, ◌+◌, ◌*◌, min}
use native.Mathlib.Omega.{arith}
use native.Mathlib.Nat.{zero-mul, suc-mul}
use mathlib.Core.Path.{◌≡◌}

module _ (cap : ℕ) where
  pub sum_alike : (a b c d : ℕ) → min cap a ≡ min cap b → min cap c ≡ min cap d → min cap (a + c) ≡ min cap (b + d)
  sum_alike a b c d e f = omega arith

  pub product_alike : (n a b : ℕ) → min cap a ≡ min cap b → min cap (n * a) ≡ min cap (n * b)
  product_alike zero a b e = omega (arith, zero-mul a, zero-mul b)
  product_alike (suc n) a b e = omega (arith, suc-mul n a, suc-mul n b, product_alike n a b e)

  -- capping a factor changes nothing
  pub capped_product : (n c : ℕ) → min cap (n * min cap c) ≡ min cap (n * c)
  capped_product n c = product_alike n (min cap c) c (omega arith)

  -- nor does capping c and s in c and t times s
  pub capped_turns : (t c s : ℕ) → min cap (min cap c + t * min cap s) ≡ min cap (c + t * s)
  capped_turns t c s = omega (arith, capped_product t s)
