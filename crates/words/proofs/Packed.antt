-- Bytes as one number: what a number of several bytes is made of, how large it is, and that equal numbers have equal bytes.
use Prim.Native.Nat.{ℕ, zero, suc, ◌+◌, ◌*◌, ◌≤◌, ◌<◌}
use native.Mathlib.Omega.{arith}
use native.Mathlib.Numerals.{add-one}
use mathlib.Core.Path.{◌≡◌, refl, sym, ap, ◌∙◌, subst}
use mathlib.Core.Logic.{⊎_elim}
use native.Mathlib.Nat.{eq-or-lt_of_le}
use lib.Dec.{eqb, ltb}
use borrow.Author.Tests.{eqb-true, eqb-false, ltb-true, ltb-false}
use mathlib.Core.Bool.{Bool, true, false}
use mathlib.Core.List.{List}
use lib.ListN.{length, get_or, get_or-eq_default}
use lib.Seq.{ext_get_or}
use Rattle.tokens.specs.Written.{same}
use Rattle.meaning.proofs.Others.{same_eq}
use Rattle.words.specs.Packed.{packed, ZerosFrom}
use Rattle.words.proofs.Words.{same_self}

-- ---- numbers of two, four and eight bytes

pub two_of_lem : (w : List ℕ) (i : ℕ) → packed w i 2 ≡ get_or w i 0 + get_or w (i + 1) 0 * 256
unfolding packed
two_of_lem w i = rw (add-one i) (omega arith)

pub four_of : (w : List ℕ) (i : ℕ) → packed w i 4 ≡ packed w i 2 + packed w (i + 2) 2 * 65536
unfolding packed
four_of w i = let e : i + 2 ≡ suc (suc i) = omega arith in rw e (omega arith)

pub eight_of : (w : List ℕ) (i : ℕ) → packed w i 8 ≡ packed w i 4 + packed w (i + 4) 4 * 4294967296
unfolding packed
eight_of w i = let e : i + 4 ≡ suc (suc (suc (suc i))) = omega arith in rw e (omega arith)

module _ (w : List ℕ) (small : (k : ℕ) → get_or w k 0 < 256) (i : ℕ) where
  pub two_below : packed w i 2 < 65536
  unfolding packed
  two_below = omega (arith, small i, small (suc i))

pub four_below : (w : List ℕ) (small : (k : ℕ) → get_or w k 0 < 256) (i : ℕ) → packed w i 4 < 4294967296
four_below w small i = omega (arith, four_of w i, two_below w small i, two_below w small (i + 2))

-- ---- equal numbers

low : (a b p q : ℕ) → a < 256 → b < 256 → a + p * 256 ≡ b + q * 256 → (a ≡ b) × (p ≡ q)
low a b p q h k e = (omega arith, omega arith)

module _ (w v : List ℕ) (sw : (k : ℕ) → get_or w k 0 < 256) (sv : (k : ℕ) → get_or v k 0 < 256) where
  pub packed_same : (n i : ℕ) → packed w i n ≡ packed v i n → (k : ℕ) → i ≤ k → k < i + n → get_or w k 0 ≡ get_or v k 0
  unfolding packed
  packed_same zero i e k l m = absurd (omega arith)
  packed_same (suc n) i e k l m =
      ⊎_elim
      (λ q. subst (λ (j : ℕ). get_or w j 0 ≡ get_or v j 0) q parts.0)
      (λ q. packed_same n (suc i) parts.1 k (omega arith) (omega arith))
      (eq-or-lt_of_le l)
    where
      parts : (get_or w i 0 ≡ get_or v i 0) × (packed w (suc i) n ≡ packed v (suc i) n)
      parts = low _ _ _ _ (sw i) (sv i) e

-- ---- zeros

packed_zeros : (w : List ℕ) (n i : ℕ) → packed w i n ≡ 0 → (k : ℕ) → i ≤ k → k < i + n → get_or w k 0 ≡ 0
unfolding packed
packed_zeros w zero i e k l m = absurd (omega arith)
packed_zeros w (suc n) i e k l m =
    ⊎_elim
    (λ q. subst (λ (j : ℕ). get_or w j 0 ≡ 0) q (omega arith))
    (λ q. packed_zeros w n (suc i) (omega arith) k (omega arith) (omega arith))
    (eq-or-lt_of_le l)

pub zeros_none : (w : List ℕ) → ZerosFrom w (length w)
zeros_none w = record { within = omega arith; none = λ i h. get_or-eq_default w 0 h }

pub zeros_more : {w : List ℕ} {n : ℕ} → ZerosFrom w n → (m : ℕ) → n ≡ m + 8 → packed w m 8 ≡ 0 → ZerosFrom w m
zeros_more {w} {n} x m p e = record { within = omega (arith, x.within); none = λ i h. by i h (ltb i n) refl }
  where
    by : (i : ℕ) → m ≤ i → (b : Bool) → ltb i n ≡ b → get_or w i 0 ≡ 0
    by i h true q = packed_zeros w 8 m e i h (omega (arith, ltb-true i n q))
    by i h false q = x.none i (ltb-false i n q)

-- ---- words compared by eight bytes at a time

pub eights_differ : (w v : List ℕ) (i : ℕ) → (packed w i 8 ≡ packed v i 8 → ⊥) → false ≡ same w v
eights_differ w v i h = by (same w v) refl
  where
    by : (b : Bool) → same w v ≡ b → false ≡ b
    by true e = absurd (h (ap (λ (u : List ℕ). packed u i 8) (same_eq w v e)))
    by false e = refl

module _ (w v : List ℕ) (sw : (k : ℕ) → get_or w k 0 < 256) (sv : (k : ℕ) → get_or v k 0 < 256) (i : ℕ) where
  -- those before are equal, and the eight: so are those before the place behind them
  pub eights_more : packed w i 8 ≡ packed v i 8 → ((k : ℕ) → k < i → get_or w k 0 ≡ get_or v k 0) → (k : ℕ) → k < i + 8 → get_or w k 0 ≡ get_or v k 0
  eights_more e before k l = by (ltb k i) refl
    where
      by : (b : Bool) → ltb k i ≡ b → get_or w k 0 ≡ get_or v k 0
      by true q = before k (ltb-true k i q)
      by false q = packed_same w v sw sv 8 i e k (ltb-false k i q) l

  -- the last eight tell it
  pub eights_last : length w ≡ length v → i + 8 ≡ length w → ((k : ℕ) → k < i → get_or w k 0 ≡ get_or v k 0) → eqb (packed w i 8) (packed v i 8) ≡ same w v
  eights_last long end before = by (eqb (packed w i 8) (packed v i 8)) refl
    where
      by : (b : Bool) → eqb (packed w i 8) (packed v i 8) ≡ b → b ≡ same w v
      by true e =
          let all = eights_more (eqb-true _ _ e) before in
          sym (ap (same w) (sym (ext_get_or 0 w v long (λ k l. all k (omega arith)))) ∙ same_self w)
      by false e = eights_differ w v i (eqb-false _ _ e)
