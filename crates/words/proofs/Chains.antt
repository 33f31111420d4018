-- Chains: what the code makes of a word's two ends is its chain.
use Prim.Native.Nat.{ℕ, ◌-◌, ◌≤◌, ◌<◌}
use native.Mathlib.Omega.{arith}
use mathlib.Core.Path.{◌≡◌, refl, sym, ap, ap₂, ◌∙◌}
use mathlib.Core.List.{List, [], ◌∷◌}
use lib.ListN.{length, get_or}
use borrow.Author.Tests.{le-leb, lt-leb}
use Rattle.words.specs.Packed.{packed}
use Rattle.words.specs.Chains.{mixed_of, end_of, chain_of, InChain}

module _ (w : List ℕ) where
  -- k bytes of each end are looked at
  by_ends : {k x y r : ℕ} → end_of (length w) ≡ k → x ≡ packed w 0 k → y ≡ packed w (length w - k) k → InChain (mixed_of x y) r → InChain (chain_of w) r
  unfolding chain_of
  by_ends {k} {x} {y} {r} e f g h = record { is = h.is ∙ ap₂ mixed_of (f ∙ ap (packed w 0) (sym e)) (g ∙ ap (λ (j : ℕ). packed w (length w - j) j) (sym e)); below = h.below }

  pub by_eight : 8 ≤ length w → {x y r : ℕ} → x ≡ packed w 0 8 → y ≡ packed w (length w - 8) 8 → InChain (mixed_of x y) r → InChain (chain_of w) r
  by_eight h = by_ends (rw (le-leb 8 (length w) h))

  pub by_four : length w < 8 → 4 ≤ length w → {x y r : ℕ} → x ≡ packed w 0 4 → y ≡ packed w (length w - 4) 4 → InChain (mixed_of x y) r → InChain (chain_of w) r
  by_four g h = by_ends (rw (lt-leb 8 (length w) g, le-leb 4 (length w) h))

  pub by_two : length w < 4 → 2 ≤ length w → {x y r : ℕ} → x ≡ packed w 0 2 → y ≡ packed w (length w - 2) 2 → InChain (mixed_of x y) r → InChain (chain_of w) r
  by_two g h =
      let f : length w < 8 = omega arith in
      by_ends (rw (lt-leb 8 (length w) f, lt-leb 4 (length w) g, le-leb 2 (length w) h))

  pub by_one : length w < 2 → {b r : ℕ} → b ≡ get_or w 0 0 → InChain (mixed_of b b) r → InChain (chain_of w) r
  unfolding packed
  by_one h {b} e =
      let f : length w < 8 = omega arith in
      let g : length w < 4 = omega arith in
      let z : length w - 1 ≡ 0 = omega arith in
      by_ends {k = 1} (rw (lt-leb 8 (length w) f, lt-leb 4 (length w) g, lt-leb 2 (length w) h)) (omega arith) (rw z (omega arith))

-- a word without a byte
pub by_none : (w : List ℕ) → length w ≡ 0 → InChain (chain_of w) 0
by_none w e = by_one w (omega arith) (sym (nothing w e)) (record { is = refl; below = omega arith })
  where
    nothing : (w : List ℕ) → length w ≡ 0 → get_or w 0 0 ≡ 0
    nothing [] e = refl
    nothing (x ∷ w) e = absurd (omega arith)
