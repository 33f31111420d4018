-- A byte of a word is allowed, and so is a blank, which is none of a word.
use Prim.Native.Nat.{ℕ, ◌≤◌, ◌<◌}
use native.Mathlib.Omega.{arith}
use mathlib.Core.Path.{◌≡◌, refl, ap, ◌∙◌}
use mathlib.Core.Bool.{true, false, ◌&&◌, ◌||◌, and-false, or-false}
use lib.Dec.{eqb, leb}
use borrow.Author.Tests.{leb-true, le-leb, lt-leb, eqb-true, ne_eqb}
use Rattle.tokens.specs.Bytes.{between, allowed, blank, letter, digit, wordy}
use Rattle.tokens.proofs.Bools.{both, either, or_right}

within : (b a z : ℕ) → 32 ≤ a → z ≤ 126 → between a z b ≡ true → allowed b ≡ true
unfolding between allowed
within b a z h k e =
    let r = both (leb a b) (leb b z) e in
    or_right (blank b) _ (rw (le-leb 32 b (omega (arith, leb-true a b r.0)), le-leb b 126 (omega (arith, leb-true b z r.1))))

single : (b a : ℕ) → allowed a ≡ true → eqb b a ≡ true → allowed b ≡ true
single b a h e = ap allowed (eqb-true b a e) ∙ h

pub wordy_allowed : (b : ℕ) → wordy b ≡ true → allowed b ≡ true
unfolding wordy letter digit allowed blank between
wordy_allowed b =
    either _ _
    (either _ _
    (either _ _
    (either _ _ (within b _ _ (omega arith) (omega arith)) (within b _ _ (omega arith) (omega arith)))
    (within b _ _ (omega arith) (omega arith)))
    (single b _ refl))
    (single b _ refl)

pub blank_allowed : (b : ℕ) → blank b ≡ true → allowed b ≡ true
unfolding allowed
blank_allowed b h = rw h

pub blank_unwordy : (b : ℕ) → blank b ≡ true → wordy b ≡ false
unfolding wordy letter digit between blank
blank_unwordy b = either _ _ (either _ _ (either _ _ (plain 32 refl) (plain 9 refl)) (plain 10 refl)) (plain 13 refl)
  where
    plain : (a : ℕ) → wordy a ≡ false → eqb b a ≡ true → wordy b ≡ false
    plain a h e = ap wordy (eqb-true b a e) ∙ h

-- above the capitals there are only the small letters
pub small : (b : ℕ) → 97 ≤ b → leb b 122 ≡ wordy b
unfolding wordy letter digit between
small b h =
    rw (
      lt-leb b 90 (omega arith),
      le-leb 97 b h,
      lt-leb b 57 (omega arith),
      ne_eqb b 95 (λ e. omega arith),
      ne_eqb b 46 (λ e. omega arith),
    )
    (simp (and-false, or-false))

pub capital : (b : ℕ) → b < 97 → (((leb 65 b && leb b 90) || (leb 48 b && leb b 57)) || eqb b 95) || eqb b 46 ≡ wordy b
unfolding wordy letter digit between
capital b h = rw (lt-leb 97 b h, or-false)
