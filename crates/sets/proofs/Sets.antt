-- The first n numbers of an array, and the definitions on lists as the code tells them.
use mathlib.Core.Path.{◌≡◌, refl, sym, ap}
use Prim.Native.Nat.{ℕ, zero, suc, ◌+◌, ◌≤◌, ◌<◌, min}
use native.Mathlib.Numerals.{add-one}
use native.Mathlib.Omega.{arith}
use mathlib.Core.Bool.{Bool, true, false, ◌&&◌, ◌||◌}
use mathlib.Core.List.{List, [], ◌∷◌, ◌++◌, append_assoc, append-nil}
use lib.ListN.{length, get_or, take, drop, set, drop_of_length-le}
use lib.Seq.{take-suc-set}
use lib.Dec.{eqb}
use borrow.Author.Tests.{ne_eqb}
use mir.Val.{Val}
use denote.Shadow.{shadow}
use Rattle.std.specs.List.{list_any, list_all}
use Rattle.tokens.proofs.Reading.{cut}
use Rattle.meaning.specs.Bounds.{signals_most}
use Rattle.meaning.specs.Lists.{has, meets, inside, without, empty}
use Rattle.sets.specs.declared.Set.{Set}
use Rattle.sets.specs.contracts.Set.{the_row}

-- what owning a set tells of its array
pub sized : (s : Set) {w : List Val} → shadow (the_row.own_val s w) → length s.v ≡ signals_most
sized s g = g.1.1.1.0.1.0.1

-- does some number of a list stand in g, do all: as `any` and `all` tell it
pub meets_any : (l g : List ℕ) → list_any (λ x. has x g) l ≡ meets l g
unfolding meets
meets_any [] g = refl
meets_any (x ∷ l) g = ap (λ (b : Bool). has x g || b) (meets_any l g)

pub inside_all : (l g : List ℕ) → list_all (λ x. has x g) l ≡ inside l g
unfolding inside
inside_all [] g = refl
inside_all (x ∷ l) g = ap (λ (b : Bool). has x g && b) (inside_all l g)

-- ---- one number more, behind the first k of v

pub more : (v : List ℕ) (k x : ℕ) → k < length v → take (k + 1) (set v k x) ≡ take k v ++ x ∷ []
more v k x h = rw add-one (take-suc-set v k x h)

module _ (v : List ℕ) (k : ℕ) (g : List ℕ) (i : ℕ) (x : List ℕ) where
  module _ (h : i < length g) where
    pub dropped : has (get_or g i 0) x ≡ true → take k v ++ without (drop (i + 1) g) x ≡ take k v ++ without (drop i g) x
    unfolding without
    dropped e = rw (cut g i h) (rw (e, without))

    pub kept : has (get_or g i 0) x ≡ false → k < length v
        → take (k + 1) (set v k (get_or g i 0)) ++ without (drop (i + 1) g) x ≡ take k v ++ without (drop i g) x
    unfolding without
    kept e r = rw (more v k (get_or g i 0) r, cut g i h) (rw (e, without) (append_assoc (take k v) _ _))

  pub all_kept : length g ≤ i → take k v ≡ take k v ++ without (drop i g) x
  unfolding without
  all_kept h = rw (drop_of_length-le g h) (sym (append-nil (take k v)))

-- ---- counts that are too large

pub take_same : (m n : ℕ) (v : List ℕ) → min m (length v) ≡ min n (length v) → take m v ≡ take n v
take_same zero zero v e = refl
take_same zero (suc n) [] e = refl
take_same zero (suc n) (x ∷ v) e = absurd (omega arith)
take_same (suc m) zero [] e = refl
take_same (suc m) zero (x ∷ v) e = absurd (omega arith)
take_same (suc m) (suc n) [] e = refl
take_same (suc m) (suc n) (x ∷ v) e = ap (λ (l : List ℕ). x ∷ l) (take_same m n v (omega arith))

pub empty_none : (n : ℕ) (v : List ℕ) → 0 < length v → eqb n 0 ≡ empty (take n v)
unfolding empty
empty_none n [] h = absurd (omega arith)
empty_none zero (x ∷ v) h = refl
empty_none (suc n) (x ∷ v) h = ne_eqb (suc n) 0 (λ e. omega arith)
