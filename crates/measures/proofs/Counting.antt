-- How often a number stands in a list, and whether it stands there.
use Prim.Native.Nat.{ℕ, zero, suc, ◌+◌, ◌<◌, min}
use native.Mathlib.Omega.{arith}
use mathlib.Core.Path.{◌≡◌, refl, ap}
use mathlib.Core.Bool.{Bool, true, false, ◌||◌}
use mathlib.Core.List.{List, [], ◌∷◌, ◌++◌}
use lib.Dec.{eqb}
use lib.ListN.{length, get_or}
use Rattle.meaning.specs.Lists.{has, count}
use Rattle.measures.specs.Uses.{flag}

pub count_append : (s : ℕ) (l m : List ℕ) → count s (l ++ m) ≡ count s l + count s m
unfolding count
count_append s [] m = omega arith
count_append s (y ∷ l) m = by (eqb y s) (count_append s l m)
  where
    by : (b : Bool) → count s (l ++ m) ≡ count s l + count s m
        → ◌≡◌ {A = ℕ} (elim b [ true ↦ suc (count s (l ++ m)) | false ↦ count s (l ++ m) ])
        (elim b [ true ↦ suc (count s l) | false ↦ count s l ] + count s m)
    by true ih = omega arith
    by false ih = ih

-- it stands there if it does so at least once
pub flag_has : (s : ℕ) (l : List ℕ) → flag (has s l) ≡ min 1 (count s l)
unfolding has count
flag_has s [] = refl
flag_has s (y ∷ l) = by (eqb y s) (flag_has s l)
  where
    by : (b : Bool) → flag (has s l) ≡ min 1 (count s l) → flag (b || has s l) ≡ min 1 (elim b [ true ↦ suc (count s l) | false ↦ count s l ])
    by true ih = omega arith
    by false ih = ih

pub flag_true : (b : Bool) → 0 < flag b → b ≡ true
flag_true true h = refl
flag_true false h = absurd (omega arith)

pub flag_false : (b : Bool) → flag b ≡ 0 → b ≡ false
flag_false true h = absurd (omega arith)
flag_false false h = refl

pub counted_there : (s : ℕ) (l : List ℕ) → 0 < count s l → has s l ≡ true
counted_there s l h = flag_true (has s l) (omega (arith, flag_has s l))

pub not_counted : (s : ℕ) (l : List ℕ) → has s l ≡ false → count s l ≡ 0
not_counted s l e = omega (arith, flag_has s l, ap flag e)

pub there_counted : (s : ℕ) (l : List ℕ) → has s l ≡ true → 0 < count s l
there_counted s l e = omega (arith, flag_has s l, ap flag e)

-- ---- by places

module _ (b : ℕ) where
  pub has_at : (l : List ℕ) (k : ℕ) → k < length l → eqb (get_or l k 0) b ≡ true → has b l ≡ true
  unfolding has
  has_at [] k h e = absurd (omega arith)
  has_at (x ∷ l) zero h e = rw e
  has_at (x ∷ l) (suc k) h e = by (eqb x b) (has_at l k (omega arith) e)
    where
      by : (z : Bool) → has b l ≡ true → (z || has b l) ≡ true
      by true ih = refl
      by false ih = ih

  pub has_nowhere : (l : List ℕ) → ((k : ℕ) → k < length l → eqb (get_or l k 0) b ≡ false) → has b l ≡ false
  unfolding has
  has_nowhere [] h = refl
  has_nowhere (x ∷ l) h = rw (h 0 (omega arith)) (has_nowhere l (λ k i. h (suc k) (omega arith)))
