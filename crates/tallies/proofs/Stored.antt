-- A byte of a row is stored: only that row is written, and of it only that byte.
use Prim.Native.Nat.{ℕ, ◌+◌, ◌-◌, ◌*◌, ◌≤◌, ◌<◌}
use native.Mathlib.Omega.{arith}
use mathlib.Core.Path.{◌≡◌, refl, sym, ◌∙◌}
use mathlib.Core.Bool.{Bool, true, false, not}
use mathlib.Core.List.{List}
use lib.Dec.{ltb, eqb}
use lib.ListN.{length, get_or, set, take, drop, length-set}
use lib.Seq.{get_or-set_same, get_or-set_other}
use Rattle.std.proofs.lemmas.List.{places}
use borrow.Author.Tests.{ltb-true, ltb-false, eqb-true, eqb-false, ne_eqb, not-true}
use Rattle.meaning.specs.Bounds.{tables_most}
use Rattle.tallies.specs.Rows.{row_size, byte_at, flag_at, Only, Stored}

-- ---- flags

pub flag_on : {n : ℕ} → (n ≡ 0 → ⊥) → not (eqb n 0) ≡ true
flag_on {n} h = rw (ne_eqb n 0 h)

pub flag_is : {n : ℕ} → not (eqb n 0) ≡ true → n ≡ 0 → ⊥
flag_is {n} e = eqb-false n 0 (not-true _ e)

pub flag_off : {n : ℕ} → n ≡ 0 → not (eqb n 0) ≡ false
flag_off e = rw e

-- ---- a part that is lent by itself

pub lent : (l : List ℕ) (a n i : ℕ) → i < n → get_or (take n (drop a l)) i 0 ≡ get_or l (a + i) 0
lent l a n i h = grind (arith, places)

-- of the tables' slots none is marked
pub none_marked : (l : List ℕ) (a : ℕ) → ((k : ℕ) → k < length (take (a + tables_most - a) (drop a l)) → get_or (take (a + tables_most - a) (drop a l)) k 0 ≡ 0) → a + tables_most ≤ length l
    → {k p : ℕ} → k < tables_most → p ≡ a + k → get_or l p 0 ≡ 0
none_marked l a off room {k} {p} h e =
    let few : k < length (take (a + tables_most - a) (drop a l)) = grind (arith, places) in
    rw e (sym (lent l a (a + tables_most - a) k (omega arith)) ∙ off k few)

-- ---- only a row is written

pub only_none : {r : ℕ} {sums : List ℕ} → Only r sums sums
only_none = record { long = refl; below = λ p h. refl; above = λ p h. refl }

pub only_then : {r : ℕ} {sums sums' sums'' : List ℕ} → Only r sums sums' → Only r sums' sums'' → Only r sums sums''
only_then x y =
    record {
      long = y.long ∙ x.long;
      below = λ p h. y.below p h ∙ x.below p h;
      above = λ p h. y.above p h ∙ x.above p h;
    }

-- any other is as it was
pub other_row : {r : ℕ} {sums sums' : List ℕ} → Only r sums sums' → (q p : ℕ) → (q ≡ r → ⊥) → p < row_size → byte_at sums' q p ≡ byte_at sums q p
other_row {r} {sums} {sums'} x q p d h = by (ltb q r) refl
  where
    by : (z : Bool) → ltb q r ≡ z → byte_at sums' q p ≡ byte_at sums q p
    by true e = let l = ltb-true q r e in x.below (q * row_size + p) (omega arith)
    by false e = let l = ltb-false q r e in x.above (q * row_size + p) (omega arith)

-- a byte of it that was read now, and is not 0
pub flag_read : {r b : ℕ} {sums sums' : List ℕ} → Only r sums sums' → (q p : ℕ) → (q ≡ r → ⊥) → p < row_size → b ≡ byte_at sums' q p → (b ≡ 0 → ⊥) → flag_at sums q p ≡ true
flag_read x q p d h e n = flag_on (λ z. n (e ∙ other_row x q p d h ∙ z))

-- ---- a byte is stored

pub stored : {r : ℕ} {sums : List ℕ} (at p v : ℕ) → r * row_size + row_size ≤ length sums → at ≡ r * row_size + p → p < row_size → Stored r p v sums (set sums at v)
stored {r} {sums} at p v room e inside =
    record {
      only = record {
        long = length-set sums at v;
        below = λ q h. get_or-set_other sums at q v 0 (λ z. omega arith);
        above = λ q h. get_or-set_other sums at q v 0 (λ z. omega arith);
      };
      here = rw (sym e) (get_or-set_same sums at v 0 (omega arith));
      else = λ q d. get_or-set_other sums at (r * row_size + q) v 0 (λ z. d (omega arith));
    }

module _ {r p v : ℕ} {sums sums' : List ℕ} (x : Stored r p v sums sums') where
  -- a flag that is set stays set
  pub flag_stays : (q : ℕ) → (v ≡ 0 → ⊥) → flag_at sums r q ≡ true → flag_at sums' r q ≡ true
  flag_stays q n h = by (eqb q p) refl
    where
      by : (z : Bool) → eqb q p ≡ z → flag_at sums' r q ≡ true
      by true e = rw (eqb-true q p e, x.here) (flag_on n)
      by false e = rw (x.else q (eqb-false q p e)) h

  -- one that is set now was set
  pub flag_was : (q : ℕ) → v ≡ 0 → flag_at sums' r q ≡ true → flag_at sums r q ≡ true
  flag_was q n h = by (eqb q p) refl
    where
      by : (z : Bool) → eqb q p ≡ z → flag_at sums r q ≡ true
      by true e = absurd (flag_is (rw (eqb-true q p e, x.here) at h) n)
      by false e = rw (x.else q (eqb-false q p e)) at h

  pub flag_set : (v ≡ 0 → ⊥) → flag_at sums' r p ≡ true
  flag_set n = rw x.here (flag_on n)

  pub flag_else : (q : ℕ) → (q ≡ p → ⊥) → flag_at sums' r q ≡ flag_at sums r q
  flag_else q d = rw (x.else q d)
