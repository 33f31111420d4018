-- For callers: what was read stands at the buffer's front, and a test on the code's count is the test on the length.
use Prim.Native.Nat.{ℕ, suc, ◌≤◌, ◌<◌}
use native.Mathlib.Omega.{arith}
use mathlib.Core.Path.{◌≡◌, refl, sym, ap, ◌∙◌}
use mathlib.Core.Bool.{Bool, true, false, not}
use mathlib.Core.List.{List}
use lib.Dec.{leb, ltb, eqb}
use lib.ListN.{length, take}
use borrow.Author.Tests.{lt-ltb, le-ltb, leb-true, leb-false, eq-eqb, ne_eqb, eqb-true, eqb-false}
use Rattle.meaning.specs.Reader.{Reader, refuse_if}
use Rattle.meaning.proofs.Gives.{Gives}
use Rattle.words.specs.declared.Cursor.{Cursor}
use Rattle.words.specs.Cursor.{alive, Goes, Checked}
use Rattle.words.proofs.Flow.{valued, recast, read, checked}
use Rattle.data.specs.Filled.{count_most, Holds, Fills}
use Rattle.data.proofs.Over.{over_length, over_front}

module _ {entry buffer : List ℕ} {n : ℕ} {cs : List ℕ} (h : Holds entry buffer n cs) where
  pub held_length : length buffer ≡ length entry
  held_length = ap length h.front ∙ over_length cs entry

  -- a count that is below the largest is exact
  pub held_count : n < count_most → n ≡ length cs
  held_count l = omega (arith, h.count)

  -- characters that have room are the buffer's front
  pub held : n ≤ length entry → n < count_most → take n buffer ≡ cs
  held k l = let e : n ≡ length cs = held_count l in rw (h.front, e) (over_front cs entry (omega arith))

  -- is the length l
  pub count_is : (l : ℕ) → l < count_most → eqb n l ≡ eqb (length cs) l
  count_is l k = by (eqb n l) refl
    where
      by : (z : Bool) → eqb n l ≡ z → z ≡ eqb (length cs) l
      by true e = sym (eq-eqb (length cs) l (omega (arith, h.count, eqb-true n l e)))
      by false e = sym (ne_eqb (length cs) l (λ q. eqb-false n l e (omega (arith, h.count))))

  -- is it above l
  pub count_above : (l : ℕ) → l < count_most → ltb l n ≡ leb (suc l) (length cs)
  count_above l k = by (leb (suc l) (length cs)) refl
    where
      by : (z : Bool) → leb (suc l) (length cs) ≡ z → ltb l n ≡ z
      by true e = lt-ltb l n (omega (arith, h.count, leb-true (suc l) (length cs) e))
      by false e = le-ltb l n (omega (arith, h.count, leb-false (suc l) (length cs) e))

module _ {text : List ℕ} {c : Cursor} {k : Reader (List ℕ × ℕ)} {r : Cursor} {entry buffer : List ℕ} {n last : ℕ}
    (f : Fills text c k r entry buffer n last) where
  -- the answer is the buffer's front, where that has room for it
  pub filled : (alive r ≡ true → n ≤ length entry) → length entry < count_most → Goes text c k r (take n buffer, last)
  filled h l = valued f.goes (λ e. ap (λ (cs : List ℕ). (cs, last)) (sym (held (f.holds e) (h e) (let q = h e in omega arith))))

  -- what every answer of the reader has, this one has
  pub told : (P : List ℕ × ℕ → Type 0) → Gives P k → alive r ≡ true → P (f.cs, last)
  told P g e = g.all _ _ _ (read f.goes e).gave

  module _ {r' : Cursor} {b : Bool} {z p : ℕ} (l : ℕ) (below : l < count_most) (e : Checked r b z p r') (real : eqb z 0 ≡ false) where
    -- the length is due to be l
    pub length_due_lem : b ≡ not (eqb n l) → Goes text r (refuse_if (not (eqb (length f.cs) l)) z p) r' tt
    length_due_lem h =
        recast (checked e h real) (λ a. ap (λ (q : Bool). refuse_if (not q) z p) (count_is (f.holds a) l below))

    -- it is due to be at most l
    pub length_most : b ≡ ltb l n → Goes text r (refuse_if (leb (suc l) (length f.cs)) z p) r' tt
    length_most h = recast (checked e h real) (λ a. ap (λ (q : Bool). refuse_if q z p) (count_above (f.holds a) l below))
