-- Rows of the table of signals: what is read from a row, and what writing one leaves of the table.
use Prim.Native.Nat.{ℕ, zero, suc, ◌+◌, ◌-◌, ◌*◌, ◌≤◌, ◌<◌, min}
use mathlib.Core.Path.{◌≡◌, refl, sym, ap, ap₂, ◌∙◌}
use mathlib.Core.List.{List, []}
use lib.ListN.{length, get_or, take, drop, set, length-append, length-take, length-drop, length-set, drop_of_length-le}
use lib.Seq.{drop_at, take_at, ext_get_or, get_or-take, get_or-drop}
use borrow.Rule.Slice.PartMut.{put_mid}
use Rattle.std.proofs.Common.{rules, arith}
use Rattle.std.proofs.lemmas.List.{places}
use Rattle.std.specs.List.{between}
use Rattle.meaning.specs.Bounds.{signals_most}
use Rattle.sets.specs.declared.Set.{Set}
use Rattle.sets.proofs.Sets.{take_same}
use Rattle.signals.specs.Names.{names_most, row_length, list_at, Written}

-- ---- parts of a list, by their numbers

module _ (a n : ℕ) (l : List ℕ) where
  part_at : (k : ℕ) → k < n → get_or (take n (drop a l)) k 0 ≡ get_or l (a + k) 0
  part_at k h = get_or-take n (drop a l) k 0 h ∙ get_or-drop a l k 0

  part_same : (m : List ℕ) → length m ≡ length l → ((k : ℕ) → k < n → get_or m (a + k) 0 ≡ get_or l (a + k) 0) → take n (drop a m) ≡ take n (drop a l)
  part_same m e h =
      ext_get_or 0 (take n (drop a m)) (take n (drop a l)) (simp (length-take, length-drop) (omega arith)) (λ k b.
      let c : k < n = omega (arith, simp (length-take, length-drop) at b) in
      get_or-take n (drop a m) k 0 c ∙ get_or-drop a m k 0 ∙ h k c ∙ sym (part_at k c))

-- ---- rows

-- a row was written: the number, and then the signals
pub written : (l : List ℕ) (i : ℕ) (s : Set) (n k : ℕ) → length s.v ≡ signals_most → n ≡ min s.n signals_most → i * row_length + row_length ≤ length l → k ≡ signals_most
    → Written l i s (put_mid (i * row_length + 1) k (set l (i * row_length) n) s.v)
unfolding list_at
written l i s n k e f g h =
    let at = i * row_length in
    let begun = set l at n in
    let m = put_mid (at + 1) k begun s.v in
    let long : length m ≡ length l = simp (length-append, length-take, length-drop, length-set) (omega arith) in
    let old : (j : ℕ) → j < at → get_or m j 0 ≡ get_or l j 0 = λ j b. search (rules, places) in
    let number : get_or m at 0 ≡ n = search (rules, places) in
    record {
      long = long;
      earlier = λ j b. ap₂ (λ x y. take x y) (old (j * row_length) (omega arith)) (part_same (j * row_length + 1) signals_most l m long (λ x c. old (j * row_length + 1 + x) (omega arith)));
      row =
          ap₂ (λ x y. take x y) number (ap (take signals_most) (drop_at (take (at + 1) begun) _ (at + 1) (simp (length-take, length-set) (omega arith))) ∙ take_at s.v _ signals_most e)
          ∙ take_same n s.n s.v (omega arith);
    }

-- a number past the last row has no signals
pub no_row : (l : List ℕ) (i : ℕ) → length l ≡ names_most * row_length → names_most ≤ i → list_at l i ≡ []
unfolding list_at
no_row l i e h =
    let k : length l ≤ i * row_length + 1 = omega arith in
    let f : drop (i * row_length + 1) l ≡ [] = drop_of_length-le l k in
    rw (f, nil signals_most) (nil (get_or l (i * row_length) 0))
  where
    nil : (n : ℕ) → ◌≡◌ {A = List ℕ} (take n []) []
    nil zero = refl
    nil (suc n) = refl

-- a row was read
pub row_read : (l : List ℕ) (i : ℕ) → take (get_or l (i * row_length) 0) (between (i * row_length + 1) (i * row_length + row_length) l) ≡ list_at l i
unfolding list_at
row_read l i =
    let e : i * row_length + row_length - (i * row_length + 1) ≡ signals_most = omega arith in
    rw e
