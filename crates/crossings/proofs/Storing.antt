-- Rows that are written: what the row holds, and that the others hold what they held.
use Prim.Native.Nat.{ℕ, ◌+◌, ◌*◌, ◌<◌, ◌≤◌}
use native.Mathlib.Omega.{arith}
use native.Mathlib.Decide.{ℕ_discrete}
use mathlib.Core.Path.{◌≡◌, refl, sym, ap, ap₂, ◌∙◌}
use mathlib.Core.Bool.{Bool, true, false}
use mathlib.Core.Option.{Option, none, some}
use mathlib.Core.List.{List, [], ◌∷◌}
use lib.Dec.{ltb}
use lib.ListN.{length, get_or, take, drop, set, length-set, length-drop}
use lib.Seq.{get_or-set_same, get_or-set_other, get_or-take, get_or-drop, length-take-le, ext_get_or}
use borrow.Author.Tests.{eq-eqb, ne_eqb, ltb-true, ltb-false}
use Rattle.meaning.specs.Bounds.{signals_most}
use Rattle.meaning.specs.Run.{Cycle}
use Rattle.meaning.specs.Edges.{last_behind}
use Rattle.pins.specs.Shown.{table_of}
use Rattle.crossings.specs.declared.Seen.{Seen}
use Rattle.crossings.specs.Rows.{rows_most, seen, Ample, cycle_in, row_of, row_at, Copied, Marked, Stored, first_seen, Noted, Long}

above : (q row : ℕ) → row ≤ q → (q ≡ row → ⊥) → row < q
above q row h d = omega (arith, h, d)

-- ---- pins

pub copied_next : {n : ℕ} {values : List ℕ} {at : ℕ} {pins pins' : List ℕ} → Copied n values at pins pins' → at + n < length pins
    → Copied (n + 1) values at pins (set pins' (at + n) (get_or values n 0))
copied_next {n} {values} {at} {pins} {pins'} k h = record {
  long = length-set pins' (at + n) (get_or values n 0) ∙ k.long;
  here = λ s l. by s l (ℕ_discrete s n);
  lower = λ i l. get_or-set_other pins' (at + n) i _ 0 (λ e. omega arith) ∙ k.lower i l;
  upper = λ i l. get_or-set_other pins' (at + n) i _ 0 (λ e. omega arith) ∙ k.upper i (omega arith);
}
  where
    by : (s : ℕ) → s < n + 1 → Dec (s ≡ n) → get_or (set pins' (at + n) (get_or values n 0)) (at + s) 0 ≡ get_or values s 0
    by s l (yes e) =
        ap (λ (i : ℕ). get_or (set pins' (at + n) (get_or values n 0)) (at + i) 0) e ∙ get_or-set_same pins' (at + n) (get_or values n 0) 0 (omega (arith, k.long))
        ∙ ap (λ (i : ℕ). get_or values i 0) (sym e)
    by s l (no e) = get_or-set_other pins' (at + n) (at + s) _ 0 (λ q. e (omega (arith, q))) ∙ k.here s (above n s (omega arith) (λ q. e (sym q)))

pub copied_all : {n m : ℕ} {values : List ℕ} {at : ℕ} {pins pins' : List ℕ} → m ≤ n → Copied n values at pins pins' → n ≤ m → Copied m values at pins pins'
copied_all h k l = record { long = k.long; here = λ s b. k.here s (omega arith); lower = k.lower; upper = λ i b. k.upper i (omega arith) }

-- those that a test found to be the same
pub same_taken : (at : ℕ) {k n : ℕ} (pins values : List ℕ) → k ≡ n → take k (drop at pins) ≡ take n values → (i : ℕ) → i < n → get_or pins (at + i) 0 ≡ get_or values i 0
same_taken at {k} {n} pins values q e i h =
    sym (get_or-take k (drop at pins) i 0 (omega (arith, q)) ∙ get_or-drop at pins i 0) ∙ ap (λ (l : List ℕ). get_or l i 0) e ∙ get_or-take n values i 0 h

-- the same pins from two places on
pub window : (n a b : ℕ) (p q : List ℕ) → a + n ≤ length p → b + n ≤ length q → ((s : ℕ) → s < n → get_or p (a + s) 0 ≡ get_or q (b + s) 0)
    → take n (drop a p) ≡ take n (drop b q)
window n a b p q h k e =
    let l = length-take-le n (drop a p) (omega (arith, length-drop a p)) in
    let m = length-take-le n (drop b q) (omega (arith, length-drop b q)) in
    ext_get_or 0 (take n (drop a p)) (take n (drop b q)) (l ∙ sym m) λ i j.
    let below : i < n = omega arith in
    get_or-take n (drop a p) i 0 below ∙ get_or-drop a p i 0 ∙ e i below ∙ sym (get_or-take n (drop b q) i 0 below ∙ get_or-drop b q i 0)

-- ---- a row's numbers

pub marked : {marks : List ℕ} {row table place : ℕ} (there : ℕ) → row * 3 + 3 ≤ length marks
    → Marked row table place there marks (set (set (set marks (row * 3) table) (row * 3 + 1) place) (row * 3 + 2) there)
marked {marks} {row} {table} {place} there h = record {
  long = length-set two _ _ ∙ length-set one _ _ ∙ length-set marks _ _;
  table_is = get_or-set_other two _ (row * 3) _ 0 (λ e. omega arith) ∙ get_or-set_other one _ (row * 3) _ 0 (λ e. omega arith) ∙ get_or-set_same marks (row * 3) table 0 (omega arith);
  place_is = get_or-set_other two _ (row * 3 + 1) _ 0 (λ e. omega arith) ∙ get_or-set_same one (row * 3 + 1) place 0 (omega (arith, length-set marks (row * 3) table));
  there_is = get_or-set_same two (row * 3 + 2) there 0 (omega (arith, length-set marks (row * 3) table, length-set one (row * 3 + 1) place));
  lower = λ i l. get_or-set_other two _ i _ 0 (λ e. omega arith) ∙ get_or-set_other one _ i _ 0 (λ e. omega arith) ∙ get_or-set_other marks _ i _ 0 (λ e. omega arith);
  upper = λ i l. get_or-set_other two _ i _ 0 (λ e. omega arith) ∙ get_or-set_other one _ i _ 0 (λ e. omega arith) ∙ get_or-set_other marks _ i _ 0 (λ e. omega arith);
}
  where
    one : List ℕ
    one = set marks (row * 3) table

    two : List ℕ
    two = set one (row * 3 + 1) place

-- ---- what a row holds

there_row : (there : ℕ) (c : Cycle) → (there ≡ 0 → ⊥) → row_of there c ≡ some c
unfolding row_of
there_row there c h = rw (ne_eqb there 0 h, row_of)

not_there : (there : ℕ) (c : Cycle) → there ≡ 0 → row_of there c ≡ none
unfolding row_of
not_there there c h = rw (eq-eqb there 0 h, row_of)

module _ (n : ℕ) (x : Seen) (r : ℕ) where
  abbrev pub cycle_there : Cycle
  cycle_there = cycle_in n (get_or x.marks (r * 3 + 1) 0) (get_or x.marks (r * 3) 0) x.pins (r * signals_most)

  pub row_seen : (get_or x.marks (r * 3 + 2) 0 ≡ 0 → ⊥) → row_at n x r ≡ some cycle_there
  unfolding row_at
  row_seen h = there_row _ _ h

  pub row_unseen : get_or x.marks (r * 3 + 2) 0 ≡ 0 → row_at n x r ≡ none
  unfolding row_at
  row_unseen h = not_there _ _ h

-- a cycle by its parts
parts : (p q : ℕ) (j k : ℕ) (v w : List ℕ) → p ≡ q → j ≡ k → v ≡ w → ◌≡◌ {A = Cycle} (record { at = p; table = table_of j; pins = v }) (record { at = q; table = table_of k; pins = w })
parts p q j k v w d e f = λ i. record { at = d i; table = table_of (e i); pins = f i }

-- rows of the same numbers and pins
row_alike : (n : ℕ) (x y : Seen) (r : ℕ) → ((i : ℕ) → i < 3 → get_or y.marks (r * 3 + i) 0 ≡ get_or x.marks (r * 3 + i) 0)
    → take n (drop (r * signals_most) y.pins) ≡ take n (drop (r * signals_most) x.pins) → row_at n y r ≡ row_at n x r
unfolding row_at
row_alike n x y r m e =
    let first : get_or y.marks (r * 3) 0 ≡ get_or x.marks (r * 3) 0 = ap (λ (k : ℕ). get_or y.marks k 0) zero_behind ∙ m 0 (omega arith) ∙ ap (λ (k : ℕ). get_or x.marks k 0) (sym zero_behind) in
    ap₂ row_of (m 2 (omega arith)) (parts _ _ _ _ _ _ (m 1 (omega arith)) first e)
  where
    zero_behind : r * 3 ≡ r * 3 + 0
    zero_behind = omega arith

module _ {n row table place : ℕ} {values pins pins' marks marks' : List ℕ} (few : n ≤ signals_most) (wide : signals_most ≤ length values) (room : Ample (seen pins marks)) (in_rows : row < rows_most)
  where
    pub stored : Copied n values (row * signals_most) pins pins' → Marked row table place 1 marks marks'
        → Stored n row (some (cycle_in n place table values 0)) (seen pins marks) (seen pins' marks')
    stored k m = record {
      pins_long = k.long;
      marks_long = m.long;
      here = row_seen n (seen pins' marks') row (λ e. let z = sym m.there_is ∙ e in omega (arith, z))
          ∙ ap some (parts _ _ _ _ _ _ m.place_is m.table_is (window n (row * signals_most) 0 pins' values (omega (arith, room.pins_long, k.long)) (omega arith) λ s h. k.here s h ∙ ap (λ (i : ℕ). get_or values i 0) (behind s)));
      others = λ q l d. row_alike n (seen pins marks) (seen pins' marks') q (λ i h. mark_same q d i h (ltb q row) refl)
          (window n (q * signals_most) (q * signals_most) pins' pins (omega (arith, room.pins_long, k.long)) (omega (arith, room.pins_long)) λ s h. pin_same q d s h (ltb q row) refl);
    }
      where
        behind : (s : ℕ) → s ≡ 0 + s
        behind s = omega arith

        mark_same : (q : ℕ) → (q ≡ row → ⊥) → (i : ℕ) → i < 3 → (w : Bool) → ltb q row ≡ w → get_or marks' (q * 3 + i) 0 ≡ get_or marks (q * 3 + i) 0
        mark_same q d i h true e = m.lower (q * 3 + i) (omega (arith, ltb-true q row e))
        mark_same q d i h false e = m.upper (q * 3 + i) (omega (arith, above q row (ltb-false q row e) d))

        pin_same : (q : ℕ) → (q ≡ row → ⊥) → (s : ℕ) → s < n → (w : Bool) → ltb q row ≡ w → get_or pins' (q * signals_most + s) 0 ≡ get_or pins (q * signals_most + s) 0
        pin_same q d s h true e = k.lower (q * signals_most + s) (omega (arith, ltb-true q row e))
        pin_same q d s h false e = k.upper (q * signals_most + s) (omega (arith, above q row (ltb-false q row e) d))

-- no cycle is there any more
pub forgotten : {row : ℕ} {marks : List ℕ} (n : ℕ) (pins : List ℕ) → length marks ≡ rows_most * 3 → row < rows_most
    → Stored n row none (seen pins marks) (seen pins (set marks (row * 3 + 2) 0))
forgotten {row} {marks} n pins l h = record {
  pins_long = refl;
  marks_long = length-set marks (row * 3 + 2) 0;
  here = row_unseen n (seen pins (set marks (row * 3 + 2) 0)) row (get_or-set_same marks (row * 3 + 2) 0 0 (omega arith));
  others = λ q b d. row_alike n (seen pins marks) (seen pins (set marks (row * 3 + 2) 0)) q (λ i j. get_or-set_other marks (row * 3 + 2) (q * 3 + i) 0 0 (apart q row i j d)) refl;
}
  where
    apart : (q row i : ℕ) → i < 3 → (q ≡ row → ⊥) → q * 3 + i ≡ row * 3 + 2 → ⊥
    apart q row i j d e = d (omega (arith, j, e))

-- ---- a cycle in each row that has none

seen_stays : (o : Option Cycle) (d c : Cycle) → o ≡ some d → o ≡ first_seen o (c ∷ [])
unfolding first_seen
seen_stays none d c e = let z : ◌≡◌ {A = ℕ} 0 1 = cc in absurd (omega arith)
seen_stays (some b) d c e = refl

unseen_first : (o : Option Cycle) (c : Cycle) → o ≡ none → some c ≡ first_seen o (c ∷ [])
unfolding first_seen
unseen_first none c e = refl
unseen_first (some b) c e = let z : ◌≡◌ {A = ℕ} 0 1 = cc in absurd (omega arith)

module _ {n r : ℕ} (c : Cycle) {x : Seen} where
  pub first_seen_lem : (get_or x.marks (r * 3 + 2) 0 ≡ 0 → ⊥) → Stored n r (first_seen (row_at n x r) (c ∷ [])) x x
  first_seen_lem h = record { pins_long = refl; marks_long = refl; here = seen_stays (row_at n x r) _ c (row_seen n x r h); others = λ q b d. refl }

  pub first_unseen : {y : Seen} → get_or x.marks (r * 3 + 2) 0 ≡ 0 → Stored n r (some c) x y → Stored n r (first_seen (row_at n x r) (c ∷ [])) x y
  first_unseen h s = record { pins_long = s.pins_long; marks_long = s.marks_long; here = s.here ∙ unseen_first (row_at n x r) c (row_unseen n x r h); others = s.others }

-- rows below i were looked at, but for row 0
pub record Noting (n i : ℕ) (x y : Seen) (c : Cycle) : Type 0 where
  pub pins_long : length y.pins ≡ length x.pins
  pub marks_long : length y.marks ≡ length x.marks
  pub done : (q : ℕ) → 0 < q → q < i → row_at n y q ≡ first_seen (row_at n x q) (c ∷ [])
  pub left : (q : ℕ) → q < rows_most → (0 < q → i ≤ q) → row_at n y q ≡ row_at n x q

module _ {n : ℕ} {c : Cycle} {x : Seen} where
  pub noting_none : Noting n 1 x x c
  noting_none = record { pins_long = refl; marks_long = refl; done = λ q a b. absurd (omega arith); left = λ q a b. refl }

  module _ {i : ℕ} {y z : Seen} (k : Noting n i x y c) where
    pub noting_next : 0 < i → i < rows_most → Stored n i (first_seen (row_at n y i) (c ∷ [])) y z → Noting n (i + 1) x z c
    noting_next some-row in_rows s = record {
      pins_long = s.pins_long ∙ k.pins_long;
      marks_long = s.marks_long ∙ k.marks_long;
      done = λ q a b. by q a b (ℕ_discrete q i);
      left = λ q a b. s.others q a (λ e. let z = b (omega arith) in omega arith) ∙ k.left q a (λ l. let z = b l in omega arith);
    }
      where
        by : (q : ℕ) → 0 < q → q < i + 1 → Dec (q ≡ i) → row_at n z q ≡ first_seen (row_at n x q) (c ∷ [])
        by q a b (yes e) =
            rw e (s.here ∙ ap (λ (o : Option Cycle). first_seen o (c ∷ [])) (k.left i in_rows (λ l. omega arith)))
        by q a b (no e) = s.others q (omega arith) e ∙ k.done q a (above i q (omega arith) (λ z. e (sym z)))

    pub noting_all : {rows : ℕ} → rows ≤ rows_most → rows ≤ i → Stored n 0 (some c) y z → Long x z × Noted n rows x z (c ∷ [])
    unfolding last_behind
    noting_all {rows} most h s = (
      record { pins_long = s.pins_long ∙ k.pins_long; marks_long = s.marks_long ∙ k.marks_long },
      record { last = s.here; first = λ q a b. s.others q (omega arith) (λ e. omega arith) ∙ k.done q a (omega arith) },
    )

  pub noting_ample : {i : ℕ} {y : Seen} → Ample x → Noting n i x y c → Ample y
  noting_ample a k = record { pins_long = k.pins_long ∙ a.pins_long; marks_long = k.marks_long ∙ a.marks_long }
