-- A row by itself: cleared, assignments made, a table chosen.
use Prim.Native.Nat.{ℕ, ◌+◌, ◌*◌, ◌≤◌, ◌<◌}
use native.Mathlib.Omega.{arith}
use mathlib.Core.Path.{◌≡◌, refl, sym, ap, ◌∙◌}
use mathlib.Core.Bool.{Bool, true, false}
use mathlib.Core.List.{List, [], ◌∷◌}
use lib.Dec.{ltb, eqb}
use lib.ListN.{length, get_or, set, replicate, length-set, length-replicate, get_or-replicate}
use lib.Seq.{get_or-set_same, get_or-set_other}
use borrow.Rule.Slice.PartMut.{put_mid}
use Rattle.std.proofs.lemmas.List.{places}
use borrow.Author.Count.{below_more}
use borrow.Author.Tests.{ltb-true, ltb-false, eqb-true, eqb-false, eq-eqb, ne_eqb}
use Rattle.tokens.proofs.Bools.{neither}
use Rattle.meaning.specs.Bounds.{signals_most, tables_most}
use Rattle.meaning.specs.Lists.{has, repeats}
use Rattle.meaning.specs.Body.{Assigns, mark}
use Rattle.meaning.specs.Data.{assigned}
use Rattle.assigns.specs.Given.{char_of, chars}
use Rattle.measures.specs.Uses.{Given}
use Rattle.pins.specs.Shown.{table_of}
use Rattle.pins.proofs.Callers.{table_some, table_none}
use Rattle.sums.specs.Sums.{Shown, before, argument, char}
use Rattle.sums.specs.Parts.{Nothing, Kept, shown_one, shown_by, Assigned, Chosen}
use Rattle.sums.proofs.Statements.{kept_both}
use Rattle.tallies.specs.Rows.{row_size, pins_from, fine_from, bad_place, byte_at, shown_of, sum_at, Only, Stored}
use Rattle.tallies.proofs.Stored.{only_then}
use Rattle.tallies.proofs.Grown.{pin_at, pin_none, pin_alike, kept_beside}

-- ---- cleared

long_mid : (a k : ℕ) (xs ys : List ℕ) → a + k ≤ length xs → length ys ≡ k → length (put_mid a k xs ys) ≡ length xs
long_mid a k xs ys h e = grind (arith, places)

before_mid : (a k : ℕ) (xs ys : List ℕ) (p : ℕ) → p < a → a ≤ length xs → get_or (put_mid a k xs ys) p 0 ≡ get_or xs p 0
before_mid a k xs ys p h l = grind (arith, places)

-- a row is written anew
laid : {r k : ℕ} {sums : List ℕ} (row : List ℕ) → k ≡ row_size → r * row_size + row_size ≤ length sums → length row ≡ row_size
    → Only r sums (put_mid (r * row_size) k sums row) × ((p : ℕ) → p < row_size → byte_at (put_mid (r * row_size) k sums row) r p ≡ get_or row p 0)
laid {r} {k} {sums} row e room long = (
  record { long = long_mid (r * row_size) k sums row (omega arith) (long ∙ sym e); below = λ p h. grind (arith, places); above = λ p h. grind (arith, places) },
  λ p h. grind (arith, places),
)

-- zeros, then the tables' flags, then no table
abbrev fresh : List ℕ → List ℕ → List ℕ
fresh row flags = set (put_mid fine_from tables_most row flags) (bad_place + 2) tables_most

pub cleared : {r k w : ℕ} {sums row : List ℕ} (flags : List ℕ) → k ≡ row_size → w ≡ row_size → r * row_size + row_size ≤ length sums → row ≡ replicate w 0 → length flags ≡ tables_most
    → Only r sums (put_mid (r * row_size) k sums (fresh row flags)) × ((n : ℕ) → Nothing n (sum_at (put_mid (r * row_size) k sums (fresh row flags)) r))
cleared {r} {k} {w} {sums} {row} flags e f room zeros long = (
  l.0,
  λ n. record {
    pins_are = λ i h. pin_none _ r i (λ q. l.1 (pins_from + i) (omega arith) ∙ zero (pins_from + i) (omega arith));
    table_is = ap table_of (l.1 (bad_place + 2) (omega arith) ∙ last) ∙ table_none tables_most (omega arith);
  },
)
  where
    wide : length row ≡ row_size
    wide = ap length zeros ∙ length-replicate {A = ℕ} w 0 ∙ f

    inner : length (put_mid fine_from tables_most row flags) ≡ row_size
    inner = long_mid fine_from tables_most row flags (omega (arith, wide)) long ∙ wide

    l : Only r sums (put_mid (r * row_size) k sums (fresh row flags)) × ((p : ℕ) → p < row_size → byte_at (put_mid (r * row_size) k sums (fresh row flags)) r p ≡ get_or (fresh row flags) p 0)
    l = laid (fresh row flags) e room (length-set (put_mid fine_from tables_most row flags) (bad_place + 2) tables_most ∙ inner)

    zero : (p : ℕ) → p < fine_from → get_or (fresh row flags) p 0 ≡ 0
    zero p h =
        get_or-set_other _ (bad_place + 2) p tables_most 0 (λ z. omega arith) ∙ before_mid fine_from tables_most row flags p h (omega (arith, wide)) ∙ ap (λ l. get_or l p 0) zeros
        ∙ get_or-replicate {A = ℕ} w p 0 0 (omega arith)

    last : get_or (fresh row flags) (bad_place + 2) 0 ≡ tables_most
    last = get_or-set_same (put_mid fine_from tables_most row flags) (bad_place + 2) tables_most 0 (omega (arith, inner))

-- ---- a table

pub chosen : {r k : ℕ} {sums sums' : List ℕ} → Stored r (bad_place + 2) k sums sums' → k < tables_most → (n : ℕ) → Chosen n k (sum_at sums r) (sum_at sums' r)
chosen {r} {k} {sums} {sums'} x h n =
    record {
      kept = kept_beside x (omega arith) (λ q l u e. omega arith) n;
      pins_are = λ i l. pin_alike sums sums' r i (λ b. x.else (pins_from + i) (λ e. omega arith));
      table_is = ap table_of x.here ∙ table_some k h;
    }

-- ---- assignments

-- what is given, where something is
unfoldable pub over : ℕ → ℕ → ℕ
over g b = elim (eqb g 0) [ true ↦ b | false ↦ g ]

pub over_none : (g b : ℕ) → g ≡ 0 → over g b ≡ b
unfolding over
over_none g b e = rw (eq-eqb g 0 e, over)

pub over_some : (g b : ℕ) → (g ≡ 0 → ⊥) → over g b ≡ g
unfolding over
over_some g b h = rw (ne_eqb g 0 h, over)

-- the first s signals have what they are given
pub record Assigning (r : ℕ) (given : List ℕ) (s : ℕ) (sums sums' : List ℕ) : Type 0 where
  pub only : Only r sums sums'
  pub kept : (n : ℕ) → Kept n (sum_at sums r) (sum_at sums' r)
  pub table_is : (sum_at sums' r).table ≡ (sum_at sums r).table
  pub done : (i : ℕ) → i < s → byte_at sums' r (pins_from + i) ≡ over (get_or given i 0) (byte_at sums r (pins_from + i))
  pub rest : (i : ℕ) → s ≤ i → i < signals_most → byte_at sums' r (pins_from + i) ≡ byte_at sums r (pins_from + i)

module _ {r : ℕ} {given sums : List ℕ} where
  module _ {s : ℕ} {sums' : List ℕ} (x : Assigning r given s sums sums') (h : s < signals_most) where
    pub assigning_kept : get_or given s 0 ≡ 0 → Assigning r given (s + 1) sums sums'
    assigning_kept e =
        record {
          only = x.only;
          kept = x.kept;
          table_is = x.table_is;
          done = below_more (λ i. byte_at sums' r (pins_from + i) ≡ over (get_or given i 0) (byte_at sums r (pins_from + i))) s x.done
              (x.rest s (omega arith) h ∙ sym (over_none _ _ e));
          rest = λ i l. x.rest i (omega arith);
        }

    pub assigning_next : {sums'' : List ℕ} → (get_or given s 0 ≡ 0 → ⊥) → Stored r (pins_from + s) (get_or given s 0) sums' sums'' → Assigning r given (s + 1) sums sums''
    assigning_next {sums''} n y =
        record {
          only = only_then x.only y.only;
          kept = λ m. kept_both (x.kept m) (kept_beside y (omega arith) (λ q l u e. omega arith) m);
          table_is = ap table_of (y.else (bad_place + 2) (λ e. omega arith)) ∙ x.table_is;
          done = below_more (λ i. byte_at sums'' r (pins_from + i) ≡ over (get_or given i 0) (byte_at sums r (pins_from + i))) s
              (λ i l. y.else (pins_from + i) (λ e. omega arith) ∙ x.done i l) (y.here ∙ sym (over_some _ _ n));
          rest = λ i l b. y.else (pins_from + i) (λ e. omega arith) ∙ x.rest i (omega arith) b;
        }

-- ---- what that shows

shown_given : (c : ℕ) → (c ≡ 0 → ⊥) → ◌≡◌ {A = Shown} (elim (eqb c mark) [ true ↦ argument | false ↦ char c ]) (shown_of c)
unfolding shown_of
shown_given c h = rw (ne_eqb c 0 h, shown_of)

module _ (i : ℕ) where
  pub unassigned_shown : (a : Assigns) (x : Shown) → has i (assigned a) ≡ false → shown_by a i x ≡ x
  unfolding shown_by shown_one assigned has
  unassigned_shown [] x h = refl
  unassigned_shown (y ∷ a) x h = let n = neither (eqb y.0 i) (has i (assigned a)) h in rw (n.0, shown_one) (unassigned_shown a x n.1)

  assigned_shown : (a : Assigns) (b : ℕ) → has 0 (chars a) ≡ false → repeats (assigned a) ≡ false → shown_by a i (shown_of b) ≡ shown_of (over (char_of i a) b)
  unfolding shown_by shown_one char_of chars assigned has repeats
  assigned_shown [] b r q = ap shown_of (sym (over_none 0 b refl))
  assigned_shown (y ∷ a) b r q =
      let real = neither (eqb y.1 0) (has 0 (chars a)) r in
      let once = neither (has y.0 (assigned a)) (repeats (assigned a)) q in
      by (eqb y.0 i) refl (eqb-false y.1 0 real.0) once.0 (assigned_shown a b real.1 once.1)
    where
      by : (z : Bool) → eqb y.0 i ≡ z → (y.1 ≡ 0 → ⊥) → has y.0 (assigned a) ≡ false → shown_by a i (shown_of b) ≡ shown_of (over (char_of i a) b)
          → shown_by (y ∷ a) i (shown_of b) ≡ shown_of (over (char_of i (y ∷ a)) b)
      by true e n o ih =
          let not_again : has i (assigned a) ≡ false = ap (λ (m : ℕ). has m (assigned a)) (sym (eqb-true y.0 i e)) ∙ o in
          rw (e, shown_one, char_of) (unassigned_shown a _ not_again ∙ shown_given y.1 n ∙ ap shown_of (sym (over_some y.1 b n)))
      by false e n o ih = rw (e, shown_one, char_of) ih

pub assigning_all : {r s : ℕ} {given sums sums' : List ℕ} → Assigning r given s sums sums' → signals_most ≤ s → (n : ℕ) (a : Assigns) → Given a given
    → Assigned n a (sum_at sums r) (sum_at sums' r)
assigning_all {r} {s} {given} {sums} {sums'} x l n a g = record { kept = x.kept n; pins_are = λ i h. by i (ltb i signals_most) refl; table_is = x.table_is }
  where
    by : (i : ℕ) (z : Bool) → ltb i signals_most ≡ z → (sum_at sums' r).pin i ≡ shown_by a i ((sum_at sums r).pin i)
    by i true e =
        let h = ltb-true i signals_most e in
        pin_at sums' r i h ∙ ap shown_of (x.done i (omega arith) ∙ ap (λ (c : ℕ). over c (byte_at sums r (pins_from + i))) (g.gave.each i h))
        ∙ sym (assigned_shown i a _ g.gave.real g.once) ∙ ap (shown_by a i) (sym (pin_at sums r i h))
    by i false e =
        let h = ltb-false i signals_most e in
        pin_none sums' r i (λ b. absurd (omega arith))
        ∙ sym (ap (shown_by a i) (pin_none sums r i (λ b. absurd (omega arith))) ∙ unassigned_shown i a before (other i h (has i (assigned a)) refl))
      where
        other : (i : ℕ) → signals_most ≤ i → (z : Bool) → has i (assigned a) ≡ z → z ≡ false
        other i h true e = absurd (omega (arith, g.below i e))
        other i h false e = refl
