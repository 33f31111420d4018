-- A row that asks for more than before: what was stored in it, and what that makes of its sum.
use Prim.Native.Nat.{ℕ, ◌+◌, ◌*◌, ◌≤◌, ◌<◌}
use native.Mathlib.Omega.{arith}
use mathlib.Core.Path.{◌≡◌, refl, sym, ap, ◌∙◌, subst}
use mathlib.Core.Bool.{Bool, true, false, ◌&&◌, and-false}
use mathlib.Core.Option.{Option, none, some}
use mathlib.Core.List.{List}
use lib.Dec.{ltb}
use borrow.Author.Tests.{ltb-true, lt-ltb}
use Rattle.tokens.proofs.Bools.{both, contra}
use Rattle.meaning.specs.Bounds.{signals_most, tables_most}
use Rattle.meaning.specs.Timing.{Tables}
use Rattle.pins.specs.Shown.{table_of}
use Rattle.sums.specs.Sums.{Shown, before, Sum}
use Rattle.sums.specs.Parts.{Kept, Shows}
use Rattle.sums.proofs.Statements.{kept_both}
use Rattle.tallies.specs.Rows.{slots, given_from, pins_from, fine_from, bad_place, byte_at, flag_at, slot_of, is_slot, shown_of, sum_at, Only, Stored, More}
use Rattle.tallies.proofs.Stored.{only_none, only_then, flag_read, flag_stays, flag_was, flag_else}

-- its marks, `bad` and `needs` stay set, and no more tables are fine
pub record Grown (r : ℕ) (sums sums' : List ℕ) : Type 0 where
  pub marks : (p : ℕ) → p < pins_from → flag_at sums r p ≡ true → flag_at sums' r p ≡ true
  pub bad : flag_at sums r bad_place ≡ true → flag_at sums' r bad_place ≡ true
  pub needs : flag_at sums r (bad_place + 1) ≡ true → flag_at sums' r (bad_place + 1) ≡ true
  pub fine : (k : ℕ) → k < tables_most → flag_at sums' r (fine_from + k) ≡ true → flag_at sums r (fine_from + k) ≡ true

-- ---- the sum

pub slot_below : (t : Option ℕ) → is_slot t ≡ true → slot_of t < slots
slot_below none h = omega arith
slot_below (some k) h = let l = ltb-true k tables_most h in omega arith

pub slot_place : (i : ℕ) (t : Option ℕ) → (ltb i signals_most && is_slot t) ≡ true → i * slots + slot_of t < given_from
slot_place i t h =
    let b = both (ltb i signals_most) (is_slot t) h in
    omega (arith, ltb-true i signals_most b.0, slot_below t b.1)

-- two tests, and a third one that may change
and_kept : (x y z : Bool) → (x ≡ true → y ≡ true → z ≡ true) → (x && y) ≡ true → (x && z) ≡ true
and_kept x y z f h = let b = both x y h in rw b.0 (f b.0 b.1)

-- a table that is fine in a row that was not written
pub fine_read : {r b : ℕ} {sums sums' : List ℕ} → Only r sums sums' → (q k : ℕ) → (q ≡ r → ⊥) → k < tables_most → b ≡ byte_at sums' q (fine_from + k) → (b ≡ 0 → ⊥)
    → (sum_at sums q).fine k ≡ true
fine_read x q k d h e n = rw (lt-ltb k tables_most h, sum_at) (flag_read x q (fine_from + k) d (omega arith) e n)

-- what is marked under a slot
module _ (sums : List ℕ) (r i : ℕ) (t : Option ℕ) (h : i < signals_most) (l : is_slot t ≡ true) where
  pub under_at : flag_at sums r (i * slots + slot_of t) ≡ true → (sum_at sums r).under i t ≡ true
  under_at e = rw (lt-ltb i signals_most h, l, sum_at) e

  pub given_at : flag_at sums r (given_from + (i * slots + slot_of t)) ≡ true → (sum_at sums r).given i t ≡ true
  given_at e = rw (lt-ltb i signals_most h, l, sum_at) e

module _ (sums : List ℕ) (r i : ℕ) (t : Option ℕ) where
  pub under_slot : (sum_at sums r).under i t ≡ true → (is_slot t ≡ true) × (flag_at sums r (i * slots + slot_of t) ≡ true)
  under_slot e = let b = both (ltb i signals_most && is_slot t) _ e in ((both (ltb i signals_most) _ b.0).1, b.1)

  -- by the place where the signal's slots begin
  pub given_slot : (sum_at sums r).given i t ≡ true → (is_slot t ≡ true) × (flag_at sums r (given_from + i * slots + slot_of t) ≡ true)
  given_slot e =
      let b = both (ltb i signals_most && is_slot t) _ e in
      let p : given_from + (i * slots + slot_of t) ≡ given_from + i * slots + slot_of t = omega arith in
      ((both (ltb i signals_most) _ b.0).1, subst (λ (n : ℕ). flag_at sums r n ≡ true) p b.1)

-- and what is not
pub under_off : (sums : List ℕ) (r i : ℕ) (t : Option ℕ) → byte_at sums r (i * slots + slot_of t) ≡ 0 → (sum_at sums r).under i t ≡ false
under_off sums r i t e = rw (e, sum_at) (and-false (ltb i signals_most && is_slot t))

-- what stands on signal i
pub pin_at : (sums : List ℕ) (r i : ℕ) → i < signals_most → (sum_at sums r).pin i ≡ shown_of (byte_at sums r (pins_from + i))
pin_at sums r i h = rw (lt-ltb i signals_most h, sum_at)

picked : (b : Bool) (x y : ℕ) → (b ≡ true → x ≡ y) → ◌≡◌ {A = Shown} (elim b [ true ↦ shown_of x | false ↦ before ]) (elim b [ true ↦ shown_of y | false ↦ before ])
picked true x y f = ap shown_of (f refl)
picked false x y f = refl

picked_none : (b : Bool) (x : ℕ) → (b ≡ true → x ≡ 0) → ◌≡◌ {A = Shown} (elim b [ true ↦ shown_of x | false ↦ before ]) before
unfolding shown_of
picked_none true x f = rw (f refl)
picked_none false x f = refl

pub pin_none : (sums : List ℕ) (r i : ℕ) → (i < signals_most → byte_at sums r (pins_from + i) ≡ 0) → (sum_at sums r).pin i ≡ before
pin_none sums r i f = picked_none (ltb i signals_most) _ (λ e. f (ltb-true i signals_most e))

pub pin_alike : (sums sums' : List ℕ) (r i : ℕ) → (i < signals_most → byte_at sums' r (pins_from + i) ≡ byte_at sums r (pins_from + i)) → (sum_at sums' r).pin i ≡ (sum_at sums r).pin i
pin_alike sums sums' r i f = picked (ltb i signals_most) _ _ (λ e. f (ltb-true i signals_most e))

pub grown_kept : {r : ℕ} {sums sums' : List ℕ} → Grown r sums sums' → (n : ℕ) → Kept n (sum_at sums r) (sum_at sums' r)
grown_kept g n =
    record {
      good = contra _ _ g.bad;
      needs = g.needs;
      fine = λ k. and_kept _ _ _ (λ h e. g.fine k (ltb-true k tables_most h) e);
      under = λ i t l. and_kept _ _ _ (λ (h : (ltb i signals_most && is_slot t) ≡ true). g.marks (i * slots + slot_of t) (omega (arith, slot_place i t h)));
      given = λ i t l. and_kept _ _ _ (λ (h : (ltb i signals_most && is_slot t) ≡ true). g.marks (given_from + (i * slots + slot_of t)) (omega (arith, slot_place i t h)));
    }

-- ---- what is stored

module _ {r p : ℕ} {sums sums' : List ℕ} where
  -- a mark is set: of a signal, `bad` or `needs`
  pub more_marked : Stored r p 1 sums sums' → ((q : ℕ) → pins_from ≤ q → q < bad_place → q ≡ p → ⊥) → p < bad_place + 2 → More r sums sums'
  more_marked x o l =
      record {
        only = x.only;
        kept = grown_kept {r = r} {sums = sums} {sums' = sums'} (record {
          marks = λ q h. flag_stays x q (λ z. omega arith);
          bad = flag_stays x bad_place (λ z. omega arith);
          needs = flag_stays x (bad_place + 1) (λ z. omega arith);
          fine = λ k h e. sym (flag_else x (fine_from + k) (o (fine_from + k) (omega arith) (omega arith))) ∙ e;
        });
        pins_are = λ i. pin_alike sums sums' r i (λ h. x.else (pins_from + i) (o (pins_from + i) (omega arith) (omega arith)));
        table_is = ap table_of (x.else (bad_place + 2) (λ z. omega arith));
      }

  -- a table is fine no more
  pub more_unfine : Stored r p 0 sums sums' → fine_from ≤ p → p < bad_place → More r sums sums'
  more_unfine x l u =
      record {
        only = x.only;
        kept = grown_kept {r = r} {sums = sums} {sums' = sums'} (record {
          marks = λ q h e. flag_else x q (λ z. omega arith) ∙ e;
          bad = λ e. flag_else x bad_place (λ z. omega arith) ∙ e;
          needs = λ e. flag_else x (bad_place + 1) (λ z. omega arith) ∙ e;
          fine = λ k h. flag_was x (fine_from + k) refl;
        });
        pins_are = λ i. pin_alike sums sums' r i (λ h. x.else (pins_from + i) (λ z. omega arith));
        table_is = ap table_of (x.else (bad_place + 2) (λ z. omega arith));
      }

  -- what stands on a signal, or the table: nothing else is asked for
  pub kept_beside : {v : ℕ} → Stored r p v sums sums' → pins_from ≤ p → ((q : ℕ) → fine_from ≤ q → q < bad_place + 2 → q ≡ p → ⊥) → (n : ℕ) → Kept n (sum_at sums r) (sum_at sums' r)
  kept_beside x l o =
      grown_kept {r = r} {sums = sums} {sums' = sums'} (record {
        marks = λ q h e. flag_else x q (λ z. omega arith) ∙ e;
        bad = λ e. flag_else x bad_place (o bad_place (omega arith) (omega arith)) ∙ e;
        needs = λ e. flag_else x (bad_place + 1) (o (bad_place + 1) (omega arith) (omega arith)) ∙ e;
        fine = λ k h e. sym (flag_else x (fine_from + k) (o (fine_from + k) (omega arith) (omega arith))) ∙ e;
      })

-- ---- one step after another

pub more_none : {r : ℕ} {sums : List ℕ} → More r sums sums
more_none =
    record {
      only = only_none;
      kept = λ n. record { good = λ h. h; needs = λ h. h; fine = λ k h. h; under = λ i t l h. h; given = λ i t l h. h };
      pins_are = λ i. refl;
      table_is = refl;
    }

pub more_then : {r : ℕ} {sums sums' sums'' : List ℕ} → More r sums sums' → More r sums' sums'' → More r sums sums''
more_then x y =
    record {
      only = only_then x.only y.only;
      kept = λ n. kept_both (x.kept n) (y.kept n);
      pins_are = λ i. y.pins_are i ∙ x.pins_are i;
      table_is = y.table_is ∙ x.table_is;
    }

-- what was shown stays shown
pub shows_kept : {tabs : Tables} {i : ℕ} {x : Shown} {t : Option ℕ} {S R : Sum} → Shows tabs i x t S → ((n : ℕ) → Kept n S R) → Shows tabs i x t R
shows_kept {tabs} {i} h f =
    let k = f (i + 1) in
    record {
      held = λ e. k.under i _ (omega arith) (h.held e);
      fed = λ e. k.given i _ (omega arith) (h.fed e);
      chosen = λ c n e q g. h.chosen c n e q (k.good g);
      inherited = λ c e q. let w = h.inherited c e q in (k.needs w.0, λ n g. w.1 n (k.fine n g));
    }
