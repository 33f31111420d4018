-- What a row says of one signal, by its slots.
use Prim.Native.Nat.{ℕ, ◌+◌, ◌*◌, ◌<◌}
use native.Mathlib.Omega.{arith}
use mathlib.Core.Path.{◌≡◌, refl, sym, subst}
use mathlib.Core.Bool.{Bool, true, false, not}
use mathlib.Core.Option.{none, some}
use mathlib.Core.List.{List}
use lib.Dec.{ltb, eqb}
use borrow.Author.Tests.{lt-ltb, ltb-false}
use Rattle.meaning.specs.Bounds.{signals_most, tables_most}
use Rattle.meaning.specs.Body.{mark}
use Rattle.pins.specs.Shown.{table_of}
use Rattle.sums.specs.Sums.{Shown, before, argument, char}
use Rattle.tallies.specs.Rows.{slots, pins_from, byte_at, flag_at, shown_of, sum_at}

table_some : (t : ℕ) → ltb t tables_most ≡ true → table_of t ≡ some t
unfolding table_of
table_some t e = rw (e, table_of)

table_none : (t : ℕ) → ltb t tables_most ≡ false → table_of t ≡ none
unfolding table_of
table_none t e = rw (e, table_of)

pub slot_under : (sums : List ℕ) (r s t : ℕ) → s < signals_most → t < slots → flag_at sums r (s * slots + t) ≡ (sum_at sums r).under s (table_of t)
slot_under sums r s t h l = by (ltb t tables_most) refl
  where
    by : (w : Bool) → ltb t tables_most ≡ w → flag_at sums r (s * slots + t) ≡ (sum_at sums r).under s (table_of t)
    by true e = rw (table_some t e, lt-ltb s signals_most h, e)
    by false e = let q : t ≡ tables_most = omega (arith, ltb-false t tables_most e) in rw (table_none t e, lt-ltb s signals_most h, q)

-- a byte other than 0 is no `before`
shown_other : (b : ℕ) (w : Bool) → eqb b 0 ≡ w → (not w ≡ true → shown_of b ≡ before → ⊥) × (not w ≡ false → shown_of b ≡ before)
unfolding shown_of
shown_other b true e = (λ h. (let z : ◌≡◌ {A = ℕ} 0 1 = cc in absurd (omega arith)), λ h. rw (e, shown_of))
shown_other b false e = (λ h q. never (eqb b mark) (rw (e, shown_of) at q), λ h. (let z : ◌≡◌ {A = ℕ} 0 1 = cc in absurd (omega arith)))
  where
    never : (v : Bool) → ◌≡◌ {A = Shown} (elim v [ true ↦ argument | false ↦ char b ]) before → ⊥
    never true q = let z : ◌≡◌ {A = ℕ} 0 1 = cc in omega arith
    never false q = let z : ◌≡◌ {A = ℕ} 0 1 = cc in omega arith

there : (b : Bool) (x : Shown) → b ≡ true → ◌≡◌ {A = Shown} (elim b [ true ↦ x | false ↦ before ]) x
there b x e = rw e

pub pin_assigned : (sums : List ℕ) (r s : ℕ) → s < signals_most → (flag_at sums r (pins_from + s) ≡ true → (sum_at sums r).pin s ≡ before → ⊥) × (flag_at sums r (pins_from + s) ≡ false → (sum_at sums r).pin s ≡ before)
pin_assigned sums r s h =
    let b = byte_at sums r (pins_from + s) in
    subst (λ (x : Shown). (not (eqb b 0) ≡ true → x ≡ before → ⊥) × (not (eqb b 0) ≡ false → x ≡ before)) (sym (there (ltb s signals_most) (shown_of b) (lt-ltb s signals_most h)))
    (shown_other b (eqb b 0) refl)
