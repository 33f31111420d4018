-- A row of the same bytes holds the same sum.
use Prim.Native.Nat.{ℕ, ◌+◌, ◌*◌, ◌<◌, ◌≤◌}
use native.Mathlib.Omega.{arith}
use mathlib.Core.Path.{◌≡◌, refl, ap}
use mathlib.Core.Bool.{true, not, ◌&&◌}
use mathlib.Core.Option.{Option}
use mathlib.Core.List.{List}
use lib.Dec.{ltb, eqb}
use borrow.Author.Tests.{ltb-true}
use Rattle.tokens.proofs.Bools.{both}
use Rattle.meaning.specs.Bounds.{signals_most, tables_most}
use Rattle.pins.specs.Shown.{table_of}
use Rattle.tallies.specs.Rows.{slots, given_from, pins_from, fine_from, bad_place, row_size, byte_at, flag_at, slot_of, is_slot, sum_at, Only}
use Rattle.tallies.proofs.Stored.{other_row}
use Rattle.tallies.proofs.Grown.{slot_below, pin_alike}
use Rattle.tallies.proofs.Others.{and_alike}

module _ (r : ℕ) (sums sums' : List ℕ) (same : (p : ℕ) → p < row_size → byte_at sums' r p ≡ byte_at sums r p) where
  flag_same : (p : ℕ) → p < row_size → flag_at sums' r p ≡ flag_at sums r p
  flag_same p h = ap (λ (b : ℕ). not (eqb b 0)) (same p h)

  fine_same : (k : ℕ) → (sum_at sums' r).fine k ≡ (sum_at sums r).fine k
  fine_same k = and_alike _ _ _ λ h. flag_same (fine_from + k) (omega (arith, ltb-true k tables_most h))

  slot_same : (i : ℕ) (t : Option ℕ) (from place : ℕ) → from ≤ given_from → place ≡ from + (i * slots + slot_of t)
      → ((ltb i signals_most && is_slot t) && flag_at sums' r place) ≡ ((ltb i signals_most && is_slot t) && flag_at sums r place)
  slot_same i t from place f e = and_alike _ _ _ λ (h : (ltb i signals_most && is_slot t) ≡ true).
      let b = both (ltb i signals_most) (is_slot t) h in
      flag_same place (omega (arith, ltb-true i signals_most b.0, slot_below t b.1))

  pub same_sum : sum_at sums' r ≡ sum_at sums r
  same_sum = λ j. record {
    bad = flag_same bad_place (omega arith) j;
    needs = flag_same (bad_place + 1) (omega arith) j;
    fine = λ k. fine_same k j;
    under = λ i t. slot_same i t 0 (i * slots + slot_of t) (omega arith) (omega arith) j;
    given = λ i t. slot_same i t given_from _ (omega arith) refl j;
    pin = λ i. pin_alike sums sums' r i (λ h. same (pins_from + i) (omega arith)) j;
    table = ap table_of (same (bad_place + 2) (omega arith)) j;
  }

pub other_sum : {r : ℕ} {sums sums' : List ℕ} → Only r sums sums' → (q : ℕ) → (q ≡ r → ⊥) → sum_at sums' q ≡ sum_at sums q
other_sum {sums = sums} {sums' = sums'} o q d = same_sum q sums sums' (λ p h. other_row o q p d h)
