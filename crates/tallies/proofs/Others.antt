-- A row that is not written has the sum that it had.
use Prim.Native.Nat.{ℕ, ◌+◌, ◌*◌, ◌<◌}
use native.Mathlib.Omega.{arith}
use mathlib.Core.Path.{◌≡◌, refl, ap}
use mathlib.Core.Bool.{Bool, true, false, not, ◌&&◌}
use mathlib.Core.Option.{Option}
use mathlib.Core.List.{List}
use lib.Dec.{ltb, eqb}
use borrow.Author.Tests.{ltb-true}
use Rattle.meaning.specs.Bounds.{signals_most, tables_most}
use Rattle.pins.specs.Shown.{table_of}
use Rattle.sums.specs.Sums.{Sum}
use Rattle.tallies.specs.Rows.{slots, given_from, pins_from, fine_from, bad_place, row_size, flag_at, slot_of, is_slot, sum_at, Only}
use Rattle.tallies.proofs.Stored.{other_row}
use Rattle.tallies.proofs.Grown.{slot_place, pin_alike}

pub record Alike (S R : Sum) : Type 0 where
  pub bad : R.bad ≡ S.bad
  pub needs : R.needs ≡ S.needs
  pub fine : (k : ℕ) → R.fine k ≡ S.fine k
  pub under : (i : ℕ) (t : Option ℕ) → R.under i t ≡ S.under i t
  pub given : (i : ℕ) (t : Option ℕ) → R.given i t ≡ S.given i t
  pub pin : (i : ℕ) → R.pin i ≡ S.pin i
  pub table : R.table ≡ S.table

pub and_alike : (x y z : Bool) → (x ≡ true → y ≡ z) → (x && y) ≡ (x && z)
and_alike true y z f = f refl
and_alike false y z f = refl

pub other_sum : {r : ℕ} {sums sums' : List ℕ} → Only r sums sums' → (q : ℕ) → (q ≡ r → ⊥) → Alike (sum_at sums q) (sum_at sums' q)
other_sum {r} {sums} {sums'} x q d =
    record {
      bad = flag bad_place (omega arith);
      needs = flag (bad_place + 1) (omega arith);
      fine = λ k. and_alike (ltb k tables_most) _ _ (λ e. flag (fine_from + k) (omega (arith, ltb-true k tables_most e)));
      under = λ i t. and_alike (ltb i signals_most && is_slot t) _ _ (λ e. flag (i * slots + slot_of t) (omega (arith, slot_place i t e)));
      given = λ i t. and_alike (ltb i signals_most && is_slot t) _ _ (λ e. flag (given_from + (i * slots + slot_of t)) (omega (arith, slot_place i t e)));
      pin = λ i. pin_alike sums sums' q i (λ h. other_row x q (pins_from + i) d (omega arith));
      table = ap table_of (other_row x q (bad_place + 2) d (omega arith));
    }
  where
    flag : (p : ℕ) → p < row_size → flag_at sums' q p ≡ flag_at sums q p
    flag p h = ap (λ (n : ℕ). not (eqb n 0)) (other_row x q p d h)
