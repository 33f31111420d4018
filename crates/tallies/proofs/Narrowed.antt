-- A loop over the tables, after which only those are fine that pass a test.
use Prim.Native.Nat.{ℕ, ◌+◌, ◌≤◌, ◌<◌}
use native.Mathlib.Omega.{arith}
use mathlib.Core.Path.{◌≡◌, refl}
use mathlib.Core.Bool.{true}
use mathlib.Core.List.{List}
use lib.Dec.{ltb}
use borrow.Author.Count.{below_more}
use borrow.Author.Tests.{ltb-true}
use Rattle.tokens.proofs.Bools.{both}
use Rattle.meaning.specs.Bounds.{tables_most}
use Rattle.tallies.specs.Rows.{fine_from, flag_at, sum_at, Stored, More}
use Rattle.tallies.proofs.Stored.{flag_is, flag_was}
use Rattle.tallies.proofs.Grown.{more_then, more_unfine}

-- of the first k tables, those that are fine have P
pub record Narrowed (P : ℕ → Type 0) (r k : ℕ) (sums sums' : List ℕ) : Type 0 where
  pub more : More r sums sums'
  pub each : (j : ℕ) → j < k → flag_at sums' r (fine_from + j) ≡ true → P j

module _ {P : ℕ → Type 0} {r : ℕ} {sums : List ℕ} where
  module _ {k : ℕ} {sums' : List ℕ} (x : Narrowed P r k sums sums') where
    pub narrowed_passed : P k → Narrowed P r (k + 1) sums sums'
    narrowed_passed p =
        record { more = x.more; each = below_more (λ j. flag_at sums' r (fine_from + j) ≡ true → P j) k x.each (λ e. p) }

    pub narrowed_failed : {sums'' : List ℕ} → k < tables_most → Stored r (fine_from + k) 0 sums' sums'' → Narrowed P r (k + 1) sums sums''
    narrowed_failed {sums''} h y =
        record {
          more = more_then x.more (more_unfine y (omega arith) (omega arith));
          each = below_more (λ j. flag_at sums'' r (fine_from + j) ≡ true → P j) k (λ j l e. x.each j l (flag_was y (fine_from + j) refl e))
              (λ e. absurd (flag_is e y.here));
        }

    pub narrowed_all : tables_most ≤ k → (j : ℕ) → (sum_at sums' r).fine j ≡ true → P j
    narrowed_all l j e = let b = both (ltb j tables_most) (flag_at sums' r (fine_from + j)) e in x.each j (omega (arith, ltb-true j tables_most b.0)) b.1
