-- Signals that are looked at together: where none of them has anything, each of them fits.
use Prim.Native.Nat.{ℕ, ◌+◌, ◌-◌, ◌≤◌, ◌<◌}
use native.Mathlib.Omega.{arith}
use mathlib.Core.Path.{◌≡◌, refl, sym, ◌∙◌, subst}
use mathlib.Core.Bool.{Bool, true, false, true≢false}
use mathlib.Core.List.{List}
use lib.Dec.{ltb}
use lib.ListN.{get_or}
use borrow.Author.Tests.{eq-eqb, ltb-true, ltb-false}
use Rattle.meaning.specs.Bounds.{signals_most}
use Rattle.meaning.specs.Body.{Args, Body}
use Rattle.measures.specs.Uses.{Uses}
use Rattle.arguments.specs.Supplied.{Supplied, block_size, Idle, BlockFits, fits_at}
use Rattle.arguments.proofs.Counted.{fits_unused}

module _ {b : Body} {xs : Args} (t from : ℕ) where
  pub block_each : ((k : ℕ) → k < block_size → fits_at b xs t (from + k) ≡ true) → BlockFits b xs t from true
  block_each h = record { each = λ e. h; other = λ e. absurd (true≢false e) }

  pub block_not : (s : ℕ) → fits_at b xs t s ≡ false → BlockFits b xs t from false
  block_not s h = record { each = λ e. absurd (true≢false (sym e)); other = λ e. (s, h) }

  pub block_idle : {text row given args : List ℕ} → Uses b row → Supplied text xs given args → from + block_size ≤ signals_most → Idle row given from block_size
      → BlockFits b xs t from true
  block_idle {row = row} uses sup h i = block_each (λ k l. one k l)
    where
      one : (k : ℕ) → k < block_size → fits_at b xs t (from + k) ≡ true
      one k l =
          let u = eq-eqb (get_or row (from + k) 0) 0 (i.unused k l) in
          let s = eq-eqb (get_or row (signals_most + (from + k)) 0) 0 (i.unshifted k l) in
          sym (sym (rw (u, s)) ∙ fits_unused uses sup (from + k) (omega arith) t (i.ungiven k l))

-- those of one block more
pub blocks_more : {P : ℕ → Type 0} (s : ℕ) → ((k : ℕ) → k < s → P k) → ((k : ℕ) → k < block_size → P (s + k)) → (k : ℕ) → k < s + block_size → P k
blocks_more {P} s before here k l = by (ltb k s) refl
  where
    by : (x : Bool) → ltb k s ≡ x → P k
    by true e = before k (ltb-true k s e)
    by false e =
        let h = ltb-false k s e in
        let q : s + (k - s) ≡ k = omega arith in
        subst P q (here (k - s) (omega arith))
