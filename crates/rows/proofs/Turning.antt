-- A Loop's later turns: how many rows of them there are, the room for those, and what going through them makes of the walk and its buffer.
use Prim.Native.Nat.{ℕ, ◌+◌, ◌*◌, ◌-◌, ◌^◌, ◌≤◌, ◌<◌, min}
use native.Mathlib.Nat.{sub-zero, add-mul, mul-le-mul_left, mul-le-mul_right}
use native.Mathlib.Omega.{arith}
use mathlib.Core.Path.{◌≡◌, refl, sym, ap, ◌∙◌}
use mathlib.Core.Bool.{false}
use mathlib.Core.List.{List}
use lib.ListN.{length}
use mir.Syntax.{w64}
use mir.Val.{Fits}
use Rattle.meaning.specs.Run.{Cycle}
use Rattle.meaning.specs.Services.{row_width}
use Rattle.meaning.proofs.Turns.{copies}
use Rattle.walks.specs.Seen.{seen}
use Rattle.walks.proofs.Loops.{length_copies}
use Rattle.walks.proofs.Seen.{length_seen}
use Rattle.repeats.specs.Copied.{Extends}
use Rattle.rows.specs.Again.{Again}
use Rattle.rows.specs.declared.Walk.{Walk}
use Rattle.rows.proofs.Repeating.{written_again}

-- ---- room

module _ (signals : ℕ) (w : Walk) (long : ℕ) (room : (w.row + w.show) * row_width signals ≤ long) where
  pub rows_below : (n : ℕ) → n ≤ w.row + w.show → n * (signals + 2) ≤ long
  unfolding row_width
  rows_below n h = omega (arith, mul-le-mul_right {m = n} {n = w.row + w.show} (signals + 2) h)

  pub rows_fit : (n : ℕ) → n ≤ w.row + w.show → long < 2 ^ 64 → Fits w64 (n * (signals + 2))
  rows_fit n h few = record { fits = omega (arith, rows_below n h) }

  pub more_below : (n : ℕ) → n ≤ w.show → w.row * (signals + 2) + n * (signals + 2) ≤ long
  more_below n h = omega (arith, rows_below (w.row + n) (omega arith), add-mul w.row n (signals + 2))

  pub more_fit : (n : ℕ) → n ≤ w.show → long < 2 ^ 64 → Fits w64 (w.row + n)
  more_fit n h few = record {
    fits = omega (arith, rows_below (w.row + n) (omega arith), mul-le-mul_left {m = 1} {n = signals + 2} (w.row + n) (omega arith));
  }

pub some_bytes : (signals n : ℕ) → 0 < n → 0 < n * (signals + 2)
some_bytes signals n h = omega (arith, mul-le-mul_right {m = 1} {n = n} (signals + 2) h)

pub turn_behind : (signals k row : ℕ) → k ≤ row → k * (signals + 2) ≤ row * (signals + 2)
turn_behind signals k row h = mul-le-mul_right (signals + 2) h

-- ---- the turns

copied_count : (n m k : ℕ) (l : List Cycle) → length l ≡ k → length (seen 0 m (copies n l)) ≡ min m (n * k)
copied_count n m k l e = length_seen 0 m (copies n l) ∙ ap (min m) (sub-zero (length (copies n l)) ∙ length_copies n l ∙ ap (λ (k : ℕ). n * k) e)

-- THE TURNS, as far as rows are to be shown
pub turns_again : {signals k : ℕ} (n : ℕ) (w : Walk) {before after : List ℕ} {count : ℕ} → count ≡ min w.show (n * k) → 0 < k
    → (w.row + w.show) * row_width signals ≤ length before → Extends before (w.row * (signals + 2)) (k * (signals + 2)) (count * (signals + 2)) after
    → Again signals k n w (record { pass = 0; row = w.row + count; show = w.show - count; budget = w.budget; walking = false; mark = w.mark }) before after
unfolding row_width
turns_again {signals} {k} n w {before} {after} {count} e some room x = record {
  pass = refl;
  row = ap (λ (i : ℕ). w.row + i) e;
  show = ap (λ (i : ℕ). w.show - i) e;
  budget = refl;
  walking = refl;
  marked = refl;
  written = λ entry ds l turn wide all y.
      written_again ds l y wide x (more_below signals w (length before) room count (omega arith)) (ap (λ (i : ℕ). i * (signals + 2)) (sym all))
      (ap (λ (i : ℕ). i * (signals + 2)) (sym turn)) (some_bytes signals k some) n w.show
      (ap (λ (i : ℕ). i * (signals + 2)) (e ∙ sym (copied_count n w.show k l turn)));
  long = x.long;
}
