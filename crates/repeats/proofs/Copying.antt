-- Bytes copied to a place behind them, one at a time; and a run of them that repeats the last `step` before a place, each copy as long as all that is there.
use Prim.Native.Nat.{ℕ, ◌+◌, ◌-◌, ◌≤◌, ◌<◌}
use native.Mathlib.Nat.{eq-or-lt_of_le}
use native.Mathlib.Omega.{arith}
use mathlib.Core.Path.{◌≡◌, refl, sym, ap, ◌∙◌}
use mathlib.Core.Logic.{◌⊎◌, inl, inr}
use mathlib.Core.Bool.{Bool, true, false}
use mathlib.Core.List.{List}
use lib.Dec.{ltb}
use lib.ListN.{length, get_or, set, length-set}
use lib.Seq.{get_or-set_same, get_or-set_other}
use borrow.Author.Tests.{ltb-true, ltb-false}
use Rattle.repeats.specs.Copied.{Copies, Extends}

-- ---- a copy

module _ {before list : List ℕ} {from to n : ℕ} (x : Copies before from to n list) where
  -- what is read is as it was
  pub copies_more : from + n < to → to + n < length before → Copies before from to (n + 1) (set list (to + n) (get_or list (from + n) 0))
  copies_more apart room =
      record {
        copied = λ i j e h k. by i j e h (eq-or-lt_of_le {n = i} {m = to + n} (omega arith));
        ahead = λ i h. other i (λ z. omega arith) ∙ x.ahead i h;
        behind = λ i h. other i (λ z. omega arith) ∙ x.behind i (omega arith);
        long = length-set list (to + n) v ∙ x.long;
      }
    where
      v : ℕ
      v = get_or list (from + n) 0

      other : (i : ℕ) → (i ≡ to + n → ⊥) → get_or (set list (to + n) v) i 0 ≡ get_or list i 0
      other i h = get_or-set_other list (to + n) i v 0 h

      by : (i j : ℕ) → i + from ≡ j + to → to ≤ i → (i ≡ to + n) ⊎ (i < to + n) → get_or (set list (to + n) v) i 0 ≡ get_or before j 0
      by i j e h (inl k) =
          let p : from + n ≡ j = omega arith in
          ap (λ (i : ℕ). get_or (set list (to + n) v) i 0) k ∙ get_or-set_same list (to + n) v 0 (omega (arith, x.long)) ∙ x.ahead (from + n) apart
          ∙ ap (λ (j : ℕ). get_or before j 0) p
      by i j e h (inr k) = other i (λ z. omega arith) ∙ x.copied i j e h k

  pub copies_all : (m : ℕ) → n ≡ m → Copies before from to m list
  copies_all m e = rw (← e) x

-- ---- a run that repeats

-- `done` bytes from a place on end as the bytes before that place do: with the last `step` of either
pub record Whole (at step done : ℕ) (list : List ℕ) : Type 0 where
  pub same : (i j : ℕ) → i ≡ j + done → at ≤ j + step → j < at → get_or list i 0 ≡ get_or list j 0

module _ {before : List ℕ} {at step : ℕ} where
  module _ {done run : ℕ} {list after : List ℕ} (below : step ≤ at) (x : Extends before at step done list) (w : Whole at step done list)
      (c : Copies list (at - step) (at + done) run after) where
    -- all that is there is copied
    pub extends_more : run ≤ step + done → Extends before at step (done + run) after
    extends_more few =
        record {
          repeats = λ i j e h k. by i j e h k (ltb i (at + done)) (ltb j (at + done)) refl refl;
          ahead = λ i h. c.ahead i (omega arith) ∙ x.ahead i h;
          behind = λ i h. c.behind i (omega arith) ∙ x.behind i (omega arith);
          long = c.long ∙ x.long;
        }
      where
        -- both are as they were; the first is copied; both are
        by : (i j : ℕ) → i ≡ j + step → at ≤ i → i < at + (done + run) → (p q : Bool) → ltb i (at + done) ≡ p → ltb j (at + done) ≡ q
            → get_or after i 0 ≡ get_or after j 0
        by i j e h k true q f g =
            let inside = ltb-true i (at + done) f in
            c.ahead i inside ∙ x.repeats i j e h inside ∙ sym (c.ahead j (omega arith))
        by i j e h k false true f g =
            let behind = ltb-false i (at + done) f in
            let inside = ltb-true j (at + done) g in
            c.copied i (j - done) (omega arith) behind (omega arith) ∙ sym (w.same j (j - done) (omega arith) (omega arith) (omega arith)) ∙ sym (c.ahead j inside)
        by i j e h k false false f g =
            let behind = ltb-false j (at + done) g in
            c.copied i (j - done) (omega arith) (omega arith) (omega arith) ∙ x.repeats (j - done) (j - done - step) (omega arith) (omega arith) (omega arith)
            ∙ sym (c.copied j (j - done - step) (omega arith) behind (omega arith))

    pub whole_more : run ≡ step + done → Whole at step (done + run) after
    whole_more all = record {
      same = λ i j e h k.
          c.copied i (j + done) (omega arith) (omega arith) (omega arith) ∙ w.same (j + done) j refl h k ∙ sym (c.ahead j (omega arith));
    }
