-- A loop over places of a list, each changed in its turn.
use Prim.Native.Nat.{ℕ, ◌+◌, ◌-◌, ◌≤◌, ◌<◌}
use native.Mathlib.Omega.{arith}
use mathlib.Core.Path.{◌≡◌, refl, sym, ap, ◌∙◌, subst}
use mathlib.Core.Bool.{Bool, true, false}
use mathlib.Core.List.{List}
use lib.Dec.{ltb, eqb}
use lib.ListN.{length, get_or, set, length-set}
use lib.Seq.{get_or-set_same, get_or-set_other, set-get_or}
use borrow.Author.Tests.{ltb-true, ltb-false, eqb-true, eqb-false}

-- of the places from `base` on, the first s hold what f made of what was there; all others are as they were
pub record Changed (f : ℕ → ℕ → ℕ) (base s : ℕ) (before list : List ℕ) : Type 0 where
  pub long : length list ≡ length before
  pub changed : (k at : ℕ) → at ≡ base + k → k < s → get_or list at 0 ≡ f k (get_or before at 0)
  pub ahead : (k : ℕ) → k < base → get_or list k 0 ≡ get_or before k 0
  pub behind : (k : ℕ) → base + s ≤ k → get_or list k 0 ≡ get_or before k 0

module _ {f : ℕ → ℕ → ℕ} {base : ℕ} {before : List ℕ} where
  pub changed_none : Changed f base 0 before before
  changed_none = record { long = refl; changed = λ k at e h. absurd (omega arith); ahead = λ k h. refl; behind = λ k h. refl }

  module _ {s : ℕ} {list : List ℕ} (x : Changed f base s before list) (at : ℕ) (here : at ≡ base + s) where
    pub changed_next : (v : ℕ) → at < length list → v ≡ f s (get_or list at 0) → Changed f base (s + 1) before (set list at v)
    changed_next v inside e =
        record {
          long = length-set list at v ∙ x.long;
          changed = λ k j q h. by k j q h (eqb k s) refl;
          ahead = λ k h. get_or-set_other list at k v 0 (λ z. omega arith) ∙ x.ahead k h;
          behind = λ k h. get_or-set_other list at k v 0 (λ z. omega arith) ∙ x.behind k (omega arith);
        }
      where
        by : (k j : ℕ) → j ≡ base + k → k < s + 1 → (z : Bool) → eqb k s ≡ z → get_or (set list at v) j 0 ≡ f k (get_or before j 0)
        by k j q h true z =
            let o : k ≡ s = eqb-true k s z in
            let p : j ≡ at = omega arith in
            rw (p, o) (get_or-set_same list at v 0 inside ∙ e ∙ ap (f s) (x.behind at (omega arith)))
        by k j q h false z =
            let o : k ≡ s → ⊥ = eqb-false k s z in
            get_or-set_other list at j v 0 (λ p. o (omega arith)) ∙ x.changed k j q (omega arith)

    -- where f changes nothing, nothing is written
    pub changed_same : at < length list → f s (get_or list at 0) ≡ get_or list at 0 → Changed f base (s + 1) before list
    changed_same inside e =
        subst (Changed f base (s + 1) before) (set-get_or list at 0) (changed_next (get_or list at 0) inside (sym e))

-- where f changes nothing from s on, nothing is left to write
pub changed_rest : {f : ℕ → ℕ → ℕ} {base s : ℕ} {before list : List ℕ} → Changed f base s before list → (e : ℕ) → s ≤ e → ((k n : ℕ) → s ≤ k → f k n ≡ n)
    → Changed f base e before list
changed_rest {f} {base} {s} {before} {list} x e l same = record { long = x.long; changed = λ k at q h. by k at q (ltb k s) refl; ahead = x.ahead; behind = λ k h. x.behind k (omega arith) }
  where
    by : (k at : ℕ) → at ≡ base + k → (z : Bool) → ltb k s ≡ z → get_or list at 0 ≡ f k (get_or before at 0)
    by k at q true z = x.changed k at q (ltb-true k s z)
    by k at q false z = x.behind at (omega (arith, ltb-false k s z)) ∙ sym (same k (get_or before at 0) (ltb-false k s z))

-- a place that is none of those
pub not_changed : {f : ℕ → ℕ → ℕ} {base s : ℕ} {before list : List ℕ} → Changed f base s before list → (at : ℕ)
    → ((k : ℕ) → k < s → at ≡ base + k → ⊥) → get_or list at 0 ≡ get_or before at 0
not_changed {f} {base} {s} {before} {list} x at h = by (ltb at base) (ltb at (base + s)) refl refl
  where
    by : (a b : Bool) → ltb at base ≡ a → ltb at (base + s) ≡ b → get_or list at 0 ≡ get_or before at 0
    by true b p q = x.ahead at (ltb-true at base p)
    by false true p q =
        let above = ltb-false at base p in
        let inside = ltb-true at (base + s) q in
        absurd (h (at - base) (omega arith) (omega arith))
    by false false p q = x.behind at (ltb-false at (base + s) q)
