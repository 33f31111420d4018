-- Loops over the signals: what is said of each holds for the first s of them, and the rest is as it was.
use Prim.Native.Nat.{ℕ, ◌+◌, ◌≤◌, ◌<◌}
use native.Mathlib.Omega.{arith}
use mathlib.Core.Path.{◌≡◌, refl, sym, ◌∙◌, subst}
use mathlib.Core.Bool.{Bool, true, false}
use mathlib.Core.List.{List}
use lib.Dec.{eqb, ltb}
use lib.ListN.{length, get_or, set, length-set}
use lib.Seq.{get_or-set_same, get_or-set_other}
use borrow.Author.Tests.{eqb-true, eqb-false, ltb-true, ltb-false}
use Rattle.meaning.specs.Bounds.{signals_most}
use Rattle.feeds.specs.declared.Feed.{Feed}
use Rattle.pins.specs.Shown.{feed_at, Fills}

-- what holds of each below s, and of s
pub below_next : {P : ℕ → Type 0} (s : ℕ) → ((k : ℕ) → k < s → P k) → P s → (k : ℕ) → k < s + 1 → P k
below_next {P} s h p k l = by (eqb s k) refl
  where
    by : (z : Bool) → eqb s k ≡ z → P k
    by true e = subst P (eqb-true s k e) p
    by false e = let o = eqb-false s k e in h k (omega arith)

-- ---- numbers in front

pub record Done (Q : ℕ → ℕ → Type 0) (s : ℕ) (before values : List ℕ) : Type 0 where
  pub long : length values ≡ length before
  pub each : (k : ℕ) → k < s → Q k (get_or values k 0)
  pub rest : (i : ℕ) → s ≤ i → get_or values i 0 ≡ get_or before i 0

module _ {Q : ℕ → ℕ → Type 0} {before : List ℕ} where
  pub done_none : Done Q 0 before before
  done_none = record { long = refl; each = λ k h. absurd (omega arith); rest = λ i h. refl }

  module _ {s : ℕ} {values : List ℕ} (x : Done Q s before values) where
    pub done_next : (v : ℕ) → s < length values → Q s v → Done Q (s + 1) before (set values s v)
    done_next v inside q =
        record {
          long = length-set values s v ∙ x.long;
          each = below_next {P = λ k. Q k (get_or (set values s v) k 0)} s
              (λ k h. subst (Q k) (sym (get_or-set_other values s k v 0 (λ z. omega arith))) (x.each k h))
              (subst (Q s) (sym (get_or-set_same values s v 0 inside)) q);
          rest = λ i h. get_or-set_other values s i v 0 (λ z. omega arith) ∙ x.rest i (omega arith);
        }

    -- it is so already
    pub done_same : Q s (get_or before s 0) → Done Q (s + 1) before values
    done_same q =
        record {
          long = x.long;
          each = below_next {P = λ k. Q k (get_or values k 0)} s x.each (subst (Q s) (sym (x.rest s (omega arith))) q);
          rest = λ i h. x.rest i (omega arith);
        }

-- ---- feeds of a level

pub record Refilled (P : ℕ → Feed → Type 0) (level s : ℕ) (before feeds : List ℕ) : Type 0 where
  pub long : length feeds ≡ length before
  pub each : (k : ℕ) → k < s → P k (feed_at feeds level k)
  pub rest : (k : ℕ) → s ≤ k → k < signals_most → feed_at feeds level k ≡ feed_at before level k
  pub others : (l k : ℕ) → k < signals_most → (l ≡ level → ⊥) → feed_at feeds l k ≡ feed_at before l k

module _ {P : ℕ → Feed → Type 0} {level : ℕ} {before : List ℕ} where
  pub refilled_none : Refilled P level 0 before before
  refilled_none = record { long = refl; each = λ k h. absurd (omega arith); rest = λ k h b. refl; others = λ l k b o. refl }

  module _ {s : ℕ} {feeds : List ℕ} (x : Refilled P level s before feeds) (below : s < signals_most) where
    pub refilled_next : {f : Feed} {feeds' : List ℕ} → Fills feeds level s f feeds' → P s f → Refilled P level (s + 1) before feeds'
    refilled_next {f} {feeds'} w p =
        record {
          long = w.long ∙ x.long;
          each = below_next {P = λ k. P k (feed_at feeds' level k)} s (λ k h. subst (P k) (sym (w.others level k (λ z. omega arith))) (x.each k h))
              (subst (P s) (sym w.here) p);
          rest = λ k h b. w.others level k (λ z. omega arith) ∙ x.rest k (omega arith) b;
          others = λ l k b o. w.others l k (λ z. o (omega arith)) ∙ x.others l k b o;
        }

    pub refilled_same : P s (feed_at before level s) → Refilled P level (s + 1) before feeds
    refilled_same p =
        record {
          long = x.long;
          each = below_next {P = λ k. P k (feed_at feeds level k)} s x.each (subst (P s) (sym (x.rest s (omega arith) below)) p);
          rest = λ k h b. x.rest k (omega arith) b;
          others = x.others;
        }

  pub refilled_rest : {s : ℕ} {feeds : List ℕ} → Refilled P level s before feeds → ((k : ℕ) → s ≤ k → P k (feed_at before level k)) → Refilled P level signals_most before feeds
  refilled_rest {s} {feeds} x p = record { long = x.long; each = λ k h. by k h (ltb k s) refl; rest = λ k h b. absurd (omega arith); others = x.others }
    where
      by : (k : ℕ) → k < signals_most → (z : Bool) → ltb k s ≡ z → P k (feed_at feeds level k)
      by k h true z = x.each k (ltb-true k s z)
      by k h false z = subst (P k) (sym (x.rest k (ltb-false k s z) h)) (p k (ltb-false k s z))
