-- The row of a level: the pins go there and come back, one signal at a time.
use Prim.Native.Nat.{ℕ, ◌+◌, ◌*◌, ◌≤◌, ◌<◌}
use native.Mathlib.Omega.{arith}
use mathlib.Core.Path.{◌≡◌, ◌∙◌}
use mathlib.Core.List.{List}
use lib.ListN.{length, get_or, set, length-set}
use lib.Seq.{get_or-set_same, get_or-set_other}
use Rattle.meaning.specs.Bounds.{signals_most}
use Rattle.pins.specs.Shown.{Leaves, Returns}
use Rattle.pins.proofs.Turns.{below_next, Done}

-- ---- they go: the first s are in the row, and unassigned

pub record Leaving (at s : ℕ) (before values : List ℕ) : Type 0 where
  pub long : length values ≡ length before
  pub cleared : (k : ℕ) → k < s → get_or values k 0 ≡ 0
  pub kept : (k : ℕ) → k < s → get_or values (at + k) 0 ≡ get_or before k 0
  pub ahead : (i : ℕ) → s ≤ i → i < at → get_or values i 0 ≡ get_or before i 0
  pub behind : (i : ℕ) → at + s ≤ i → get_or values i 0 ≡ get_or before i 0

pub leaving_next : {at s : ℕ} {before values : List ℕ} → Leaving at s before values → s < at → at + s < length values
    → Leaving at (s + 1) before (set (set values (at + s) (get_or values s 0)) s 0)
leaving_next {at} {s} {before} {values} x below inside =
    let row = set values (at + s) (get_or values s 0) in
    let long = length-set values (at + s) (get_or values s 0) in
    let other : (i : ℕ) → (i ≡ at + s → ⊥) → (i ≡ s → ⊥) → get_or (set row s 0) i 0 ≡ get_or values i 0 =
    λ i p q. get_or-set_other row s i 0 0 q ∙ get_or-set_other values (at + s) i (get_or values s 0) 0 p in
    record {
      long = length-set row s 0 ∙ long ∙ x.long;
      cleared = below_next {P = λ k. get_or (set row s 0) k 0 ≡ 0} s (λ k h. other k (λ z. omega arith) (λ z. omega arith) ∙ x.cleared k h)
          (get_or-set_same row s 0 0 (omega arith));
      kept = below_next {P = λ k. get_or (set row s 0) (at + k) 0 ≡ get_or before k 0} s
          (λ k h. other (at + k) (λ z. omega arith) (λ z. omega arith) ∙ x.kept k h)
          (get_or-set_other row s (at + s) 0 0 (λ z. omega arith) ∙ get_or-set_same values (at + s) (get_or values s 0) 0 inside
          ∙ x.ahead s (omega arith) below);
      ahead = λ i h l. other i (λ z. omega arith) (λ z. omega arith) ∙ x.ahead i (omega arith) l;
      behind = λ i h. other i (λ z. omega arith) (λ z. omega arith) ∙ x.behind i (omega arith);
    }

pub leaving_all : {level s : ℕ} {before values : List ℕ} → s ≡ signals_most → Leaving ((level + 1) * signals_most) s before values → Leaves level before values
leaving_all e x =
    record {
      long = x.long;
      cleared = λ k h. x.cleared k (omega arith);
      kept = λ k h. x.kept k (omega arith);
      lower = λ i h l. x.ahead i (omega arith) l;
      upper = λ i h. x.behind i (omega arith);
    }

-- ---- they come back

-- signal k shows what the row has
abbrev pub Back : List ℕ → ℕ → ℕ → ℕ → Type 0
Back before at k v = v ≡ get_or before (at + k) 0

pub back_all : {level s : ℕ} {before values : List ℕ} → s ≡ signals_most → Done (Back before ((level + 1) * signals_most)) s before values
    → Returns level before values
back_all e x = record { long = x.long; back = λ k h. x.each k (omega arith); rows = λ i h. x.rest i (omega arith) }
