-- Characters that are marked before the first that is not: of one word behind another, of a word that is said several times, and of a feed.
use Prim.Native.Nat.{ℕ, zero, suc, ◌+◌, ◌*◌, ◌-◌, ◌≤◌, ◌<◌, min}
use native.Mathlib.Omega.{arith}
use native.Mathlib.Nat.{zero-mul, mul-zero, suc-mul}
use mathlib.Core.Path.{◌≡◌, refl, sym, ap, ◌∙◌}
use mathlib.Core.Bool.{Bool, true, false}
use mathlib.Core.List.{List, [], ◌∷◌, ◌++◌, append_assoc}
use lib.Dec.{eqb}
use lib.ListN.{length, get_or, drop, get_or-eq_default}
use borrow.Author.Tests.{eq-eqb, ne_eqb, eqb-true}
use Rattle.meaning.specs.Data.{stretched}
use Rattle.meaning.specs.Run.{next}
use Rattle.words.specs.Cursor.{span}
use Rattle.words.proofs.Words.{span_none}
use Rattle.feeds.specs.declared.Feed.{Feed}
use Rattle.feeds.specs.Feeds.{Feeds, front, Fine}
use Rattle.feeds.proofs.Spans.{span_length, span_cut}
use Rattle.feeds.proofs.Passing.{feeds_within}

module _ (marks : List ℕ) where
  front_most_lem : (l : List ℕ) → front marks l ≤ length l
  unfolding front
  front_most_lem [] = omega arith
  front_most_lem (c ∷ l) = by (eqb (get_or marks c 0) 1) (front_most_lem l)
    where
      by : (b : Bool) → front marks l ≤ length l → (elim b [ true ↦ suc (front marks l) | false ↦ 0 ]) ≤ suc (length l)
      by true h = omega arith
      by false h = omega arith

  -- all of them, and then those behind them
  front_all : (l r : List ℕ) → front marks l ≡ length l → front marks (l ++ r) ≡ length l + front marks r
  unfolding front
  front_all [] r h = omega arith
  front_all (c ∷ l) r h = by (eqb (get_or marks c 0) 1) h (front_all l r)
    where
      by : (b : Bool) → ◌≡◌ {A = ℕ} (elim b [ true ↦ suc (front marks l) | false ↦ 0 ]) (suc (length l)) → (front marks l ≡ length l → front marks (l ++ r) ≡ length l + front marks r)
          → ◌≡◌ {A = ℕ} (elim b [ true ↦ suc (front marks (l ++ r)) | false ↦ 0 ]) (suc (length l) + front marks r)
      by true h ih = omega (arith, ih (omega arith))
      by false h ih = absurd (omega arith)

  -- or those before one that is not marked
  front_some : (l r : List ℕ) → front marks l < length l → front marks (l ++ r) ≡ front marks l
  unfolding front
  front_some [] r h = absurd (omega arith)
  front_some (c ∷ l) r h = by (eqb (get_or marks c 0) 1) h (front_some l r)
    where
      by : (b : Bool) → (elim b [ true ↦ suc (front marks l) | false ↦ 0 ]) < suc (length l) → (front marks l < length l → front marks (l ++ r) ≡ front marks l)
          → ◌≡◌ {A = ℕ} (elim b [ true ↦ suc (front marks (l ++ r)) | false ↦ 0 ]) (elim b [ true ↦ suc (front marks l) | false ↦ 0 ])
      by true h ih = ap suc (ih (omega arith))
      by false h ih = refl

  -- a word said n times
  front_times : (n : ℕ) (w : List ℕ) → front marks w ≡ length w → front marks (stretched n w) ≡ n * length w
  unfolding stretched front
  front_times zero w h = sym (zero-mul (length w))
  front_times (suc n) w h = omega (arith, front_all w (stretched n w) h, front_times n w h, suc-mul n (length w))

  front_first : (n : ℕ) (w : List ℕ) → (n ≡ 0 → ⊥) → front marks w < length w → front marks (stretched n w) ≡ front marks w
  unfolding stretched
  front_first zero w o h = absurd (o refl)
  front_first (suc n) w o h = front_some w (stretched n w) h

  -- each of them is marked, whatever stands behind them
  front_each : (l r : List ℕ) (i : ℕ) → i < front marks l → get_or marks (next (drop i (l ++ r))) 0 ≡ 1
  unfolding front next
  front_each [] r i h = absurd (omega arith)
  front_each (c ∷ l) r i h = by (eqb (get_or marks c 0) 1) refl i h (front_each l r)
    where
      by : (b : Bool) → eqb (get_or marks c 0) 1 ≡ b → (i : ℕ) → i < (elim b [ true ↦ suc (front marks l) | false ↦ 0 ])
          → ((i : ℕ) → i < front marks l → get_or marks (next (drop i (l ++ r))) 0 ≡ 1) → get_or marks (next (drop i (c ∷ (l ++ r)))) 0 ≡ 1
      by true e zero h ih = eqb-true (get_or marks c 0) 1 e
      by true e (suc i) h ih = ih i (omega arith)
      by false e i h ih = absurd (omega arith)

  -- ---- in the text

  -- behind the marks there is none
  pub unmarked_past : (c : ℕ) → length marks ≤ c → get_or marks c 0 ≡ 1 → ⊥
  unmarked_past c h e = let z : ◌≡◌ {A = ℕ} 0 1 = sym (get_or-eq_default marks 0 h) ∙ e in omega arith

  front_one : (c : ℕ) (cs : List ℕ) → get_or marks c 0 ≡ 1 → front marks (c ∷ cs) ≡ suc (front marks cs)
  unfolding front
  front_one c cs e = rw (eq-eqb _ _ e, front)

  front_other : (c : ℕ) (cs : List ℕ) → (get_or marks c 0 ≡ 1 → ⊥) → front marks (c ∷ cs) ≡ 0
  unfolding front
  front_other c cs e = rw (ne_eqb _ _ e, front)

  module _ (text : List ℕ) (i end : ℕ) (h : i < end) (k : end ≤ length text) where
    pub front_next : get_or marks (get_or text i 0) 0 ≡ 1 → front marks (span text i end) ≡ suc (front marks (span text (i + 1) end))
    front_next e = ap (front marks) (span_cut text i end h k) ∙ front_one (get_or text i 0) (span text (i + 1) end) e

    pub front_here : (get_or marks (get_or text i 0) 0 ≡ 1 → ⊥) → front marks (span text i end) ≡ 0
    front_here e = ap (front marks) (span_cut text i end h k) ∙ front_other (get_or text i 0) (span text (i + 1) end) e

  pub front_end : (text : List ℕ) (i end : ℕ) → end ≤ i → front marks (span text i end) ≡ 0
  unfolding front
  front_end text i end h = ap (front marks) (span_none text i end h)

  module _ (text : List ℕ) (from end : ℕ) (k : end ≤ length text) where
    pub span_most : front marks (span text from end) ≤ end - from
    span_most = omega (arith, front_most_lem (span text from end), span_length text from end k)

    pub times_some : {n : ℕ} (times : ℕ) → (times ≡ 0 → ⊥) → n ≡ front marks (span text from end) → n < end - from
        → front marks (stretched times (span text from end)) ≡ n
    times_some times o e h =
        front_first times (span text from end) o (omega (arith, span_length text from end k)) ∙ sym e

    pub times_all : {n : ℕ} (times : ℕ) → n ≡ front marks (span text from end) → end - from ≤ n
        → front marks (stretched times (span text from end)) ≡ times * (end - from)
    times_all times e h =
        let l = span_length text from end k in
        front_times times (span text from end) (omega (arith, l, span_most)) ∙ ap (λ (z : ℕ). times * z) l

  pub times_none : (times : ℕ) (w : List ℕ) → times ≡ 0 → front marks (stretched times w) ≡ 0
  unfolding stretched front
  times_none times w e = ap (λ (n : ℕ). front marks (stretched n w)) e

-- ---- a feed

-- this time of its word, and the times behind it
abbrev word : List ℕ → Feed → List ℕ
word text f = span text f.at f.end

abbrev again : List ℕ → Feed → List ℕ
again text f = stretched f.left (span text f.from f.end)

-- all of this time are marked
all_here : (text : List ℕ) (f : Feed) (marks : List ℕ) {n : ℕ} → f.end ≤ length text → n ≡ front marks (word text f) → f.end - f.at ≤ n
    → front marks (word text f ++ again text f) ≡ n + front marks (again text f)
all_here text f marks k e h =
    let l = span_length text f.at f.end k in
    let fits = span_most marks text f.at f.end k in
    omega (arith, l, front_all marks (word text f) (again text f) (omega arith))

module _ {text : List ℕ} {f : Feed} {marks : List ℕ} {most : ℕ} where
  pub fine_none : f.end ≤ f.at → Fine text f marks most 0
  unfolding front stretched
  fine_none h =
      record {
        few = omega arith;
        is = λ cs x. (let e = none x in omega (arith, e));
      }
    where
      left_none : {cs : List ℕ} → Feeds text f cs → (n : ℕ) → f.left ≡ n → n ≡ 0
      left_none x zero e = refl
      left_none x (suc n) e = absurd (omega (arith, (x.again (omega arith)).0))

      none : {cs : List ℕ} → Feeds text f cs → front marks (word text f ++ again text f) ≡ 0
      none x = rw (span_none text f.at f.end h, left_none x f.left refl)

  pub fine_outside : length text < f.end → Fine text f marks most 0
  fine_outside h = record { few = omega arith; is = λ cs x. absurd (omega (arith, feeds_within x)) }

  module _ {n : ℕ} (k : f.end ≤ length text) (e : n ≡ front marks (word text f)) where
    pub fine_some : {r : ℕ} → n < f.end - f.at → r ≡ min most n → Fine text f marks most r
    fine_some h g =
        record {
          few = omega arith;
          is = λ cs x. omega (arith, front_some marks (word text f) (again text f) (omega (arith, span_length text f.at f.end k)));
        }

    module _ (h : f.end - f.at ≤ n) where
      pub fine_most : most ≤ n → Fine text f marks most most
      fine_most g = record { few = omega arith; is = λ cs x. omega (arith, all_here text f marks k e h) }

      pub fine_once : n < most → f.end ≤ f.from → Fine text f marks most n
      unfolding front
      fine_once g b =
          let none = ap (λ (w : List ℕ). front marks (stretched f.left w)) (span_none text f.from f.end b) ∙ front_times marks f.left [] refl ∙ mul-zero f.left in
          record { few = omega arith; is = λ cs x. omega (arith, all_here text f marks k e h, none) }

      pub fine_again : {r : ℕ} → n < most → r ≡ min (most - n) (front marks (again text f)) → Fine text f marks most (n + r)
      fine_again g q = record { few = omega arith; is = λ cs x. omega (arith, all_here text f marks k e h) }

-- what it says of the characters that are left
pub fine_each : {text : List ℕ} {f : Feed} {marks : List ℕ} {most n : ℕ} → Fine text f marks most n → (cs : List ℕ) → Feeds text f cs → (i : ℕ) → i < n
    → get_or marks (next (drop i cs)) 0 ≡ 1
fine_each {text} {f} {marks} {most} {n} y cs x i h =
    let w = span text f.at f.end in
    let v = stretched f.left (span text f.from f.end) in
    ap (λ (l : List ℕ). get_or marks (next (drop i l)) 0) (x.is ∙ sym (append_assoc w v x.rest))
    ∙ front_each marks (w ++ v) x.rest i (omega (arith, y.is cs x))
