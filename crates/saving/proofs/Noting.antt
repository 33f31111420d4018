-- Spans noted one by one are all of them noted; and where there is room for all, their numbers stand at the front.
use Prim.Native.Nat.{ℕ, zero, suc, ◌+◌, ◌*◌, ◌≤◌, ◌<◌}
use native.Mathlib.Omega.{arith}
use mathlib.Core.Path.{◌≡◌, refl, sym, ap}
use mathlib.Core.Option.{none, some}
use mathlib.Core.List.{List, [], ◌∷◌, ◌++◌}
use lib.ListN.{length, drop, set}
use Rattle.saving.specs.Saving.{Span, numbers_of}
use Rattle.saving.specs.Spans.{noted, noted_all, Notes}

-- ---- one store after the other

pub noted_stores : (k : ℕ) (s : Span) (l : List ℕ) → k * 2 + 1 < length l → set (set l (k * 2) s.first) (k * 2 + 1) s.behind ≡ noted k s l
unfolding noted
noted_stores k s [] h = absurd (omega arith)
noted_stores k s (a ∷ []) h = absurd (omega arith)
noted_stores zero s (a ∷ b ∷ l) h = refl
noted_stores (suc k) s (a ∷ b ∷ l) h =
    let i : suc k * 2 ≡ suc (suc (k * 2)) = omega arith in
    let j : suc k * 2 + 1 ≡ suc (suc (k * 2 + 1)) = omega arith in
    rw (j, i) (ap (λ (x : List ℕ). a ∷ b ∷ x) (noted_stores k s l (omega arith)))

pub noted_full : (k : ℕ) (s : Span) (l : List ℕ) → length l ≤ k * 2 + 1 → noted k s l ≡ l
unfolding noted
noted_full k s [] h = refl
noted_full k s (a ∷ []) h = refl
noted_full zero s (a ∷ b ∷ l) h = absurd (omega arith)
noted_full (suc k) s (a ∷ b ∷ l) h = ap (λ (x : List ℕ). a ∷ b ∷ x) (noted_full k s l (omega arith))

pub noted_length : (k : ℕ) (s : Span) (l : List ℕ) → length (noted k s l) ≡ length l
unfolding noted
noted_length k s [] = refl
noted_length k s (a ∷ []) = refl
noted_length zero s (a ∷ b ∷ l) = refl
noted_length (suc k) s (a ∷ b ∷ l) = ap (λ (n : ℕ). suc (suc n)) (noted_length k s l)

-- ---- one span after the other

pub noted_more : (spans : List Span) (s : Span) (l : List ℕ) → noted (length spans) s (noted_all spans l) ≡ noted_all (spans ++ s ∷ []) l
unfolding noted noted_all
noted_more [] s [] = refl
noted_more [] s (a ∷ []) = refl
noted_more [] s (a ∷ b ∷ l) = refl
noted_more (t ∷ spans) s [] = refl
noted_more (t ∷ spans) s (a ∷ []) = refl
noted_more (t ∷ spans) s (a ∷ b ∷ l) = ap (λ (x : List ℕ). t.first ∷ t.behind ∷ x) (noted_more spans s l)

pub all_length : (spans : List Span) (l : List ℕ) → length (noted_all spans l) ≡ length l
unfolding noted_all
all_length [] l = refl
all_length (s ∷ spans) [] = refl
all_length (s ∷ spans) (a ∷ []) = refl
all_length (s ∷ spans) (a ∷ b ∷ l) = ap (λ (n : ℕ). suc (suc n)) (all_length spans l)

pub numbers_length : (spans : List Span) → length (numbers_of spans) ≡ length spans * 2
unfolding numbers_of
numbers_length [] = refl
numbers_length (s ∷ spans) = omega (arith, numbers_length spans)

-- THE LAW: where there is room for all
pub all_front : (spans : List Span) (l : List ℕ) → length spans * 2 ≤ length l → noted_all spans l ≡ numbers_of spans ++ drop (length (numbers_of spans)) l
unfolding noted_all numbers_of
all_front [] l h = refl
all_front (s ∷ spans) [] h = absurd (omega arith)
all_front (s ∷ spans) (a ∷ []) h = absurd (omega arith)
all_front (s ∷ spans) (a ∷ b ∷ l) h = ap (λ (x : List ℕ). s.first ∷ s.behind ∷ x) (all_front spans l (omega arith))

-- ---- what the code notes

pub notes_nothing : (k : ℕ) (l : List ℕ) → Notes k none l k l
notes_nothing k l = record { counted = refl; numbers = refl }

module _ (k : ℕ) (s : Span) (l : List ℕ) where
  pub notes_stored : k * 2 + 1 < length l → Notes k (some s) l (k + 1) (set (set l (k * 2) s.first) (k * 2 + 1) s.behind)
  notes_stored r = record { counted = omega arith; numbers = noted_stores k s l r }

  pub notes_full : length l ≤ k * 2 + 1 → Notes k (some s) l (k + 1) l
  notes_full r = record { counted = omega arith; numbers = sym (noted_full k s l r) }
