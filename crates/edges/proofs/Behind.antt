-- Rows of cycles one behind the other: which cycle comes last, and which pair fails first. A row again and again fails in its first turn, or
-- where it follows itself.
use mathlib.Core.Path.{◌≡◌, refl, ap, ◌∙◌}
use Prim.Native.Nat.{ℕ, zero, suc}
use mathlib.Core.Bool.{Bool, true, false}
use mathlib.Core.Option.{Option, some, or_else}
use mathlib.Core.List.{List, [], ◌∷◌, ◌++◌, append-nil}
use Rattle.meaning.specs.Timing.{Tables}
use Rattle.meaning.specs.Run.{Cycle}
use Rattle.meaning.proofs.Options.{or_same}
use Rattle.meaning.proofs.Turns.{copies}
use Rattle.meaning.specs.Edges.{last_behind, fine_behind, failing_behind}

-- ---- the last of rows one behind the other

pub last-++ : {A : Type 0} (o : Option A) (a b : List A) → last_behind o (a ++ b) ≡ last_behind (last_behind o a) b
unfolding last_behind
last-++ o [] b = refl
last-++ o (x ∷ a) b = last-++ (some x) a b

-- behind a row, the same row leaves the same last
pub last_twice : {A : Type 0} (o : Option A) (a : List A) → last_behind (last_behind o a) a ≡ last_behind o a
unfolding last_behind
last_twice o [] = refl
last_twice o (x ∷ a) = refl

pub last_copies : (o : Option Cycle) (m : List Cycle) (n : ℕ) → last_behind o (copies (suc n) m) ≡ last_behind o m
unfolding copies
last_copies o m zero = ap (last_behind o) (append-nil m)
last_copies o m (suc n) = last-++ o m (copies (suc n) m) ∙ last_copies (last_behind o m) m n ∙ last_twice o m

-- ---- the first failing pair

module _ (tabs : Tables) where
  pub failing-++ : (o : Option Cycle) (a b : List Cycle)
      → failing_behind tabs o (a ++ b) ≡ or_else (failing_behind tabs o a) (failing_behind tabs (last_behind o a) b)
  unfolding failing_behind last_behind or_else
  failing-++ o [] b = refl
  failing-++ o (c ∷ a) b = by (fine_behind tabs o c) (failing-++ (some c) a b)
    where
      by : (w : Bool) → failing_behind tabs (some c) (a ++ b) ≡ or_else (failing_behind tabs (some c) a) (failing_behind tabs (last_behind (some c) a) b)
          → ◌≡◌ {A = Option ℕ} (elim w [ true ↦ failing_behind tabs (some c) (a ++ b) | false ↦ some c.at ])
          (or_else (elim w [ true ↦ failing_behind tabs (some c) a | false ↦ some c.at ]) (failing_behind tabs (last_behind (some c) a) b))
      by true h = h
      by false h = refl

  -- behind its own last cycle, a row fails as often as it comes where it fails once
  pub failing_steady : (o : Option Cycle) (m : List Cycle) → last_behind o m ≡ o → (n : ℕ) → failing_behind tabs o (copies (suc n) m) ≡ failing_behind tabs o m
  unfolding copies
  failing_steady o m e zero = ap (failing_behind tabs o) (append-nil m)
  failing_steady o m e (suc n) =
      failing-++ o m (copies (suc n) m)
      ∙ ap (λ (q : Option Cycle). or_else (failing_behind tabs o m) (failing_behind tabs q (copies (suc n) m))) e
      ∙ ap (or_else (failing_behind tabs o m)) (failing_steady o m e n)
      ∙ or_same _

  pub failing_copies : (o : Option Cycle) (m : List Cycle) (n : ℕ)
      → failing_behind tabs o (copies (suc (suc n)) m) ≡ or_else (failing_behind tabs o m) (failing_behind tabs (last_behind o m) m)
  unfolding copies
  failing_copies o m n =
      failing-++ o m (copies (suc n) m) ∙ ap (or_else (failing_behind tabs o m)) (failing_steady (last_behind o m) m (last_twice o m) n)
