-- A page that is filled from its front, as long as there is room.
use Rattle.std.specs.Prelude.{ℕ, ◌≤◌, ◌<◌, ◌≡◌, Some, None, List, ◌∷◌, ◌++◌, length, drop}
use Rattle.meaning.specs.Timing.{Signed, plus, minus}
use Rattle.folded.specs.Layout.{timed}
use Rattle.pens.specs.declared.Pen.{Pen}

-- a time with its sign, as it is written
unfoldable pub signed_timed : Signed → List ℕ
signed_timed (plus n) = timed n
signed_timed (minus n) = 45 ∷ timed n

-- the bytes `front` were written from the page's front on, where it had room for them all; else the pen stands nowhere, and what stands in the page is open
pub record Holds (before front : List ℕ) (pen : Pen) (page : List ℕ) : Type 0 where
  pub kept : length page ≡ length before
  pub some : length front ≤ length before → (pen.at ≡ Some (length front)) × (page ≡ front ++ drop (length front) before)
  pub none : length before < length front → pen.at ≡ None

-- bytes behind those that were written, whatever these were
pub record Writes (entry : List ℕ) (pen : Pen) (bytes exit : List ℕ) (r : Pen) : Type 0 where
  pub kept : length exit ≡ length entry
  pub on : (before front : List ℕ) → Holds before front pen entry → Holds before (front ++ bytes) r exit
