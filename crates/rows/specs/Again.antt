-- Rows of a Loop's later turns, which are those of its second turn again: what is promised of copying them.
use Rattle.std.specs.Prelude.{ℕ, ◌+◌, ◌*◌, ◌-◌, min, ◌≡◌, false, List, ◌++◌, length}
use Rattle.meaning.specs.Run.{Cycle}
use Rattle.meaning.proofs.Rows.{AllWide}
use Rattle.meaning.proofs.Turns.{copies}
use Rattle.walks.specs.Seen.{seen}
use Rattle.walks.specs.Written.{Written}
use Rattle.rows.specs.declared.Walk.{Walk}

-- THE PROMISE: behind a turn l of k cycles over all signals, whose rows are the last, the rows of n more such turns, as far as rows are to be shown
pub record Again (signals k n : ℕ) (w w' : Walk) (before after : List ℕ) : Type 0 where
  pub pass : w'.pass ≡ 0
  pub row : w'.row ≡ w.row + min w.show (n * k)
  pub show : w'.show ≡ w.show - min w.show (n * k)
  pub budget : w'.budget ≡ w.budget
  pub walking : w'.walking ≡ false
  pub marked : w'.mark ≡ w.mark
  pub written : (entry : List ℕ) (ds l : List Cycle) → length l ≡ k → AllWide signals l → length (ds ++ l) ≡ w.row
      → Written w.mark signals entry before (ds ++ l) → Written w'.mark signals entry after ((ds ++ l) ++ seen 0 w.show (copies n l))
  pub long : length after ≡ length before
