-- How far a window is, and what going through some cycles makes of that and of its buffer.
use Rattle.std.specs.Prelude.{ℕ, ◌+◌, ◌*◌, ◌-◌, ◌≤◌, ◌≡◌, Bool, true, false, not, ◌&&◌, List, ◌++◌, length, take, leb, eqb}
use Rattle.meaning.specs.Run.{Cycle}
use Rattle.meaning.specs.Services.{row_width}
use Rattle.walks.specs.Seen.{seen}
use Rattle.walks.specs.Written.{Written}
use Rattle.pins.specs.Shown.{table_of}
use Rattle.rows.specs.declared.Walk.{Walk}

-- the cycle that the window begins with is reached, and no more rows are to be shown
abbrev pub over : Walk → Bool
over w = not w.walking && eqb w.show 0

-- there is something left to do: the cycle is to be reached, or it was and none are to be passed; the buffer has room for the rows to be shown
pub record Going (signals : ℕ) (w : Walk) (buffer : List ℕ) : Type 0 where
  pub more : over w ≡ false
  pub reached : w.walking ≡ false → w.pass ≡ 0
  pub room : (w.row + w.show) * row_width signals ≤ length buffer

-- ---- what is spent: on the way, and nothing behind it

abbrev pub spends : Bool → ℕ → ℕ
spends true v = v
spends false v = 0

abbrev pub spent : Walk → ℕ → Walk
spent w v = record { pass = w.pass; row = w.row; show = w.show; budget = w.budget - spends w.walking v; walking = w.walking; mark = w.mark }

-- so many cycles are passed
abbrev pub past : Walk → ℕ → Walk
past w n = record { pass = w.pass - n; row = w.row; show = w.show; budget = w.budget; walking = w.walking; mark = w.mark }

-- ---- THE PROMISE of what goes through cycles l, v being the visits in them at the cycle looked for

pub record Went (signals : ℕ) (l : List Cycle) (v : ℕ) (w w' : Walk) (before after : List ℕ) : Type 0 where
  -- as many rows as are still to be shown, of those behind the ones to be passed
  pub rows : w'.row ≡ w.row + length (seen w.pass w.show l)
  pub show : w'.show ≡ w.show - length (seen w.pass w.show l)
  pub pass : over w' ≡ false → w'.pass ≡ w.pass - length l
  -- the cycle looked for is not among them
  pub walking : w'.walking ≡ (w.walking && leb (length l) w.pass)
  pub spending : w.budget ≡ w'.budget + spends w.walking v
  -- the rows, behind those that were written before, with the same mark
  pub marked : w'.mark ≡ w.mark
  pub written : (entry : List ℕ) (cs : List Cycle) → length cs ≡ w.row → Written w.mark signals entry before cs
      → Written w'.mark signals entry after (cs ++ seen w.pass w.show l)
  pub long : length after ≡ length before

-- a cycle as the pins and the table have it
pub record Cycled (signals : ℕ) (values : List ℕ) (table : ℕ) (c : Cycle) : Type 0 where
  pub pins_are : c.pins ≡ take signals values
  pub table_is : c.table ≡ table_of table
