-- What the code keeps of `#` in a body: for each signal how many uses there are outside the Shift, up to one above what an argument may have, and
-- whether there is one in the Shift.
use Rattle.std.specs.Prelude.{ℕ, suc, ◌+◌, ◌*◌, ◌<◌, min, ◌≡◌, Bool, true, false, ◌||◌, List, ◌++◌, length, get_or, take, drop, eqb}
use Rattle.meaning.specs.Bounds.{signals_most, argument_most}
use Rattle.meaning.specs.Lists.{has, count, repeats}
use Rattle.meaning.specs.Timing.{wave_char}
use Rattle.meaning.specs.Body.{Assigns, mark, Body, outside, shifting}
use Rattle.meaning.specs.Data.{assigned}
use Rattle.assigns.specs.Given.{chars, Gave}

abbrev pub uses_cap : ℕ
uses_cap = suc argument_most

-- a row: the counts, and then the marks of the Shift
abbrev pub row_length : ℕ
row_length = signals_most * 2

abbrev pub flag : Bool → ℕ
flag true = 1
flag false = 0

-- a body's uses of `#`, as a row has them
pub record Uses (b : Body) (row : List ℕ) : Type 0 where
  pub long : length row ≡ row_length
  pub outside_is : (s : ℕ) → s < signals_most → get_or row s 0 ≡ min uses_cap (count s (outside b))
  pub shifting_is : (s : ℕ) → s < signals_most → get_or row (signals_most + s) 0 ≡ flag (has s (shifting b))
  pub below : (s : ℕ) → has s (outside b ++ shifting b) ≡ true → s < signals_most

-- the row of number i
abbrev pub row_at : List ℕ → ℕ → List ℕ
row_at rows i = take row_length (drop (i * row_length) rows)

-- a statement's assignments, as the code has them: no signal twice, each below the bound, and each character a letter, a digit or `#`
pub record Given (a : Assigns) (given : List ℕ) : Type 0 where
  pub gave : Gave a given
  pub once : repeats (assigned a) ≡ false
  pub below : (s : ℕ) → has s (assigned a) ≡ true → s < signals_most
  pub written : (c : ℕ) → has c (chars a) ≡ true → (wave_char c || eqb mark c) ≡ true
