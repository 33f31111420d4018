-- What the code has of a used body's arguments: which signals have one, how many characters each has, and where its DATA begins.
use Rattle.std.specs.Prelude.{ℕ, ◌+◌, ◌*◌, ◌-◌, ◌<◌, ◌≤◌, ◌≡◌, Bool, true, false, not, List, [], ◌∷◌, ◌++◌, eqb, length, get_or, Option, Some, is_some}
use Rattle.tokens.specs.Tokens.{Toks, toks}
use Rattle.meaning.specs.Bounds.{signals_most, argument_most}
use Rattle.meaning.specs.Lists.{has, repeats, count}
use Rattle.meaning.specs.Reader.{ok}
use Rattle.meaning.specs.Body.{Assigns, Args, Body, outside, shifting, arg_of, supplied, turns, length_due, fits}
use Rattle.meaning.specs.Data.{data_read}
use Rattle.assigns.specs.Given.{Gave}
use Rattle.measures.specs.Uses.{Uses}

-- a mark for each signal that has an argument
unfoldable pub marks_of : Args → Assigns
marks_of [] = []
marks_of (x ∷ xs) = (x.0, 1) ∷ marks_of xs

-- from a place on, DATA of these characters stands
abbrev pub DataAt : List ℕ → ℕ → List ℕ → Type 0
DataAt text p cs = (q : ℕ) × (us : Toks) × (data_read false (toks text p) ≡ ok (cs, q) us)

-- one argument's characters: n of them, read from `start` on
pub record Argument (text cs : List ℕ) (n start : ℕ) : Type 0 where
  pub counted : n ≡ length cs
  pub few : length cs ≤ argument_most
  pub at : DataAt text start cs

-- the arguments xs: `given` marks their signals; `args` has each one's number of characters, and behind those where each begins
pub record Supplied (text : List ℕ) (xs : Args) (given args : List ℕ) : Type 0 where
  pub gave : Gave (marks_of xs) given
  pub long : length args ≡ signals_most * 2
  pub once : repeats (supplied xs) ≡ false
  pub below : (s : ℕ) → has s (supplied xs) ≡ true → s < signals_most
  pub each : (s : ℕ) → has s (supplied xs) ≡ true → Argument text (arg_of s xs) (get_or args s 0) (get_or args (signals_most + s) 0)

-- a row of some body
pub record UsedRow (row : List ℕ) : Type 0 where
  pub body : Body
  pub uses : Uses body row

-- do the arguments fit the body, and if so how often does its Shift play
pub record Fits (b : Body) (xs : Args) (r : Option ℕ) : Type 0 where
  pub told : is_some r ≡ fits b xs
  pub turns_is : (n : ℕ) → r ≡ Some n → n ≡ turns b xs

-- T, as some signal with `#` in the Shift gives it; 0 where none has one
pub data TurnsBy (b : Body) (xs : Args) (t : ℕ) : Type 0 where
  no_shift : shifting b ≡ [] → t ≡ 0 → TurnsBy b xs t
  by_signal : (s : ℕ) → has s (shifting b) ≡ true → t ≡ length (arg_of s xs) - count s (outside b) → TurnsBy b xs t

-- has signal s the characters that it needs, where the Shift plays t times; without an argument it needs none
unfoldable pub fits_at : Body → Args → ℕ → ℕ → Bool
fits_at b xs t s =
    elim (has s (supplied xs)) [ true ↦ eqb (length (arg_of s xs)) (length_due b t s) | false ↦ not (has s (outside b ++ shifting b)) ]

-- ---- signals that are looked at together

abbrev pub block_size : ℕ
block_size = 16

-- n signals have neither `#` nor an argument
pub record Idle (row given : List ℕ) (from n : ℕ) : Type 0 where
  pub unused : (k : ℕ) → k < n → get_or row (from + k) 0 ≡ 0
  pub unshifted : (k : ℕ) → k < n → get_or row (signals_most + (from + k)) 0 ≡ 0
  pub ungiven : (k : ℕ) → k < n → get_or given (from + k) 0 ≡ 0

-- do those of a block fit; if not, some signal does not
pub record BlockFits (b : Body) (xs : Args) (t from : ℕ) (r : Bool) : Type 0 where
  pub each : r ≡ true → (k : ℕ) → k < block_size → fits_at b xs t (from + k) ≡ true
  pub other : r ≡ false → (s : ℕ) × (fits_at b xs t s ≡ false)
