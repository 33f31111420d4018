-- Bodies: statements in order, with the bodies that they use in them (document 01, "Statements", "Bodies", "Shift").
use Rattle.std.specs.Prelude.{ℕ, suc, ◌+◌, ◌-◌, max, Bool, true, false, ◌&&◌, List, [], ◌∷◌, ◌++◌, length, eqb}
use Rattle.meaning.specs.Lists.{has, inside, count}

-- a character for each of some signals
abbrev pub Assigns : Type 0
Assigns = List (ℕ × ℕ)

-- `#`, in place of a character: the next of the signal's argument
abbrev pub mark : ℕ
mark = 35

-- the characters of some signals' arguments
abbrev pub Args : Type 0
Args = List (ℕ × List ℕ)

-- what changes without a cycle: `C` assigns, `W` chooses a table by its number
pub data Setting : Type 0 where
  assigning : Assigns → Setting
  choosing : ℕ → Setting

pub data Kind : Type 0 where
  macro procedure listed : Kind

-- how a statement plays the body in it: `Loop N`; `Shift`; a macro, procedure or listed pattern entered, with its Shift played T times
-- and its arguments
pub data Way : Type 0 where
  looped : ℕ → Way
  shifted : Way
  entered : Kind → ℕ → Args → Way

-- statements in order, each with those behind it: `V` at its place; a setting; a statement with a body in it
pub data Body : Type 0 where
  done : Body
  vec : ℕ → Assigns → Body → Body
  set' : Setting → Body → Body
  inner : Way → Body → Body → Body

-- 0 without Loop, Shift, Call or Macro, else 1 plus the deepest inner body's
unfoldable pub depth : Body → ℕ
depth done = 0
depth (vec p a r) = depth r
depth (set' x r) = depth r
depth (inner w b r) = max (suc (depth b)) (depth r)

-- ---- `#` in a body, and the arguments that fit

-- the signals with `#` in some assignments
unfoldable pub marked : Assigns → List ℕ
marked [] = []
marked (x ∷ xs) = elim (eqb x.1 mark) [ true ↦ x.0 ∷ marked xs | false ↦ marked xs ]

-- a body's own V's, outside its Shift: their signals with `#`, one for each use
unfoldable pub outside : Body → List ℕ
outside done = []
outside (vec p a r) = marked a ++ outside r
outside (set' x r) = outside r
outside (inner w b r) = outside r

unfoldable pub in_shift : Way → List ℕ → List ℕ
in_shift (looped n) l = []
in_shift shifted l = l
in_shift (entered k t a) l = []

-- the signals with `#` in its Shift
unfoldable pub shifting : Body → List ℕ
shifting done = []
shifting (vec p a r) = shifting r
shifting (set' x r) = shifting r
shifting (inner w b r) = in_shift w (outside b) ++ shifting r

-- a signal's argument
unfoldable pub arg_of : ℕ → Args → List ℕ
arg_of s [] = []
arg_of s (x ∷ xs) = elim (eqb x.0 s) [ true ↦ x.1 | false ↦ arg_of s xs ]

-- the signals that have one
unfoldable pub supplied : Args → List ℕ
supplied [] = []
supplied (x ∷ xs) = x.0 ∷ supplied xs

-- T: how often the Shift plays, L - u of its first signal
unfoldable pub turns : Body → Args → ℕ
turns b xs = elim (shifting b) [ [] ↦ 0 | s ∷ ss ↦ length (arg_of s xs) - count s (outside b) ]

-- the length due for signal s: u, and T more with `#` in the Shift
unfoldable pub length_due : Body → ℕ → ℕ → ℕ
length_due b t s = count s (outside b) + elim (has s (shifting b)) [ true ↦ t | false ↦ 0 ]

unfoldable pub lengths_fit : Body → ℕ → Args → Bool
lengths_fit b t [] = true
lengths_fit b t (x ∷ xs) = eqb (length x.1) (length_due b t x.0) && lengths_fit b t xs

-- each signal with `#` has its argument, and each argument its length
unfoldable pub fits : Body → Args → Bool
fits b xs = inside (outside b ++ shifting b) (supplied xs) && lengths_fit b (turns b xs) xs
