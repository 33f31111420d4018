-- The run: size, cycles, what is in force at each cycle, visits (document 01, "Run", "Bounds", "The services"). A body is played with a
-- number t of turns of its own Shift.
use Rattle.std.specs.Prelude.{ℕ, zero, suc, ◌+◌, ◌*◌, ◌-◌, ◌%◌, true, false, List, [], ◌∷◌, ◌++◌, length, set, replicate, leb, eqb}
use Rattle.std.proofs.Math.Option.{Option, none, some}
use Rattle.meaning.specs.Body.{Assigns, Args, mark, Setting, assigning, choosing, Kind, macro, procedure, listed, Way, looped, shifted, entered, Body, done, vec, set', inner, arg_of}

-- ---- size and cycles

-- V, C, W are 1; a statement with a body in it is 1 plus that body's size
unfoldable pub size : Body → ℕ
size done = 0
size (vec p a r) = 1 + size r
size (set' x r) = 1 + size r
size (inner w b r) = (1 + size b) + size r

-- how often a statement plays the body in it
unfoldable pub turns_of : ℕ → Way → ℕ
turns_of t (looped n) = n
turns_of t shifted = t
turns_of t (entered k u a) = 1

-- how often the Shift of the body in it plays
unfoldable pub shift_of : ℕ → Way → ℕ
shift_of t (looped n) = t
shift_of t shifted = t
shift_of t (entered k u a) = u

unfoldable pub cycles : ℕ → Body → ℕ
cycles t done = 0
cycles t (vec p a r) = 1 + cycles t r
cycles t (set' x r) = cycles t r
cycles t (inner w b r) = turns_of t w * cycles (shift_of t w) b + cycles t r

-- ---- the cycles one by one

-- no character, so no byte of a waveform: the signal is unassigned
abbrev pub unassigned : ℕ
unassigned = 0

-- each signal's character, the table in force, and what is left of the arguments
pub record State : Type 0 where
  pub pins : List ℕ
  pub table : Option ℕ
  pub args : Args

-- a cycle: its V's place, and what is in force
pub record Cycle : Type 0 where
  pub at : ℕ
  pub table : Option ℕ
  pub pins : List ℕ

abbrev pub Played : Type 0
Played = State × List Cycle

unfoldable pub next : List ℕ → ℕ
next [] = unassigned
next (c ∷ cs) = c

unfoldable pub behind : List ℕ → List ℕ
behind [] = []
behind (c ∷ cs) = cs

-- the arguments without the next character of a signal's
unfoldable pub taken : ℕ → Args → Args
taken s [] = []
taken s (x ∷ xs) = elim (eqb x.0 s) [ true ↦ (x.0, behind x.1) ∷ xs | false ↦ x ∷ taken s xs ]

-- one signal assigned: a character, or the next one of its argument
unfoldable pub put : ℕ × ℕ → State → State
put x s =
    elim (eqb x.1 mark) [
      | true ↦ record { pins = set s.pins x.0 (next (arg_of x.0 s.args)); table = s.table; args = taken x.0 s.args }
      | false ↦ record { pins = set s.pins x.0 x.1; table = s.table; args = s.args }
    ]

unfoldable pub puts : Assigns → State → State
puts [] s = s
puts (x ∷ xs) s = puts xs (put x s)

unfoldable pub changed : Setting → State → State
changed (assigning a) s = puts a s
changed (choosing k) s = record { pins = s.pins; table = some k; args = s.args }

-- the cycle that a V makes
unfoldable pub cycle_at : ℕ → State → Cycle
cycle_at p s = record { at = p; table = s.table; pins = s.pins }

-- one after the other
unfoldable pub follow : Played → (State → Played) → Played
follow x f = let y = f x.0 in (y.0, x.1 ++ y.1)

-- n times, each from where the one before ended
unfoldable pub again : ℕ → (State → Played) → State → Played
again zero f s = (s, [])
again (suc n) f s = follow (f s) (λ s'. again n f s')

-- all signals unassigned
unfoldable pub bare : List ℕ → List ℕ
bare pins = replicate (length pins) unassigned

-- A macro runs in place. A procedure begins with the caller's table and every signal unassigned; at its end the caller's values and table
-- come back. A listed pattern starts with no table and all signals unassigned.
unfoldable pub entering : Kind → Args → (State → Played) → State → Played
entering macro a f s =
    let y = f (record { pins = s.pins; table = s.table; args = a }) in
    (record { pins = y.0.pins; table = y.0.table; args = s.args }, y.1)
entering procedure a f s = (s, (f (record { pins = bare s.pins; table = s.table; args = a })).1)
entering listed a f s = (s, (f (record { pins = bare s.pins; table = none; args = a })).1)

-- the body in a statement, as f plays it once
unfoldable pub playing : ℕ → Way → (State → Played) → State → Played
playing t (looped n) f s = again n f s
playing t shifted f s = again t f s
playing t (entered k u a) f s = entering k a f s

unfoldable pub play : ℕ → Body → State → Played
play t done s = (s, [])
play t (vec p a r) s = let s' = puts a s in follow (s', cycle_at p s' ∷ []) (play t r)
play t (set' x r) s = play t r (changed x s)
play t (inner w b r) s = follow (playing t w (play (shift_of t w) b) s) (play t r)

-- before the run
unfoldable pub start : ℕ → State
start n = record { pins = replicate n unassigned; table = none; args = [] }

-- the cycles of a run over n signals
unfoldable pub cycles_of : ℕ → Body → List Cycle
cycles_of n b = (play 0 b (start n)).1

-- a run of one pattern
unfoldable pub alone : Body → Body
alone b = inner (entered listed 0 []) b done

-- ---- visits at cycle n: a statement whose cycles all lie before n costs its size; the one that holds n its size and the visits in its
-- body at the remaining place, within a turn
unfoldable pub visits : ℕ → Body → ℕ → ℕ
visits t done n = 0
visits t (vec p a r) n = elim (leb 1 n) [ true ↦ 1 + visits t r (n - 1) | false ↦ 1 ]
visits t (set' x r) n = 1 + visits t r n
visits t (inner w b r) n =
    let c = cycles (shift_of t w) b in
    elim (leb (turns_of t w * c) n) [
      | true ↦ (1 + size b) + visits t r (n - turns_of t w * c)
      | false ↦ (1 + size b) + visits (shift_of t w) b (n % c)
    ]
