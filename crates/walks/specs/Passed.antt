-- What passing statements leaves: pins, table and arguments, with each Loop gone through once.
use Rattle.std.specs.Prelude.{ℕ, zero, suc}
use Rattle.meaning.specs.Body.{macro, procedure, listed, Way, looped, shifted, entered, Body, done, vec, set', inner}
use Rattle.meaning.specs.Run.{State, shift_of, puts, changed}
use Rattle.walks.specs.Statement.{begun}

-- so many times
unfoldable pub times : ℕ → (State → State) → State → State
times zero f s = s
times (suc t) f s = times t f (f s)

-- a Loop once; a Shift t times; a macro in place; from a procedure and a listed pattern the state comes back
unfoldable pub passing : ℕ → Way → (State → State) → State → State
passing t (looped zero) f s = s
passing t (looped (suc n)) f s = f s
passing t shifted f s = times t f s
passing t (entered macro u a) f s = let y = f (begun macro a s) in record { pins = y.pins; table = y.table; args = s.args }
passing t (entered procedure u a) f s = s
passing t (entered listed u a) f s = s

unfoldable pub passed : ℕ → Body → State → State
passed t done s = s
passed t (vec p a r) s = passed t r (puts a s)
passed t (set' x r) s = passed t r (changed x s)
passed t (inner w b r) s = passed t r (passing t w (passed (shift_of t w) b) s)
