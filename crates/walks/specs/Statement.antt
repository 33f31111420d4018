-- One statement with a body in it: what it plays, and how many cycles that makes.
use Rattle.std.specs.Prelude.{ℕ, ◌*◌}
use Rattle.std.proofs.Math.Option.{none}
use Rattle.meaning.specs.Body.{Args, Kind, macro, procedure, listed, Way, Body}
use Rattle.meaning.specs.Run.{State, Played, cycles, turns_of, shift_of, bare, playing, play}

abbrev pub played_in : ℕ → Way → Body → State → Played
played_in t w b s = playing t w (play (shift_of t w) b) s

abbrev pub cycles_in : ℕ → Way → Body → ℕ
cycles_in t w b = turns_of t w * cycles (shift_of t w) b

-- the state in which a body that is entered begins
unfoldable pub begun : Kind → Args → State → State
begun macro a s = record { pins = s.pins; table = s.table; args = a }
begun procedure a s = record { pins = bare s.pins; table = s.table; args = a }
begun listed a s = record { pins = bare s.pins; table = none; args = a }
