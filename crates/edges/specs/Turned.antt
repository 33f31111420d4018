-- In which turns a cycle lies: of each Loop around it, the outermost first, and counted from 1; and those of the first failing pair's later cycle.
use Rattle.std.specs.Prelude.{ℕ, zero, suc, ◌≤◌, true, false, List, [], ◌∷◌, ◌++◌}
use Rattle.std.proofs.Math.Option.{Option, none, some}
use Rattle.meaning.specs.Timing.{Tables}
use Rattle.meaning.specs.Body.{Way, looped, shifted, entered, Body, done, vec, set', inner}
use Rattle.meaning.specs.Run.{shift_of, Cycle, cycles_of, alone}
use Rattle.meaning.specs.Edges.{fine_behind}
use Rattle.edges.specs.Three.{turns_most}

-- the turns of each cycle of a row
abbrev pub Turnings : Type 0
Turnings = List (List ℕ)

-- the same cycles, all in turn k of one Loop more
unfoldable pub in_turn : ℕ → Turnings → Turnings
in_turn k [] = []
in_turn k (x ∷ l) = (k ∷ x) ∷ in_turn k l

-- n turns of a Loop, from turn k on
unfoldable pub loop_turns : ℕ → ℕ → Turnings → Turnings
loop_turns zero k l = []
loop_turns (suc n) k l = in_turn k l ++ loop_turns n (suc k) l

-- a Shift's turns are no Loop's
unfoldable pub shift_turns : ℕ → Turnings → Turnings
shift_turns zero l = []
shift_turns (suc n) l = l ++ shift_turns n l

unfoldable pub around : ℕ → Way → Turnings → Turnings
around t (looped n) l = loop_turns n 1 l
around t shifted l = shift_turns t l
around t (entered k u a) l = l

-- of each cycle that a body plays, with t turns of its Shift
unfoldable pub turns_in : ℕ → Body → Turnings
turns_in t done = []
turns_in t (vec p a r) = [] ∷ turns_in t r
turns_in t (set' x r) = turns_in t r
turns_in t (inner w b r) = around t w (turns_in (shift_of t w) b) ++ turns_in t r

-- a row of cycles, each with its turns: those of the first failing pair's later cycle
unfoldable pub turns_of_failing : Tables → Option Cycle → List Cycle → Turnings → Option (List ℕ)
turns_of_failing tabs o [] ts = none
turns_of_failing tabs o (d ∷ l) [] = none
turns_of_failing tabs o (d ∷ l) (t ∷ ts) = elim (fine_behind tabs o d) [ true ↦ turns_of_failing tabs (some d) l ts | false ↦ some t ]

-- and those of the run's
unfoldable pub turns_in_run : Tables → ℕ → Body → Option (List ℕ)
turns_in_run tabs n done = none
turns_in_run tabs n (vec p a r) = turns_in_run tabs n r
turns_in_run tabs n (set' x r) = turns_in_run tabs n r
turns_in_run tabs n (inner w b r) =
    elim (turns_of_failing tabs none (cycles_of n (alone b)) (turns_in 0 (alone b))) [ some ks ↦ some ks | none ↦ turns_in_run tabs n r ]

-- none is a later turn than the third
unfoldable pub NoneLater : List ℕ → Type 0
NoneLater [] = Unit {0}
NoneLater (k ∷ ks) = (k ≤ turns_most) × NoneLater ks
