-- Where a walk enters a Loop or a Shift: in what state a turn begins.
use Rattle.std.specs.Prelude.{ℕ, zero, suc, true, false, List, [], ◌∷◌, drop, eqb}
use Rattle.meaning.specs.Body.{Assigns, Args, Body, marked}
use Rattle.meaning.specs.Run.{State, Played, puts, cycle_at, play}

-- turn j of a Loop with the body b, where s is the state before the Loop: every turn behind the first begins where the first ended
unfoldable pub begins : ℕ → Body → ℕ → State → State
begins t b zero s = s
begins t b (suc j) s = (play t b s).0

-- ---- a Shift

-- its V at p, played once
abbrev pub vector : ℕ → Assigns → State → Played
vector p a s = (puts a s, cycle_at p (puts a s) ∷ [])

-- the arguments without the first i characters of a signal's
unfoldable pub lost : ℕ → ℕ → Args → Args
lost i s [] = []
lost i s (x ∷ xs) = elim (eqb x.0 s) [ true ↦ (x.0, drop i x.1) ∷ xs | false ↦ x ∷ lost i s xs ]

-- of each of some signals'
unfoldable pub lost_all : ℕ → List ℕ → Args → Args
lost_all i [] args = args
lost_all i (s ∷ ss) args = lost_all i ss (lost i s args)

-- a state with i characters fewer for each `#`: as far as assignments see, that in which turn i begins
unfoldable pub skipped : ℕ → Assigns → State → State
skipped i a s = record { pins = s.pins; table = s.table; args = lost_all i (marked a) s.args }
