-- Samples of the third turn, of a Shift's turns, and of times with a sign: the definitions compute them. Those of whole texts stand beside the definitions.
use mathlib.Core.Path.{◌≡◌, refl}
use mathlib.Core.Option.{Option, none, some}
use mathlib.Core.List.{List, [], ◌∷◌}
use Rattle.tokens.specs.Tokens.{toks}
use Rattle.meaning.specs.Reader.{Res, ok, refuse}
use Rattle.meaning.specs.Timing.{Wave, Tables, Signed, plus, minus, counted}
use Rattle.meaning.specs.Body.{Body}
use Rattle.meaning.specs.Run.{Cycle}
use Rattle.meaning.specs.Document.{Read, document}
use Rattle.meaning.specs.Meaning.{given, refused, run_of}
use Rattle.meaning.specs.Open.{everything}
use Rattle.meaning.specs.Samples.{whole, one_listed}
use Rattle.meaning.proofs.Turns.{shortened, fewer, twice}
use Rattle.meaning.proofs.EdgesSamples.{listing, playing}
use Rattle.meaning.specs.Edges.{first_failing_pair, first_in_run}
use Rattle.edges.specs.Three.{few_turns, in_three}
use Rattle.edges.specs.Turned
use Rattle.edges.specs.Turned.{turns_in_run}

unfoldable opened : Unit {0}
unfolding everything whole one_listed
opened = tt

-- ---- the third turn

-- what f makes of the tables and the run of a text that is read
unfoldable pub meant : {A : Type 0} → (Tables → Body → Option A) → Res Read → Option A
meant f (ok d ts) = elim (run_of d.patterns d.listed) [ given r ↦ f d.tables r | refused n p ↦ none ]
meant f (refuse n p) = none

unfoldable pub third : Res Read
unfolding playing listing
third = document (toks (playing "Pattern p { W t0; C { A = 0; } Loop 4 { V { } C { A = 1; } } }") 0)

-- two turns of each Loop find no pair that fails, and three find the one into the third turn
pub two_miss : (meant (λ tabs r. first_in_run tabs 2 (shortened r)) third ≡ none)
    × (meant (λ tabs r. first_in_run tabs 2 (in_three r)) third ≡ some 570)
    × (meant (λ tabs r. turns_in_run tabs 2 r) third ≡ some (3 ∷ []))
unfolding opened meant third playing listing shortened fewer twice few_turns in_three Turned.in_turn Turned.loop_turns Turned.around Turned.turns_in Turned.turns_of_failing Turned.turns_in_run
two_miss = (refl, refl, refl)

-- a Shift plays all of its turns: here the fifth fails first, and lies in no Loop
unfoldable pub shifting : Res Read
unfolding playing listing
shifting = document (toks (playing "Pattern p { W t0; Macro s { A = 00010; } }") 0)

pub in_shift_lem : (meant (λ tabs r. first_in_run tabs 2 r) shifting ≡ some 386) × (meant (λ tabs r. turns_in_run tabs 2 r) shifting ≡ some [])
unfolding opened meant shifting playing listing Turned.shift_turns Turned.around Turned.turns_in Turned.turns_of_failing Turned.turns_in_run
in_shift_lem = (refl, refl)

-- ---- times with a sign

-- one signal, whose 0 drives at 0 and 99 ps and whose 1 drives at a time with a sign; and a cycle with each
unfoldable pub signed : Signed → Tables
signed t =
    let zero : Wave = record { signal = 0; char = 48; events = record { time = counted (plus 0); letter = 68 } ∷ record { time = counted (plus 99); letter = 85 } ∷ [] } in
    let one : Wave = record { signal = 0; char = 49; events = record { time = counted t; letter = 68 } ∷ [] } in
    (record { at = 0; word = [] }, record { period = 100; waves = zero ∷ one ∷ [] }) ∷ []

unfoldable pub both : List Cycle
both = record { at = 3; table = some 0; pins = 48 ∷ [] } ∷ record { at = 5; table = some 0; pins = 49 ∷ [] } ∷ []

-- 99 comes before 100 - 0, and not before 100 - 1
pub signs : (first_failing_pair (signed (plus 0)) both ≡ none) × (first_failing_pair (signed (minus 0)) both ≡ none) × (first_failing_pair (signed (minus 1)) both ≡ some 5)
unfolding opened signed both counted
signs = (refl, refl, refl)
