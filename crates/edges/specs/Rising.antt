-- A waveform whose events were taken one by one, each later than those of its category before it.
use Rattle.std.specs.Prelude.{ℕ, ◌≡◌, true, List, [], ◌∷◌, ◌++◌}
use Rattle.meaning.specs.Timing.{Event, Wave, Tables, rises}

pub data Risen : List Event → Type 0 where
  no_event : Risen []
  one_more_lem : {es : List Event} (t e : ℕ) → Risen es → rises t e es ≡ true → Risen (es ++ record { time = t; letter = e } ∷ [])

unfoldable pub WavesRise : List Wave → Type 0
WavesRise [] = Unit {0}
WavesRise (w ∷ ws) = Risen w.events × WavesRise ws

unfoldable pub TablesRise : Tables → Type 0
TablesRise [] = Unit {0}
TablesRise (x ∷ xs) = WavesRise x.1.waves × TablesRise xs

-- each of some times
unfoldable pub Each : (ℕ → Type 0) → List ℕ → Type 0
Each P [] = Unit {0}
Each P (t ∷ l) = P t × Each P l
