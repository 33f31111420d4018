-- Times with a sign across the edge, and the same tables with their times counted from another zero.
use Rattle.std.specs.Prelude.{ℕ, ◌+◌, Bool, List, [], ◌∷◌, ltb}
use Rattle.meaning.specs.Timing.{Event, Wave, Tables, Signed, plus, minus}

-- ---- across the edge

-- is a time before another that lies in the next cycle, a period later
unfoldable pub signed_before : Signed → ℕ → Signed → Bool
signed_before (plus l) period (plus f) = ltb l (period + f)
signed_before (plus l) period (minus f) = ltb (l + f) period
signed_before (minus l) period (plus f) = ltb 0 (l + (period + f))
signed_before (minus l) period (minus f) = ltb f (l + period)

-- ---- the same tables with their times counted from a zero that lies k earlier

unfoldable pub events_from : ℕ → List Event → List Event
events_from k [] = []
events_from k (e ∷ es) = record { time = k + e.time; letter = e.letter } ∷ events_from k es

unfoldable pub waves_from : ℕ → List Wave → List Wave
waves_from k [] = []
waves_from k (w ∷ ws) = record { signal = w.signal; char = w.char; events = events_from k w.events } ∷ waves_from k ws

unfoldable pub tables_from : ℕ → Tables → Tables
tables_from k [] = []
tables_from k (x ∷ xs) = (x.0, record { period = x.1.period; waves = waves_from k x.1.waves }) ∷ tables_from k xs
