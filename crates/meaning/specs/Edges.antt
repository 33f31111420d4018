-- Events across the cycle's edge (request 8; source document 000, 18.4, rule c): within a category, a cycle's last event comes before the next
-- cycle's first, counting periods. Times may be counted from any zero, the same for all: `Timing` has the one for times with a sign.
use Rattle.std.specs.Prelude.{ℕ, zero, suc, ◌+◌, Bool, true, false, ◌&&◌, List, [], ◌∷◌, ltb, eqb}
use Rattle.std.proofs.Math.Option.{Option, none, some}
use Rattle.meaning.specs.Timing.{Event, Wave, Tables, drives, compares, table_at, wave_of}
use Rattle.meaning.specs.Body.{Body, done, vec, set', inner}
use Rattle.meaning.specs.Run.{unassigned, Cycle, cycles_of, alone}

-- ---- a waveform's first and last time in a category

-- those that document 01 has; the standard's expect and unresolved events are not read
pub data Category : Type 0 where
  drive compare : Category

unfoldable pub belongs : Category → ℕ → Bool
belongs drive e = drives e
belongs compare e = compares e

-- the times of its events, which rise
unfoldable pub times_in : Category → List Event → List ℕ
times_in k [] = []
times_in k (e ∷ es) = elim (belongs k e.letter) [ true ↦ e.time ∷ times_in k es | false ↦ times_in k es ]

unfoldable pub first_of : List ℕ → Option ℕ
first_of [] = none
first_of (x ∷ l) = some x

-- x, or the last of a list
unfoldable pub last_behind : {A : Type 0} → Option A → List A → Option A
last_behind o [] = o
last_behind o (x ∷ l) = last_behind (some x) l

unfoldable pub first_time : Category → List Event → Option ℕ
first_time k es = first_of (times_in k es)

unfoldable pub last_time : Category → List Event → Option ℕ
last_time k es = last_behind none (times_in k es)

-- ---- a pair of neighbouring cycles

-- does a cycle of this period have its last event before the next one's first; a category that one of them lacks is skipped
unfoldable pub before : ℕ → Option ℕ → Option ℕ → Bool
before period none first = true
before period (some last) none = true
before period (some last) (some first) = ltb last (period + first)

unfoldable pub apart : ℕ → Category → List Event → List Event → Bool
apart period k es fs = before period (last_time k es) (first_time k fs)

-- two waveforms of a signal, one in the cycle behind the other's
unfoldable pub follows : ℕ → List Event → List Event → Bool
follows period es fs = apart period drive es fs && apart period compare es fs

-- the waveform of a signal's value: no events without one
unfoldable pub events_of : ℕ → ℕ → List Wave → List Event
events_of s c ws = elim (eqb c unassigned) [ true ↦ [] | false ↦ elim (wave_of s c ws) [ none ↦ [] | some es ↦ es ] ]

-- signal by signal, from s on
unfoldable pub all_follow : ℕ → List Wave → List Wave → ℕ → List ℕ → List ℕ → Bool
all_follow period ws vs s [] ds = true
all_follow period ws vs s (c ∷ cs) [] = true
all_follow period ws vs s (c ∷ cs) (d ∷ ds) = follows period (events_of s c ws) (events_of s d vs) && all_follow period ws vs (suc s) cs ds

-- the period of the table of a number
unfoldable pub period_at : Tables → ℕ → ℕ
period_at [] k = 0
period_at (x ∷ xs) zero = x.1.period
period_at (x ∷ xs) (suc k) = period_at xs k

-- the period is the earlier cycle's; one without a table is refused before (17)
unfoldable pub in_order : Tables → Cycle → Cycle → Bool
in_order tabs c d =
    elim c.table [
      | none ↦ true
      | some j ↦ elim d.table [
        | none ↦ true
        | some k ↦ all_follow (period_at tabs j) (table_at tabs j) (table_at tabs k) 0 c.pins d.pins
      ]
    ]

-- ---- the first failing pair of a row of cycles

-- a cycle behind another one, or behind none
unfoldable pub fine_behind : Tables → Option Cycle → Cycle → Bool
fine_behind tabs none d = true
fine_behind tabs (some c) d = in_order tabs c d

-- where the cycle o came last, if any: the later cycle's V
unfoldable pub failing_behind : Tables → Option Cycle → List Cycle → Option ℕ
failing_behind tabs o [] = none
failing_behind tabs o (d ∷ l) = elim (fine_behind tabs o d) [ true ↦ failing_behind tabs (some d) l | false ↦ some d.at ]

unfoldable pub first_failing_pair : Tables → List Cycle → Option ℕ
first_failing_pair tabs l = failing_behind tabs none l

-- ---- 25: the first failing pair in run order

-- the cycles of each listed pattern of a run over n signals
unfoldable pub listed_cycles : ℕ → Body → List (List Cycle)
listed_cycles n done = []
listed_cycles n (vec p a r) = listed_cycles n r
listed_cycles n (set' x r) = listed_cycles n r
listed_cycles n (inner w b r) = cycles_of n (alone b) ∷ listed_cycles n r

-- pattern by pattern: between two of them nothing is asked
unfoldable pub first_among : Tables → List (List Cycle) → Option ℕ
first_among tabs [] = none
first_among tabs (l ∷ ls) = elim (first_failing_pair tabs l) [ some p ↦ some p | none ↦ first_among tabs ls ]

unfoldable pub first_in_run : Tables → ℕ → Body → Option ℕ
first_in_run tabs n r = first_among tabs (listed_cycles n r)
