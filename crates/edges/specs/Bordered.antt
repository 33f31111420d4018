-- A border between the cycles: for a signal and a category a time which no cycle's last event reaches in the next cycle, and before which none's first comes. A
-- signal that has one in each category need not be looked at; the earliest first time is one, if any is. Only characters that are used are asked for one.
use Rattle.std.specs.Prelude.{ℕ, ◌+◌, ◌<◌, ◌≤◌, ◌≡◌, Bool, true, false, List, [], ◌∷◌, get_or, eqb}
use Rattle.std.proofs.Math.Option.{some}
use Rattle.meaning.specs.Timing.{Event, Tables}
use Rattle.meaning.specs.Run.{unassigned, Cycle}
use Rattle.meaning.specs.Meaning.{table_at}
use Rattle.meaning.specs.Services.{wave_of}
use Rattle.meaning.specs.Edges.{Category, first_time, last_time, period_at}

-- is a character of a signal used at all
abbrev pub Used : Type 0
Used = ℕ → ℕ → Bool

pub record Bordered (tabs : Tables) (used : Used) (s : ℕ) (border : Category → ℕ) : Type 0 where
  pub late : (j c : ℕ) (es : List Event) → used s c ≡ true → wave_of s c (table_at tabs j) ≡ some es → (k : Category) (t : ℕ) → last_time k es ≡ some t
      → t < period_at tabs j + border k
  pub soon : (j c : ℕ) (es : List Event) → used s c ≡ true → wave_of s c (table_at tabs j) ≡ some es → (k : Category) (t : ℕ) → first_time k es ≡ some t
      → border k ≤ t

-- unassigned, or used
abbrev pub Gives : Used → ℕ → ℕ → Type 0
Gives used s c = eqb c unassigned ≡ false → used s c ≡ true

-- each cycle gives its signals what is used
unfoldable pub AllGive : Used → List Cycle → Type 0
AllGive used [] = Unit {0}
AllGive used (c ∷ l) = ((s : ℕ) → Gives used s (get_or c.pins s unassigned)) × AllGive used l
