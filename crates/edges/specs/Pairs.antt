-- The first failing pair in plain words, over any row of cycles: two neighbours, all before them in order, and a signal with a category in which the earlier one's
-- last event does not come before the later one's first.
use Rattle.std.specs.Prelude.{ℕ, ◌+◌, ◌≤◌, ◌≡◌, false, List, [], ◌∷◌, ◌++◌, get_or}
use Rattle.std.proofs.Math.Option.{none, some}
use Rattle.meaning.specs.Timing.{Tables}
use Rattle.meaning.specs.Run.{unassigned, Cycle}
use Rattle.meaning.specs.Meaning.{table_at}
use Rattle.meaning.specs.Edges.{Category, first_time, last_time, events_of, period_at, in_order, first_failing_pair}

-- p is the place of the later one's V
pub record FirstPair (tabs : Tables) (l : List Cycle) (p : ℕ) : Type 0 where
  pub before : List Cycle
  pub earlier : Cycle
  pub later : Cycle
  pub behind : List Cycle
  pub row : l ≡ before ++ earlier ∷ later ∷ behind
  pub passed : first_failing_pair tabs (before ++ earlier ∷ []) ≡ none
  pub fails : in_order tabs earlier later ≡ false
  pub place : later.at ≡ p

-- the signal and the category, with the two events' times
pub record Across (tabs : Tables) (c d : Cycle) : Type 0 where
  pub earlier : ℕ
  pub later : ℕ
  pub its_table : c.table ≡ some earlier
  pub next_table : d.table ≡ some later
  pub signal : ℕ
  pub category : Category
  pub last : ℕ
  pub first : ℕ
  pub is_last : last_time category (events_of signal (get_or c.pins signal unassigned) (table_at tabs earlier)) ≡ some last
  pub is_first : first_time category (events_of signal (get_or d.pins signal unassigned) (table_at tabs later)) ≡ some first
  pub not_before : period_at tabs earlier + first ≤ last
