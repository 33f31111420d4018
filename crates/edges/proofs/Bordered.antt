-- Where a signal has a border it is in order in every pair; where all signals have one no pair fails, whatever is played.
use mathlib.Core.Path.{◌≡◌, refl, ap, ap₂}
use Prim.Native.Nat.{ℕ, ◌+◌, ◌<◌, ◌≤◌}
use native.Mathlib.Omega.{arith}
use mathlib.Core.Bool.{Bool, true, false, ◌&&◌}
use mathlib.Core.Option.{Option, none, some}
use mathlib.Core.List.{List, [], ◌∷◌}
use lib.ListN.{get_or}
use lib.Dec.{eqb}
use borrow.Author.Tests.{lt-ltb}
use Rattle.meaning.specs.Timing.{Event, Tables}
use Rattle.meaning.specs.Body.{Body}
use Rattle.meaning.specs.Run.{unassigned, Cycle}
use Rattle.meaning.specs.Meaning.{table_at}
use Rattle.meaning.specs.Services.{wave_of}
use Rattle.meaning.specs.Edges.{Category, drive, compare, times_in, first_of, last_behind, first_time, last_time, before, apart, follows, events_of, all_follow, period_at, in_order, fine_behind, failing_behind, first_failing_pair, listed_cycles, first_among, first_in_run}
use Rattle.edges.specs.Bordered.{Used, Bordered, Gives, AllGive}
use Rattle.edges.proofs.Signals.{At, each_order}

-- a last time below a border, and a first time from it on
before_border : (period border : ℕ) (l f : Option ℕ) → ((t : ℕ) → l ≡ some t → t < period + border) → ((t : ℕ) → f ≡ some t → border ≤ t) → before period l f ≡ true
unfolding before
before_border period border none f h k = refl
before_border period border (some l) none h k = refl
before_border period border (some l) (some f) h k = lt-ltb l (period + f) (omega (arith, h l refl, k f refl))

-- ---- one signal

module _ (tabs : Tables) (used : Used) (s : ℕ) (border : Category → ℕ) (has : Bordered tabs used s border) where
  -- without events nothing is asked; else there is a waveform of a character that is used
  late_events : (j c : ℕ) → Gives used s c → (k : Category) (t : ℕ) → last_time k (events_of s c (table_at tabs j)) ≡ some t → t < period_at tabs j + border k
  unfolding events_of last_time times_in last_behind
  late_events j c g k t = by (eqb c unassigned) refl (wave_of s c (table_at tabs j)) refl
    where
      by : (w : Bool) → eqb c unassigned ≡ w → (o : Option (List Event)) → wave_of s c (table_at tabs j) ≡ o
          → last_time k (elim w [ true ↦ [] | false ↦ elim o [ none ↦ [] | some es ↦ es ] ]) ≡ some t → t < period_at tabs j + border k
      by true u o e f = let z : ◌≡◌ {A = ℕ} 0 1 = cc in absurd (omega arith)
      by false u none e f = let z : ◌≡◌ {A = ℕ} 0 1 = cc in absurd (omega arith)
      by false u (some es) e f = has.late j c es (g u) e k t f

  soon_events : (j c : ℕ) → Gives used s c → (k : Category) (t : ℕ) → first_time k (events_of s c (table_at tabs j)) ≡ some t → border k ≤ t
  unfolding events_of first_time times_in first_of
  soon_events j c g k t = by (eqb c unassigned) refl (wave_of s c (table_at tabs j)) refl
    where
      by : (w : Bool) → eqb c unassigned ≡ w → (o : Option (List Event)) → wave_of s c (table_at tabs j) ≡ o
          → first_time k (elim w [ true ↦ [] | false ↦ elim o [ none ↦ [] | some es ↦ es ] ]) ≡ some t → border k ≤ t
      by true u o e f = let z : ◌≡◌ {A = ℕ} 0 1 = cc in absurd (omega arith)
      by false u none e f = let z : ◌≡◌ {A = ℕ} 0 1 = cc in absurd (omega arith)
      by false u (some es) e f = has.soon j c es (g u) e k t f

  -- THE LAW of a signal with a border
  pub border_fine : (i j c d : ℕ) → Gives used s c → Gives used s d → At (period_at tabs i) (table_at tabs i) (table_at tabs j) s c d
  unfolding follows apart
  border_fine i j c d g h =
      let one : (k : Category) → apart (period_at tabs i) k (events_of s c (table_at tabs i)) (events_of s d (table_at tabs j)) ≡ true =
      λ k. before_border (period_at tabs i) (border k) _ _ (late_events i c g k) (soon_events j d h k) in
      ap₂ ◌&&◌ (one drive) (one compare)

-- ---- all signals

without_table : (tabs : Tables) (c d : Cycle) → c.table ≡ none → in_order tabs c d ≡ true
unfolding in_order
without_table tabs c d e =
    ap (λ (x : Option ℕ). elim x [
      | none ↦ true
      | some i ↦ elim d.table [ none ↦ true | some j ↦ all_follow (period_at tabs i) (table_at tabs i) (table_at tabs j) 0 c.pins d.pins ]
    ]) e

without_next : (tabs : Tables) (c d : Cycle) → d.table ≡ none → in_order tabs c d ≡ true
unfolding in_order
without_next tabs c d e = by c.table d.table e
  where
    by : (p q : Option ℕ) → q ≡ none
        → ◌≡◌ {A = Bool} (elim p [
          | none ↦ true
          | some i ↦ elim q [ none ↦ true | some j ↦ all_follow (period_at tabs i) (table_at tabs i) (table_at tabs j) 0 c.pins d.pins ]
        ]) true
    by none q e = refl
    by (some i) none e = refl
    by (some i) (some j) e = let z : ◌≡◌ {A = ℕ} 0 1 = cc in absurd (omega arith)

module _ (tabs : Tables) (used : Used) (border : ℕ → Category → ℕ) (has : (s : ℕ) → Bordered tabs used s (border s)) where
  all_in_order : (c d : Cycle) → ((s : ℕ) → Gives used s (get_or c.pins s unassigned)) → ((s : ℕ) → Gives used s (get_or d.pins s unassigned)) → in_order tabs c d ≡ true
  all_in_order c d g h = by c.table d.table refl refl
    where
      by : (p q : Option ℕ) → c.table ≡ p → d.table ≡ q → in_order tabs c d ≡ true
      by none q e f = without_table tabs c d e
      by (some i) none e f = without_next tabs c d f
      by (some i) (some j) e f = each_order tabs i j c d e f λ s. border_fine tabs used s (border s) (has s) i j _ _ (g s) (h s)

  passes_behind : (c : Cycle) → ((s : ℕ) → Gives used s (get_or c.pins s unassigned)) → (l : List Cycle) → AllGive used l → failing_behind tabs (some c) l ≡ none
  unfolding failing_behind fine_behind AllGive
  passes_behind c g [] h = refl
  passes_behind c g (d ∷ l) h =
      ap₂ (λ (w : Bool) (q : Option ℕ). elim w [ true ↦ q | false ↦ some d.at ]) (all_in_order c d g h.0) (passes_behind d h.0 l h.1)

  -- THE LAW of a row of cycles
  pub border_passes : (l : List Cycle) → AllGive used l → first_failing_pair tabs l ≡ none
  unfolding first_failing_pair failing_behind fine_behind AllGive
  border_passes [] h = refl
  border_passes (c ∷ l) h = passes_behind c h.0 l h.1

-- ---- whatever is used

pub any : Used
any s c = true

all_give : (l : List Cycle) → AllGive any l
unfolding any AllGive
all_give [] = tt
all_give (c ∷ l) = (λ s e. refl, all_give l)

module _ (tabs : Tables) (border : ℕ → Category → ℕ) (has : (s : ℕ) → Bordered tabs any s (border s)) where
  none_among : (ls : List (List Cycle)) → first_among tabs ls ≡ none
  unfolding first_among
  none_among [] = refl
  none_among (l ∷ ls) =
      ap₂ (λ (o q : Option ℕ). elim o [ some p ↦ some p | none ↦ q ]) (border_passes tabs any border has l (all_give l)) (none_among ls)

  pub border_runs : (n : ℕ) (r : Body) → first_in_run tabs n r ≡ none
  unfolding first_in_run
  border_runs n r = none_among (listed_cycles n r)
