-- What a pair depends on, and what is left of a row's order in its parts: for a text that is written anew with the same rows and waveforms.
use mathlib.Core.Path.{◌≡◌, refl, sym, ap, ap₂, ◌∙◌}
use Prim.Native.Nat.{ℕ, suc}
use native.Mathlib.Omega.{arith}
use mathlib.Core.Bool.{Bool, true, false, ◌&&◌}
use mathlib.Core.Option.{Option, none, some}
use mathlib.Core.List.{List, [], ◌∷◌, ◌++◌}
use lib.Dec.{eqb}
use Rattle.meaning.specs.Timing.{Event, Wave, Tables}
use Rattle.meaning.specs.Run.{unassigned, Cycle}
use Rattle.meaning.specs.Meaning.{table_at}
use Rattle.meaning.specs.Services.{wave_of}
use Rattle.meaning.proofs.Options.{or_both}
use Rattle.meaning.specs.Edges.{follows, events_of, all_follow, period_at, in_order, last_behind, fine_behind, failing_behind, first_failing_pair}
use Rattle.edges.proofs.Behind.{failing-++}

-- ---- parts of a row

module _ (tabs : Tables) where
  -- behind nothing there is one pair less
  fewer_pairs : (o : Option Cycle) (l : List Cycle) → failing_behind tabs o l ≡ none → first_failing_pair tabs l ≡ none
  unfolding first_failing_pair failing_behind fine_behind
  fewer_pairs o [] f = refl
  fewer_pairs o (d ∷ l) f = by (fine_behind tabs o d) f
    where
      by : (w : Bool) → ◌≡◌ {A = Option ℕ} (elim w [ true ↦ failing_behind tabs (some d) l | false ↦ some d.at ]) none → failing_behind tabs (some d) l ≡ none
      by true f = f
      by false f = let z : ◌≡◌ {A = ℕ} 0 1 = cc in absurd (omega arith)

  -- a row in order, cut in two
  pub parts_in_order : (a b : List Cycle) → first_failing_pair tabs (a ++ b) ≡ none → (first_failing_pair tabs a ≡ none) × (first_failing_pair tabs b ≡ none)
  unfolding first_failing_pair
  parts_in_order a b f =
      let x = or_both _ _ (sym (failing-++ tabs none a b) ∙ f) in
      (x.0, fewer_pairs (last_behind none a) b x.1)

-- ---- tables with the same waveforms and periods

events_alike : (s c : ℕ) (ws vs : List Wave) → wave_of s c ws ≡ wave_of s c vs → events_of s c ws ≡ events_of s c vs
unfolding events_of
events_alike s c ws vs e = ap (λ (o : Option (List Event)). elim (eqb c unassigned) [ true ↦ [] | false ↦ elim o [ none ↦ [] | some es ↦ es ] ]) e

-- a table's waveforms by signal and character
abbrev pub SameWaves : List Wave → List Wave → Type 0
SameWaves ws vs = (s c : ℕ) → wave_of s c ws ≡ wave_of s c vs

follow_alike : (period : ℕ) (ws ws' vs vs' : List Wave) → SameWaves ws ws' → SameWaves vs vs' → (s : ℕ) (cs ds : List ℕ)
    → all_follow period ws vs s cs ds ≡ all_follow period ws' vs' s cs ds
unfolding all_follow
follow_alike period ws ws' vs vs' h k s [] ds = refl
follow_alike period ws ws' vs vs' h k s (c ∷ cs) [] = refl
follow_alike period ws ws' vs vs' h k s (c ∷ cs) (d ∷ ds) =
    ap₂ ◌&&◌ (ap₂ (follows period) (events_alike s c ws ws' (h s c)) (events_alike s d vs vs' (k s d))) (follow_alike period ws ws' vs vs' h k (suc s) cs ds)

-- by number the same periods and waveforms
pub record SameTables (tabs tabs' : Tables) : Type 0 where
  pub periods : (k : ℕ) → period_at tabs k ≡ period_at tabs' k
  pub waves : (k : ℕ) → SameWaves (table_at tabs k) (table_at tabs' k)

-- ---- rows of the same tables and characters, wherever their V's stand

pub data SameRows : List Cycle → List Cycle → Type 0 where
  no_rows : SameRows [] []
  one_row : {d d' : Cycle} {l l' : List Cycle} → d.table ≡ d'.table → d.pins ≡ d'.pins → SameRows l l' → SameRows (d ∷ l) (d' ∷ l')

module _ (tabs tabs' : Tables) (same : SameTables tabs tabs') where
  order_alike : (c c' d d' : Cycle) → c.table ≡ c'.table → c.pins ≡ c'.pins → d.table ≡ d'.table → d.pins ≡ d'.pins → in_order tabs c d ≡ in_order tabs' c' d'
  unfolding in_order
  order_alike c c' d d' ct cp dt dp = by c.table d.table ∙ ap₂ of' ct dt ∙ ap₂ (on tabs' c'.table d'.table) cp dp
    where
      on : Tables → Option ℕ → Option ℕ → List ℕ → List ℕ → Bool
      on tabs p q cs ds = elim p [
        | none ↦ true
        | some i ↦ elim q [ none ↦ true | some j ↦ all_follow (period_at tabs i) (table_at tabs i) (table_at tabs j) 0 cs ds ]
      ]

      of' : Option ℕ → Option ℕ → Bool
      of' p q = on tabs' p q c.pins d.pins

      by : (p q : Option ℕ) → on tabs p q c.pins d.pins ≡ of' p q
      by none q = refl
      by (some i) none = refl
      by (some i) (some j) =
          ap (λ (n : ℕ). all_follow n (table_at tabs i) (table_at tabs j) 0 c.pins d.pins) (same.periods i)
          ∙ follow_alike (period_at tabs' i) (table_at tabs i) (table_at tabs' i) (table_at tabs j) (table_at tabs' j) (same.waves i) (same.waves j) 0 c.pins d.pins

  behind_alike : {l l' : List Cycle} → SameRows l l' → (c c' : Cycle) → c.table ≡ c'.table → c.pins ≡ c'.pins
      → failing_behind tabs (some c) l ≡ none → failing_behind tabs' (some c') l' ≡ none
  unfolding failing_behind fine_behind
  behind_alike no_rows c c' ct cp f = refl
  behind_alike (one_row {d} {d'} {l} {l'} dt dp h) c c' ct cp f =
      by (in_order tabs c d) (in_order tabs' c' d') (order_alike c c' d d' ct cp dt dp) f (behind_alike h d d' dt dp)
    where
      by : (v w : Bool) → v ≡ w → ◌≡◌ {A = Option ℕ} (elim v [ true ↦ failing_behind tabs (some d) l | false ↦ some d.at ]) none
          → (failing_behind tabs (some d) l ≡ none → failing_behind tabs' (some d') l' ≡ none)
          → ◌≡◌ {A = Option ℕ} (elim w [ true ↦ failing_behind tabs' (some d') l' | false ↦ some d'.at ]) none
      by true true e f ih = ih f
      by true false e f ih = let z : ◌≡◌ {A = ℕ} 0 1 = cc in absurd (omega arith)
      by false w e f ih = let z : ◌≡◌ {A = ℕ} 0 1 = cc in absurd (omega arith)

  -- THE LAW: the one is in order where the other is
  pub rows_in_order : {l l' : List Cycle} → SameRows l l' → first_failing_pair tabs l ≡ none → first_failing_pair tabs' l' ≡ none
  unfolding first_failing_pair failing_behind fine_behind
  rows_in_order no_rows f = refl
  rows_in_order (one_row {d} {d'} t p h) f = behind_alike h d d' t p f
