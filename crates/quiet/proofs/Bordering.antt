-- Tables whose events lie within their cycles have a border between the cycles: the cycle's start.
use Prim.Native.Nat.{ℕ, zero, suc}
use native.Mathlib.Omega.{arith}
use mathlib.Core.Path.{◌≡◌, subst}
use mathlib.Core.Bool.{Bool, true, false, ◌&&◌}
use mathlib.Core.Option.{Option, none, some}
use mathlib.Core.List.{List, [], ◌∷◌}
use lib.Dec.{eqb}
use Rattle.meaning.specs.Timing.{Event, Wave, Tables}
use Rattle.meaning.specs.Body.{Body}
use Rattle.meaning.specs.Meaning.{table_at}
use Rattle.meaning.specs.Services.{wave_of}
use Rattle.meaning.specs.Edges.{Category, belongs, times_in, first_of, last_behind, first_time, last_time, period_at, first_in_run}
use Rattle.edges.specs.Bordered.{Bordered}
use Rattle.edges.proofs.Bordered.{any, border_runs}
use Rattle.quiet.specs.Quiet.{earliest, Inside, Each, EventsIn, WavesIn, TablesIn}

-- ---- of a table's waveforms

table_at_lem : (tabs : Tables) (j : ℕ) → TablesIn tabs → WavesIn (period_at tabs j) (table_at tabs j)
unfolding Each table_at period_at
table_at_lem [] j h = tt
table_at_lem (x ∷ xs) zero h = h.0
table_at_lem (x ∷ xs) (suc j) h = table_at_lem xs j h.1

wave_in : (period s c : ℕ) (ws : List Wave) (es : List Event) → WavesIn period ws → wave_of s c ws ≡ some es → EventsIn period es
unfolding Each wave_of
wave_in period s c [] es h e = let z : ◌≡◌ {A = ℕ} 0 1 = cc in absurd (omega arith)
wave_in period s c (w ∷ ws) es h e = by (eqb w.signal s && eqb w.char c) e (wave_in period s c ws es h.1)
  where
    by : (b : Bool) → ◌≡◌ {A = Option (List Event)} (elim b [ true ↦ some w.events | false ↦ wave_of s c ws ]) (some es) → (wave_of s c ws ≡ some es → EventsIn period es)
        → EventsIn period es
    by true e ih = let q : w.events ≡ es = cc in subst (EventsIn period) q h.0
    by false e ih = ih e

-- ---- of a category's times

times_in_lem : (period : ℕ) (k : Category) (es : List Event) → EventsIn period es → Each (Inside earliest period) (times_in k es)
unfolding Each times_in
times_in_lem period k [] h = tt
times_in_lem period k (e ∷ es) h = by (belongs k e.letter) (times_in_lem period k es h.1)
  where
    by : (w : Bool) → Each (Inside earliest period) (times_in k es) → Each (Inside earliest period) (elim w [ true ↦ e.time ∷ times_in k es | false ↦ times_in k es ])
    by true r = (h.0, r)
    by false r = r

first_in : (P : ℕ → Type 0) (l : List ℕ) (t : ℕ) → Each P l → first_of l ≡ some t → P t
unfolding Each first_of
first_in P [] t h e = let z : ◌≡◌ {A = ℕ} 0 1 = cc in absurd (omega arith)
first_in P (x ∷ l) t h e = let q : x ≡ t = cc in subst P q h.0

last_in : (P : ℕ → Type 0) (l : List ℕ) (x t : ℕ) → P x → Each P l → last_behind (some x) l ≡ some t → P t
unfolding Each last_behind
last_in P [] x t i h e = let q : x ≡ t = cc in subst P q i
last_in P (y ∷ l) x t i h e = last_in P l y t h.0 h.1 e

last_of : (P : ℕ → Type 0) (l : List ℕ) (t : ℕ) → Each P l → last_behind none l ≡ some t → P t
unfolding Each last_behind
last_of P [] t h e = let z : ◌≡◌ {A = ℕ} 0 1 = cc in absurd (omega arith)
last_of P (x ∷ l) t h e = last_in P l x t h.0 h.1 e

-- ---- THE LAW: no pair of neighbours is out of order

inside_bordered : (tabs : Tables) → TablesIn tabs → (s : ℕ) → Bordered tabs any s (λ k. earliest)
unfolding last_time first_time
inside_bordered tabs h s = record {
  late = λ j c es u e k t l.
      let i = last_of (Inside earliest (period_at tabs j)) (times_in k es) t (times_in_lem (period_at tabs j) k es (wave_in (period_at tabs j) s c (table_at tabs j) es (table_at_lem tabs j h) e)) l in
      omega (arith, i.below);
  soon = λ j c es u e k t l. (first_in (Inside earliest (period_at tabs j)) (times_in k es) t (times_in_lem (period_at tabs j) k es (wave_in (period_at tabs j) s c (table_at tabs j) es (table_at_lem tabs j h) e)) l).from;
}

pub inside_runs : (tabs : Tables) → TablesIn tabs → (n : ℕ) (r : Body) → first_in_run tabs n r ≡ none
inside_runs tabs h = border_runs tabs (λ s k. earliest) (inside_bordered tabs h)
