-- Times with a sign are counted from the earliest one, and a pair is judged as it would be with signs. From which zero times are counted makes no difference.
use mathlib.Core.Path.{◌≡◌, refl, ap, ap₂, ◌∙◌}
use Prim.Native.Nat.{ℕ, zero, suc, ◌+◌, ◌-◌, ◌<◌, ◌≤◌}
use native.Mathlib.Omega.{arith}
use mathlib.Core.Bool.{Bool, true, false, ◌&&◌}
use mathlib.Core.Option.{Option, none, some}
use mathlib.Core.List.{List, [], ◌∷◌}
use lib.Dec.{ltb, eqb}
use borrow.Author.Tests.{ltb-true, ltb-false}
use Rattle.meaning.specs.Bounds.{time_most}
use Rattle.meaning.specs.Timing.{Event, Wave, Tables, Signed, plus, minus, counted}
use Rattle.meaning.specs.Body.{Body}
use Rattle.meaning.specs.Run.{unassigned, Cycle}
use Rattle.meaning.specs.Meaning.{table_at}
use Rattle.meaning.specs.Services.{wave_of}
use Rattle.meaning.proofs.Signs.{amount}
use Rattle.meaning.specs.Edges.{Category, drive, compare, belongs, times_in, first_of, last_behind, first_time, last_time, before, apart, follows, events_of, all_follow, period_at, in_order, fine_behind, failing_behind, first_failing_pair, listed_cycles, first_among, first_in_run}
use Rattle.edges.specs.Signed.{signed_before, events_from, waves_from, tables_from}

-- two tests that hold together
pub ltb_alike : (a b c d : ℕ) → (a < b → c < d) → (c < d → a < b) → ltb a b ≡ ltb c d
ltb_alike a b c d f g = by (ltb a b) refl (ltb c d) refl
  where
    by : (x : Bool) → ltb a b ≡ x → (y : Bool) → ltb c d ≡ y → x ≡ y
    by true h true k = refl
    by false h false k = refl
    by true h false k = absurd (omega (arith, f (ltb-true a b h), ltb-false c d k))
    by false h true k = absurd (omega (arith, g (ltb-true c d k), ltb-false a b h))

-- ---- with a sign

pub counted_before : (l f : Signed) (period : ℕ) → amount l ≤ time_most → amount f ≤ time_most → ltb (counted l) (period + counted f) ≡ signed_before l period f
unfolding amount counted signed_before
counted_before (plus l) (plus f) period h k = ltb_alike (time_most + l) (period + (time_most + f)) l (period + f) (λ x. omega arith) (λ x. omega arith)
counted_before (plus l) (minus f) period h k = ltb_alike (time_most + l) (period + (time_most - f)) (l + f) period (λ x. omega arith) (λ x. omega arith)
counted_before (minus l) (plus f) period h k = ltb_alike (time_most - l) (period + (time_most + f)) 0 (l + (period + f)) (λ x. omega arith) (λ x. omega arith)
counted_before (minus l) (minus f) period h k = ltb_alike (time_most - l) (period + (time_most - f)) f (l + period) (λ x. omega arith) (λ x. omega arith)

-- ---- from a zero that lies k earlier

module _ (k : ℕ) where
  -- a time that there may be
  moved : Option ℕ → Option ℕ
  moved none = none
  moved (some t) = some (k + t)

  moved_all : List ℕ → List ℕ
  moved_all [] = []
  moved_all (t ∷ l) = (k + t) ∷ moved_all l

  times_from : (c : Category) (es : List Event) → times_in c (events_from k es) ≡ moved_all (times_in c es)
  unfolding times_in events_from moved_all
  times_from c [] = refl
  times_from c (e ∷ es) = by (belongs c e.letter) (times_from c es)
    where
      by : (w : Bool) → times_in c (events_from k es) ≡ moved_all (times_in c es)
          → ◌≡◌ {A = List ℕ} (elim w [ true ↦ (k + e.time) ∷ times_in c (events_from k es) | false ↦ times_in c (events_from k es) ])
          (moved_all (elim w [ true ↦ e.time ∷ times_in c es | false ↦ times_in c es ]))
      by true h = ap (λ (l : List ℕ). (k + e.time) ∷ l) h
      by false h = h

  first_moved : (l : List ℕ) → first_of (moved_all l) ≡ moved (first_of l)
  unfolding first_of moved moved_all
  first_moved [] = refl
  first_moved (t ∷ l) = refl

  last_moved : (o : Option ℕ) (l : List ℕ) → last_behind (moved o) (moved_all l) ≡ moved (last_behind o l)
  unfolding last_behind moved moved_all
  last_moved o [] = refl
  last_moved o (t ∷ l) = last_moved (some t) l

  before_moved : (period : ℕ) (l f : Option ℕ) → before period (moved l) (moved f) ≡ before period l f
  unfolding before moved
  before_moved period none f = refl
  before_moved period (some l) none = refl
  before_moved period (some l) (some f) = ltb_alike (k + l) (period + (k + f)) l (period + f) (λ x. omega arith) (λ x. omega arith)

  apart_from : (period : ℕ) (c : Category) (es fs : List Event) → apart period c (events_from k es) (events_from k fs) ≡ apart period c es fs
  unfolding apart first_time last_time moved
  apart_from period c es fs =
      ap₂ (before period) (ap (last_behind none) (times_from c es) ∙ last_moved none (times_in c es)) (ap first_of (times_from c fs) ∙ first_moved (times_in c fs))
      ∙ before_moved period (last_behind none (times_in c es)) (first_of (times_in c fs))

  events_from_lem : (s c : ℕ) (ws : List Wave) → events_of s c (waves_from k ws) ≡ events_from k (events_of s c ws)
  unfolding events_of wave_of waves_from events_from
  events_from_lem s c [] = by (eqb c unassigned)
    where
      by : (w : Bool) → ◌≡◌ {A = List Event} (elim w [ true ↦ [] | false ↦ [] ]) (events_from k (elim w [ true ↦ [] | false ↦ [] ]))
      by true = refl
      by false = refl
  events_from_lem s c (x ∷ ws) = by (eqb c unassigned) (eqb x.signal s && eqb x.char c) (events_from_lem s c ws)
    where
      of : Bool → Option (List Event) → List Event
      of w o = elim w [ true ↦ [] | false ↦ elim o [ none ↦ [] | some es ↦ es ] ]

      by : (w v : Bool) → of w (wave_of s c (waves_from k ws)) ≡ events_from k (of w (wave_of s c ws))
          → of w (elim v [ true ↦ some (events_from k x.events) | false ↦ wave_of s c (waves_from k ws) ])
          ≡ events_from k (of w (elim v [ true ↦ some x.events | false ↦ wave_of s c ws ]))
      by true v h = refl
      by false true h = refl
      by false false h = h

  follow_from : (period : ℕ) (ws vs : List Wave) (s : ℕ) (cs ds : List ℕ) → all_follow period (waves_from k ws) (waves_from k vs) s cs ds ≡ all_follow period ws vs s cs ds
  unfolding all_follow follows
  follow_from period ws vs s [] ds = refl
  follow_from period ws vs s (c ∷ cs) [] = refl
  follow_from period ws vs s (c ∷ cs) (d ∷ ds) =
      let es = events_of s c ws in
      let fs = events_of s d vs in
      let one : (g : Category) → apart period g (events_of s c (waves_from k ws)) (events_of s d (waves_from k vs)) ≡ apart period g es fs =
      λ g. ap₂ (apart period g) (events_from_lem s c ws) (events_from_lem s d vs) ∙ apart_from period g es fs in
      ap₂ ◌&&◌ (ap₂ ◌&&◌ (one drive) (one compare)) (follow_from period ws vs (suc s) cs ds)

  period_from : (tabs : Tables) (j : ℕ) → period_at (tables_from k tabs) j ≡ period_at tabs j
  unfolding period_at tables_from
  period_from [] j = refl
  period_from (x ∷ xs) zero = refl
  period_from (x ∷ xs) (suc j) = period_from xs j

  table_from_lem : (tabs : Tables) (j : ℕ) → table_at (tables_from k tabs) j ≡ waves_from k (table_at tabs j)
  unfolding table_at tables_from waves_from
  table_from_lem [] j = refl
  table_from_lem (x ∷ xs) zero = refl
  table_from_lem (x ∷ xs) (suc j) = table_from_lem xs j

  pub order_from : (tabs : Tables) (c d : Cycle) → in_order (tables_from k tabs) c d ≡ in_order tabs c d
  unfolding in_order
  order_from tabs c d = by c.table d.table
    where
      on : Tables → Option ℕ → Option ℕ → Bool
      on tabs p q = elim p [
        | none ↦ true
        | some i ↦ elim q [ none ↦ true | some j ↦ all_follow (period_at tabs i) (table_at tabs i) (table_at tabs j) 0 c.pins d.pins ]
      ]

      by : (p q : Option ℕ) → on (tables_from k tabs) p q ≡ on tabs p q
      by none q = refl
      by (some i) none = refl
      by (some i) (some j) = rw (period_from tabs i, table_from_lem tabs i, table_from_lem tabs j) (follow_from (period_at tabs i) (table_at tabs i) (table_at tabs j) 0 c.pins d.pins)

  fine_from_lem : (tabs : Tables) (o : Option Cycle) (d : Cycle) → fine_behind (tables_from k tabs) o d ≡ fine_behind tabs o d
  unfolding fine_behind
  fine_from_lem tabs none d = refl
  fine_from_lem tabs (some c) d = order_from tabs c d

  failing_from : (tabs : Tables) (o : Option Cycle) (l : List Cycle) → failing_behind (tables_from k tabs) o l ≡ failing_behind tabs o l
  unfolding failing_behind
  failing_from tabs o [] = refl
  failing_from tabs o (d ∷ l) =
      ap₂ (λ (w : Bool) (q : Option ℕ). elim w [ true ↦ q | false ↦ some d.at ]) (fine_from_lem tabs o d) (failing_from tabs (some d) l)

  among_from : (tabs : Tables) (ls : List (List Cycle)) → first_among (tables_from k tabs) ls ≡ first_among tabs ls
  unfolding first_among first_failing_pair
  among_from tabs [] = refl
  among_from tabs (l ∷ ls) = ap₂ (λ (o q : Option ℕ). elim o [ some p ↦ some p | none ↦ q ]) (failing_from tabs none l) (among_from tabs ls)

  -- THE LAW: the same pair fails first
  pub run_from : (tabs : Tables) (n : ℕ) (r : Body) → first_in_run (tables_from k tabs) n r ≡ first_in_run tabs n r
  unfolding first_in_run
  run_from tabs n r = among_from tabs (listed_cycles n r)
