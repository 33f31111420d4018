-- What is found is a first failing pair, and where nothing is found there is none: so the definition says of any row what the request says.
use mathlib.Core.Path.{◌≡◌, refl, sym, ap, ◌∙◌, subst}
use Prim.Native.Nat.{ℕ, suc, ◌+◌, ◌≤◌}
use native.Mathlib.Nat.{zero-add, add-zero, add-suc, suc-add}
use native.Mathlib.Omega.{arith}
use mathlib.Core.Bool.{Bool, true, false, ◌&&◌}
use mathlib.Core.Option.{Option, none, some, or_else}
use mathlib.Core.List.{List, [], ◌∷◌, ◌++◌, append_assoc}
use lib.ListN.{get_or}
use borrow.Author.Tests.{ltb-false}
use Rattle.meaning.specs.Timing.{Event, Wave, Tables}
use Rattle.meaning.specs.Run.{unassigned, Cycle}
use Rattle.meaning.specs.Meaning.{table_at}
use Rattle.meaning.specs.Edges.{Category, drive, compare, last_behind, first_time, last_time, before, apart, follows, events_of, all_follow, period_at, in_order, fine_behind, failing_behind, first_failing_pair}
use Rattle.edges.specs.Pairs.{FirstPair, Across}
use Rattle.edges.proofs.Behind.{last-++, failing-++}

-- ---- rows

module _ (tabs : Tables) where
  -- one cycle more, in order behind the last
  passed_more : (a : List Cycle) (c d : Cycle) → first_failing_pair tabs (a ++ c ∷ []) ≡ none → in_order tabs c d ≡ true
      → first_failing_pair tabs ((a ++ c ∷ []) ++ d ∷ []) ≡ none
  unfolding first_failing_pair failing_behind fine_behind last_behind or_else
  passed_more a c d f e =
      let last : last_behind none (a ++ c ∷ []) ≡ some c = last-++ none a (c ∷ []) in
      failing-++ tabs none (a ++ c ∷ []) (d ∷ [])
      ∙ ap (λ (x : Option ℕ). or_else x (failing_behind tabs (last_behind none (a ++ c ∷ [])) (d ∷ []))) f
      ∙ ap (λ (o : Option Cycle). failing_behind tabs o (d ∷ [])) last
      ∙ ap (λ (w : Bool). elim w [ true ↦ none | false ↦ some d.at ]) e

  found_behind : (a : List Cycle) (c : Cycle) (l : List Cycle) (p : ℕ) → first_failing_pair tabs (a ++ c ∷ []) ≡ none → failing_behind tabs (some c) l ≡ some p
      → FirstPair tabs (a ++ c ∷ l) p
  unfolding failing_behind fine_behind
  found_behind a c [] p g f = let z : ◌≡◌ {A = ℕ} 0 1 = cc in absurd (omega arith)
  found_behind a c (d ∷ l) p g f = by (in_order tabs c d) refl f (found_behind (a ++ c ∷ []) d l p)
    where
      by : (w : Bool) → in_order tabs c d ≡ w → ◌≡◌ {A = Option ℕ} (elim w [ true ↦ failing_behind tabs (some d) l | false ↦ some d.at ]) (some p)
          → (first_failing_pair tabs ((a ++ c ∷ []) ++ d ∷ []) ≡ none → failing_behind tabs (some d) l ≡ some p → FirstPair tabs ((a ++ c ∷ []) ++ d ∷ l) p)
          → FirstPair tabs (a ++ c ∷ d ∷ l) p
      by true e f ih = subst (λ (r : List Cycle). FirstPair tabs r p) (append_assoc a (c ∷ []) (d ∷ l)) (ih (passed_more a c d g e) f)
      by false e f ih = record { before = a; earlier = c; later = d; behind = l; row = refl; passed = g; fails = e; place = let q : d.at ≡ p = cc in q }

  -- THE LAW, where one is found
  pub found : (l : List Cycle) (p : ℕ) → first_failing_pair tabs l ≡ some p → FirstPair tabs l p
  unfolding first_failing_pair failing_behind fine_behind
  found [] p f = let z : ◌≡◌ {A = ℕ} 0 1 = cc in absurd (omega arith)
  found (c ∷ l) p f = found_behind [] c l p refl f

  -- and where none is, each two neighbours are in order
  pub none_found : (a : List Cycle) (c d : Cycle) (l : List Cycle) → first_failing_pair tabs (a ++ c ∷ d ∷ l) ≡ none → in_order tabs c d ≡ true
  unfolding first_failing_pair failing_behind fine_behind or_else
  none_found a c d l f = by (failing_behind tabs none a) (sym (failing-++ tabs none a (c ∷ d ∷ l)) ∙ f)
    where
      here : (v w : Bool) → in_order tabs c d ≡ w
          → ◌≡◌ {A = Option ℕ} (elim v [ true ↦ elim w [ true ↦ failing_behind tabs (some d) l | false ↦ some d.at ] | false ↦ some c.at ]) none → in_order tabs c d ≡ true
      here v true e f = e
      here true false e f = let z : ◌≡◌ {A = ℕ} 0 1 = cc in absurd (omega arith)
      here false false e f = let z : ◌≡◌ {A = ℕ} 0 1 = cc in absurd (omega arith)

      by : (x : Option ℕ) → or_else x (failing_behind tabs (last_behind none a) (c ∷ d ∷ l)) ≡ none → in_order tabs c d ≡ true
      by none f = here (fine_behind tabs (last_behind none a) c) (in_order tabs c d) refl f
      by (some q) f = let z : ◌≡◌ {A = ℕ} 0 1 = cc in absurd (omega arith)

-- ---- a pair

-- of two tests one fails
data OneFails (a b : Bool) : Type 0 where
  left : a ≡ false → OneFails a b
  right : b ≡ false → OneFails a b

one_fails : (a b : Bool) → a && b ≡ false → OneFails a b
one_fails true b h = right h
one_fails false b h = left refl

-- two times that are there
record Late (period : ℕ) (l f : Option ℕ) : Type 0 where
  last : ℕ
  first : ℕ
  is_last : l ≡ some last
  is_first : f ≡ some first
  not_before : period + first ≤ last

late : (period : ℕ) (l f : Option ℕ) → before period l f ≡ false → Late period l f
unfolding before
late period none f h = let z : ◌≡◌ {A = ℕ} 0 1 = cc in absurd (omega arith)
late period (some l) none h = let z : ◌≡◌ {A = ℕ} 0 1 = cc in absurd (omega arith)
late period (some l) (some f) h = record { last = l; first = f; is_last = refl; is_first = refl; not_before = ltb-false l (period + f) h }

abbrev AtSignal : ℕ → List Wave → List Wave → ℕ → ℕ → ℕ → Type 0
AtSignal period ws vs s c d = (k : Category) × Late period (last_time k (events_of s c ws)) (first_time k (events_of s d vs))

one_signal : (period : ℕ) (ws vs : List Wave) (s c d : ℕ) → follows period (events_of s c ws) (events_of s d vs) ≡ false → AtSignal period ws vs s c d
unfolding follows apart
one_signal period ws vs s c d h = by (one_fails _ _ h)
  where
    es : List Event
    es = events_of s c ws

    fs : List Event
    fs = events_of s d vs

    by : OneFails (apart period drive es fs) (apart period compare es fs) → AtSignal period ws vs s c d
    by (left e) = (drive, late period _ _ e)
    by (right e) = (compare, late period _ _ e)

some_signal : (period : ℕ) (ws vs : List Wave) (s : ℕ) (cs ds : List ℕ) → all_follow period ws vs s cs ds ≡ false
    → (i : ℕ) × AtSignal period ws vs (s + i) (get_or cs i unassigned) (get_or ds i unassigned)
unfolding all_follow
some_signal period ws vs s [] ds h = let z : ◌≡◌ {A = ℕ} 0 1 = cc in absurd (omega arith)
some_signal period ws vs s (c ∷ cs) [] h = let z : ◌≡◌ {A = ℕ} 0 1 = cc in absurd (omega arith)
some_signal period ws vs s (c ∷ cs) (d ∷ ds) h = by (one_fails _ _ h) (some_signal period ws vs (suc s) cs ds)
  where
    by : OneFails (follows period (events_of s c ws) (events_of s d vs)) (all_follow period ws vs (suc s) cs ds)
        → (all_follow period ws vs (suc s) cs ds ≡ false → (i : ℕ) × AtSignal period ws vs (suc s + i) (get_or cs i unassigned) (get_or ds i unassigned))
        → (i : ℕ) × AtSignal period ws vs (s + i) (get_or (c ∷ cs) i unassigned) (get_or (d ∷ ds) i unassigned)
    by (left e) ih = (0, rw add-zero (one_signal period ws vs s c d e))
    by (right e) ih =
        let x = ih e in
        (suc x.0, subst (λ (n : ℕ). AtSignal period ws vs n (get_or cs x.0 unassigned) (get_or ds x.0 unassigned)) (rw (suc-add, add-suc)) x.1)

-- THE LAW: what makes a pair fail
pub across : (tabs : Tables) (c d : Cycle) → in_order tabs c d ≡ false → Across tabs c d
unfolding in_order
across tabs c d h = by c.table d.table refl refl h
  where
    by : (p q : Option ℕ) → c.table ≡ p → d.table ≡ q
        → ◌≡◌ {A = Bool} (elim p [
          | none ↦ true
          | some i ↦ elim q [ none ↦ true | some j ↦ all_follow (period_at tabs i) (table_at tabs i) (table_at tabs j) 0 c.pins d.pins ]
        ]) false
        → Across tabs c d
    by none q e f h = let z : ◌≡◌ {A = ℕ} 0 1 = cc in absurd (omega arith)
    by (some i) none e f h = let z : ◌≡◌ {A = ℕ} 0 1 = cc in absurd (omega arith)
    by (some i) (some j) e f h =
        let x = some_signal (period_at tabs i) (table_at tabs i) (table_at tabs j) 0 c.pins d.pins h in
        let n = x.0 in
        let y = subst (λ (k : ℕ). AtSignal (period_at tabs i) (table_at tabs i) (table_at tabs j) k (get_or c.pins n unassigned) (get_or d.pins n unassigned)) (zero-add n) x.1 in
        record {
          earlier = i;
          later = j;
          its_table = e;
          next_table = f;
          signal = n;
          category = y.0;
          last = y.1.last;
          first = y.1.first;
          is_last = y.1.is_last;
          is_first = y.1.is_first;
          not_before = y.1.not_before;
        }
