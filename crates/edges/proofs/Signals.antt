-- A pair signal by signal, by its number: for a search over signals, and to look only at those that changed.
use mathlib.Core.Path.{◌≡◌, refl, sym, ap₂, ◌∙◌, subst}
use Prim.Native.Nat.{ℕ, zero, suc, ◌+◌}
use native.Mathlib.Nat.{zero-add, add-zero, add-suc, suc-add}
use mathlib.Core.Bool.{true, ◌&&◌}
use mathlib.Core.Option.{Option, none, some}
use mathlib.Core.List.{List, [], ◌∷◌}
use lib.ListN.{get_or}
use Rattle.tokens.proofs.Bools.{both}
use Rattle.meaning.specs.Timing.{Wave, Tables}
use Rattle.meaning.specs.Run.{unassigned, Cycle}
use Rattle.meaning.specs.Meaning.{table_at}
use Rattle.meaning.specs.Edges.{drive, compare, times_in, first_of, last_behind, first_time, last_time, before, apart, follows, events_of, all_follow, period_at, in_order}

-- where one of the two is unassigned nothing is asked
none_before : (period : ℕ) (s d : ℕ) (ws vs : List Wave) → follows period (events_of s unassigned ws) (events_of s d vs) ≡ true
unfolding follows apart last_time times_in last_behind before events_of
none_before period s d ws vs = refl

skipped : (period : ℕ) (l : Option ℕ) → before period l none ≡ true
unfolding before
skipped period none = refl
skipped period (some l) = refl

none_behind : (period : ℕ) (s c : ℕ) (ws vs : List Wave) → follows period (events_of s c ws) (events_of s unassigned vs) ≡ true
unfolding follows apart first_time times_in first_of events_of
none_behind period s c ws vs = ap₂ ◌&&◌ (skipped period (last_time drive (events_of s c ws))) (skipped period (last_time compare (events_of s c ws)))

module _ (period : ℕ) (ws vs : List Wave) where
  -- signal s, with its character in each of two cycles
  abbrev pub At : ℕ → ℕ → ℕ → Type 0
  At s c d = follows period (events_of s c ws) (events_of s d vs) ≡ true

  pub follow_each : (s : ℕ) (cs ds : List ℕ) → all_follow period ws vs s cs ds ≡ true → (i : ℕ) → At (s + i) (get_or cs i unassigned) (get_or ds i unassigned)
  unfolding all_follow
  follow_each s [] ds h i = none_before period (s + i) (get_or ds i unassigned) ws vs
  follow_each s (c ∷ cs) [] h i = none_behind period (s + i) (get_or (c ∷ cs) i unassigned) ws vs
  follow_each s (c ∷ cs) (d ∷ ds) h zero = rw add-zero (both (follows period (events_of s c ws) (events_of s d vs)) (all_follow period ws vs (suc s) cs ds) h).0
  follow_each s (c ∷ cs) (d ∷ ds) h (suc i) =
      subst (λ (n : ℕ). At n (get_or cs i unassigned) (get_or ds i unassigned)) (rw (suc-add, add-suc)) (follow_each (suc s) cs ds (both (follows period (events_of s c ws) (events_of s d vs)) (all_follow period ws vs (suc s) cs ds) h).1 i)

  pub each_follow : (s : ℕ) (cs ds : List ℕ) → ((i : ℕ) → At (s + i) (get_or cs i unassigned) (get_or ds i unassigned)) → all_follow period ws vs s cs ds ≡ true
  unfolding all_follow
  each_follow s [] ds h = refl
  each_follow s (c ∷ cs) [] h = refl
  each_follow s (c ∷ cs) (d ∷ ds) h =
      ap₂ ◌&&◌ (subst (λ (n : ℕ). At n c d) (rw add-zero) (h 0))
      (each_follow (suc s) cs ds λ i. subst (λ (n : ℕ). At n (get_or cs i unassigned) (get_or ds i unassigned)) (rw (suc-add, add-suc)) (h (suc i)))

-- two cycles under the tables j and k
module _ (tabs : Tables) (j k : ℕ) where
  abbrev pub Fine : List ℕ → List ℕ → ℕ → Type 0
  Fine cs ds i = At (period_at tabs j) (table_at tabs j) (table_at tabs k) i (get_or cs i unassigned) (get_or ds i unassigned)

  module _ (c d : Cycle) (p : c.table ≡ some j) (q : d.table ≡ some k) where
    order_is : in_order tabs c d ≡ all_follow (period_at tabs j) (table_at tabs j) (table_at tabs k) 0 c.pins d.pins
    unfolding in_order
    order_is =
        ap₂ (λ (x y : Option ℕ). elim x [
          | none ↦ true
          | some i ↦ elim y [ none ↦ true | some k ↦ all_follow (period_at tabs i) (table_at tabs i) (table_at tabs k) 0 c.pins d.pins ]
        ]) p q

    pub order_each : in_order tabs c d ≡ true → (i : ℕ) → Fine c.pins d.pins i
    order_each h i =
        subst (λ (n : ℕ). At (period_at tabs j) (table_at tabs j) (table_at tabs k) n (get_or c.pins i unassigned) (get_or d.pins i unassigned)) (zero-add i)
        (follow_each (period_at tabs j) (table_at tabs j) (table_at tabs k) 0 c.pins d.pins (sym order_is ∙ h) i)

    pub each_order : ((i : ℕ) → Fine c.pins d.pins i) → in_order tabs c d ≡ true
    each_order h =
        order_is ∙ each_follow (period_at tabs j) (table_at tabs j) (table_at tabs k) 0 c.pins d.pins λ i.
        subst (λ (n : ℕ). At (period_at tabs j) (table_at tabs j) (table_at tabs k) n (get_or c.pins i unassigned) (get_or d.pins i unassigned)) (sym (zero-add i)) (h i)

-- THE LAW: of three cycles under one table, a signal that keeps its value is fine in the second pair where it was in the first
pub kept_fine : (tabs : Tables) (j : ℕ) (bs cs ds : List ℕ) (i : ℕ) → get_or bs i unassigned ≡ get_or cs i unassigned → get_or cs i unassigned ≡ get_or ds i unassigned
    → Fine tabs j j bs cs i → Fine tabs j j cs ds i
kept_fine tabs j bs cs ds i p q h =
    subst (λ (x : ℕ). At (period_at tabs j) (table_at tabs j) (table_at tabs j) i (get_or cs i unassigned) x) q
    (subst (λ (x : ℕ). At (period_at tabs j) (table_at tabs j) (table_at tabs j) i x (get_or cs i unassigned)) p h)
