-- A cycle can be played where each signal's character can be shown under its table.
use Prim.Native.Nat.{ℕ, suc, ◌+◌, ◌<◌}
use native.Mathlib.Nat.{add-zero, zero-add, add-suc, suc-add}
use native.Mathlib.Omega.{arith}
use mathlib.Core.Path.{◌≡◌, refl}
use mathlib.Core.Bool.{true, ◌||◌}
use mathlib.Core.Option.{none, some}
use mathlib.Core.List.{List, [], ◌∷◌}
use lib.ListN.{length, get_or}
use lib.Dec.{eqb}
use Rattle.meaning.specs.Timing.{Wave, Tables}
use Rattle.meaning.specs.Run.{unassigned, State, cycle_at}
use Rattle.meaning.specs.Meaning.{has_wave, all_waves, table_at, playable, first_failing}
use Rattle.sums.specs.Sums.{ok_at}

waves_all_lem : (ws : List Wave) (s : ℕ) (cs : List ℕ)
    → ((j : ℕ) → j < length cs → (eqb (get_or cs j 0) unassigned || has_wave (s + j) (get_or cs j 0) ws) ≡ true) → all_waves s cs ws ≡ true
unfolding all_waves
waves_all_lem ws s [] h = refl
waves_all_lem ws s (c ∷ cs) h =
    let first : (eqb c unassigned || has_wave s c ws) ≡ true = rw add-zero at (h 0 (omega arith)) in
    rw first (waves_all_lem ws (suc s) cs (λ j b. rw (suc-add, ← add-suc) (h (suc j) (omega arith))))

pub passes : (tabs : Tables) (p : ℕ) (s : State) (k : ℕ) → s.table ≡ some k
    → ((i : ℕ) → i < length s.pins → ok_at tabs s.table i (get_or s.pins i 0) ≡ true) → first_failing tabs (cycle_at p s ∷ []) ≡ none
unfolding first_failing playable cycle_at ok_at
passes tabs p s k e h =
    let all : all_waves 0 s.pins (table_at tabs k) ≡ true = waves_all_lem (table_at tabs k) 0 s.pins (λ i b. rw zero-add (rw e at (h i b))) in
    rw (e, first_failing, all)
