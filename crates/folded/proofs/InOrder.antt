-- A folded text has its neighbouring cycles in order (25): they were neighbours before, in the same order and with the same waveforms; where a new Pattern begins
-- there is one pair less.
use Prim.Native.Nat.{ℕ, zero, suc}
use native.Mathlib.Omega.{arith}
use mathlib.Core.Path.{◌≡◌, refl, sym, ap₂, ◌∙◌, subst}
use mathlib.Core.Bool.{Bool, true, false}
use mathlib.Core.Option.{Option, none, some}
use mathlib.Core.List.{List, [], ◌∷◌}
use Rattle.meaning.specs.Timing.{Tables}
use Rattle.meaning.specs.Body.{Body, done, vec, set', inner}
use Rattle.meaning.specs.Run.{Cycle, cycles_of}
use Rattle.meaning.specs.Edges.{period_at, first_failing_pair, listed_cycles, first_among, first_in_run}
use Rattle.meaning.specs.Meaning.{all_waves, table_at, playable, first_failing}
use Rattle.meaning.proofs.Options.{or_both}
use Rattle.meaning.proofs.Turns.{fails-++}
use Rattle.meaning.proofs.Everywhere.{Runs}
use Rattle.edges.proofs.Texts.{joined, run_parted}
use Rattle.edges.proofs.Parted.{SameTables, SameRows, no_rows, one_row, parts_in_order, rows_in_order}
use Rattle.folded.specs.Flat.{Row, table_of, row_of, rows_of, listed_rows, parted, parted_all}
use Rattle.folded.specs.Shapes.{concat}
use Rattle.folded.specs.Same.{periods_of}
use Rattle.folded.proofs.Stretches.{All, all-++, parted_rows}
use Rattle.folded.proofs.PlayBack.{cycle_of, cycles_for, cycles-++}

-- ---- cycles that can be played are their rows, but for places

table_there : (tabs : Tables) (c : Cycle) → playable tabs c ≡ true → c.table ≡ some (table_of c.table)
unfolding playable table_of
table_there tabs c e = by c.table e
  where
    by : (o : Option ℕ) → ◌≡◌ {A = Bool} (elim o [ none ↦ false | some k ↦ all_waves 0 c.pins (table_at tabs k) ]) true → o ≡ some (table_of o)
    by none e = let z : ◌≡◌ {A = ℕ} 0 1 = cc in absurd (omega arith)
    by (some k) e = refl

shown_rows : (tabs : Tables) (l : List Cycle) → first_failing tabs l ≡ none → SameRows l (cycles_for (rows_of l))
unfolding first_failing rows_of cycles_for row_of cycle_of
shown_rows tabs [] f = no_rows
shown_rows tabs (c ∷ l) f = by (playable tabs c) refl f (shown_rows tabs l)
  where
    by : (b : Bool) → playable tabs c ≡ b → ◌≡◌ {A = Option ℕ} (elim b [ true ↦ first_failing tabs l | false ↦ some c.at ]) none
        → (first_failing tabs l ≡ none → SameRows l (cycles_for (rows_of l))) → SameRows (c ∷ l) (cycle_of (row_of c) ∷ cycles_for (rows_of l))
    by true e f ih = one_row (table_there tabs c e) refl (ih f)
    by false e f ih = let z : ◌≡◌ {A = ℕ} 0 1 = cc in absurd (omega arith)

rows_back : {l l' : List Cycle} → SameRows l l' → SameRows l' l
rows_back no_rows = no_rows
rows_back (one_row t p h) = one_row (sym t) (sym p) (rows_back h)

-- ---- pattern by pattern

abbrev Plays : Tables → List Cycle → Type 0
Plays tabs l = first_failing tabs l ≡ none

abbrev Pairs : Tables → List Cycle → Type 0
Pairs tabs l = first_failing_pair tabs l ≡ none

abbrev Ordered : Tables → List Row → Type 0
Ordered tabs xs = Pairs tabs (cycles_for xs)

each_plays : (tabs : Tables) (ls : List (List Cycle)) → first_failing tabs (joined ls) ≡ none → All (Plays tabs) ls
unfolding joined
each_plays tabs [] f = tt
each_plays tabs (l ∷ ls) f = let x = or_both _ _ (sym (fails-++ tabs l (joined ls)) ∙ f) in (x.0, each_plays tabs ls x.1)

among_each : (tabs : Tables) (ls : List (List Cycle)) → first_among tabs ls ≡ none → All (Pairs tabs) ls
unfolding first_among
among_each tabs [] f = tt
among_each tabs (l ∷ ls) f = by (first_failing_pair tabs l) refl f (among_each tabs ls)
  where
    by : (o : Option ℕ) → first_failing_pair tabs l ≡ o → ◌≡◌ {A = Option ℕ} (elim o [ some p ↦ some p | none ↦ first_among tabs ls ]) none
        → (first_among tabs ls ≡ none → All (Pairs tabs) ls) → Pairs tabs l × All (Pairs tabs) ls
    by none e f ih = (e, ih f)
    by (some p) e f ih = let z : ◌≡◌ {A = ℕ} 0 1 = cc in absurd (omega arith)

each_among : (tabs : Tables) (ls : List (List Cycle)) → All (Pairs tabs) ls → first_among tabs ls ≡ none
unfolding first_among
each_among tabs [] h = refl
each_among tabs (l ∷ ls) h = ap₂ (λ (o q : Option ℕ). elim o [ some p ↦ some p | none ↦ q ]) h.0 (each_among tabs ls h.1)

rows_all : List (List Cycle) → List (List Row)
rows_all [] = []
rows_all (l ∷ ls) = rows_of l ∷ rows_all ls

listed_rows_lem : (n : ℕ) (r : Body) → listed_rows n r ≡ rows_all (listed_cycles n r)
unfolding listed_rows listed_cycles rows_all
listed_rows_lem n done = refl
listed_rows_lem n (vec p a r) = listed_rows_lem n r
listed_rows_lem n (set' x r) = listed_rows_lem n r
listed_rows_lem n (inner w b r) = ap₂ (λ (x : List Row) (l : List (List Row)). x ∷ l) refl (listed_rows_lem n r)

rows_ordered : (tabs tabs' : Tables) → SameTables tabs tabs' → (ls : List (List Cycle)) → All (Plays tabs) ls → All (Pairs tabs) ls → All (Ordered tabs') (rows_all ls)
unfolding rows_all
rows_ordered tabs tabs' same [] p q = tt
rows_ordered tabs tabs' same (l ∷ ls) p q = (rows_in_order tabs tabs' same (shown_rows tabs l p.0) q.0, rows_ordered tabs tabs' same ls p.1 q.1)

module _ (tabs : Tables) where
  parts_ordered : (ps : List (List Row)) → Ordered tabs (concat ps) → All (Ordered tabs) ps
  unfolding concat
  parts_ordered [] h = tt
  parts_ordered (p ∷ ps) h =
      let x = parts_in_order tabs (cycles_for p) (cycles_for (concat ps)) (subst (Pairs tabs) (cycles-++ p (concat ps)) h) in
      (x.0, parts_ordered ps x.1)

  parted_ordered : (ls : List (List Row)) → All (Ordered tabs) ls → All (Ordered tabs) (parted_all ls)
  unfolding parted_all
  parted_ordered [] h = tt
  parted_ordered (l ∷ ls) h =
      all-++ (Ordered tabs) (parted l) (parted_all ls) (parts_ordered (parted l) (subst (Ordered tabs) (sym (parted_rows l)) h.0)) (parted_ordered ls h.1)

  itself : SameTables tabs tabs
  itself = record { periods = λ k. refl; waves = λ k s c. refl }

  cycles_ordered : (ls : List (List Cycle)) → All (Plays tabs) ls → All (Ordered tabs) (rows_all ls) → All (Pairs tabs) ls
  unfolding rows_all
  cycles_ordered [] p h = tt
  cycles_ordered (l ∷ ls) p h = (rows_in_order tabs tabs itself (rows_back (shown_rows tabs l p.0)) h.0, cycles_ordered ls p.1 h.1)

-- ---- the whole run

pub periods_at : (tabs tabs' : Tables) → periods_of tabs ≡ periods_of tabs' → (k : ℕ) → period_at tabs k ≡ period_at tabs' k
unfolding periods_of period_at
periods_at [] [] e k = refl
periods_at [] (y ∷ ys) e k = let z : ◌≡◌ {A = ℕ} 0 1 = cc in absurd (omega arith)
periods_at (x ∷ xs) [] e k = let z : ◌≡◌ {A = ℕ} 0 1 = cc in absurd (omega arith)
periods_at (x ∷ xs) (y ∷ ys) e zero = cc
periods_at (x ∷ xs) (y ∷ ys) e (suc k) = let f : periods_of xs ≡ periods_of ys = cc in periods_at xs ys f k

-- THE LAW: a run whose listed patterns are the parts of another's, under the same tables
pub parts_of_run : (tabs tabs' : Tables) → SameTables tabs tabs' → (n : ℕ) {P : Body → Type 0} {r r' : Body} → Runs P r → Runs P r'
    → first_failing tabs (cycles_of n r) ≡ none → first_failing tabs' (cycles_of n r') ≡ none → listed_rows n r' ≡ parted_all (listed_rows n r)
    → first_in_run tabs n r ≡ none → first_in_run tabs' n r' ≡ none
unfolding first_in_run
parts_of_run tabs tabs' same n {P} {r} {r'} x x' f f' e h =
    let p = each_plays tabs (listed_cycles n r) (subst (Plays tabs) (sym (run_parted n x)) f) in
    let p' = each_plays tabs' (listed_cycles n r') (subst (Plays tabs') (sym (run_parted n x')) f') in
    let was = rows_ordered tabs tabs' same (listed_cycles n r) p (among_each tabs (listed_cycles n r) h) in
    let is = parted_ordered tabs' (listed_rows n r) (subst (All (Ordered tabs')) (sym (listed_rows_lem n r)) was) in
    each_among tabs' (listed_cycles n r') (cycles_ordered tabs' (listed_cycles n r') p' (subst (All (Ordered tabs')) (sym e ∙ listed_rows_lem n r') is))
