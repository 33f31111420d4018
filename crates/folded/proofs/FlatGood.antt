-- What an accepted text is folded to is a flat text that a reader takes.
use Prim.Native.Nat.{ℕ, zero, suc, ◌+◌, ◌≤◌, ◌<◌, ◌^◌}
use native.Mathlib.Omega.{arith}
use mathlib.Core.Path.{◌≡◌, refl, ap, ◌∙◌}
use mathlib.Core.Bool.{false}
use mathlib.Core.Option.{none}
use mathlib.Core.List.{List, [], ◌∷◌, ◌++◌}
use lib.ListN.{length, replicate, length-append}
use Rattle.tokens.specs.Written.{bytes, same}
use Rattle.meaning.specs.Bounds.{patterns_most, list_most, loop_most}
use Rattle.meaning.specs.Timing.{Table, Tables}
use Rattle.meaning.specs.Run.{unassigned}
use Rattle.folded.specs.Flat.{Row, Line, stretches, lines_of}
use Rattle.folded.specs.Layout.{burst_name, pattern_name, names_from, named_from, or_one}
use Rattle.folded.proofs.Reading.{AllFit, SomeFit, find_in}
use Rattle.folded.proofs.Leaves.{pattern_name_lem, pattern_proper}
use Rattle.folded.proofs.BurstBack.{NewListed}
use Rattle.folded.proofs.StatementsBack.{numbered_in, GoodLines}
use Rattle.folded.proofs.PatternsBack.{Named, bodies_of, NewPattern}
use Rattle.folded.proofs.RunBack.{other_name}
use Rattle.folded.proofs.Charts.{Along, Known, Knowns}
use Rattle.folded.proofs.Sheets.{itself, one_more_lem, find_behind}
use Rattle.folded.specs.Shapes.{concat, Begins, expand}
use Rattle.folded.proofs.Stretches.{All, all_front, all_back, begins_steady, stretched_rows, stretches_step, stretches_all, stretch_short}
use Rattle.folded.proofs.GoodRows.{GoodRow, SoundTables, lines_good}

-- ---- the listed names

pub listed_new : (i n : ℕ) (before : List (List ℕ)) → length before ≡ i → i + n ≤ list_most → AllFit NewListed before (names_from i n)
unfolding names_from
listed_new i zero before l h = tt
listed_new i (suc n) before l h = (
  record { proper = pattern_proper i; is_name_lem = pattern_name_lem i; few = omega arith },
  listed_new (suc i) n (before ++ pattern_name i ∷ []) (one_more_lem before (pattern_name i) ∙ ap suc l) (omega arith),
)

-- ---- Patterns

no_burst : (i : ℕ) → same burst_name (pattern_name i) ≡ false
unfolding burst_name pattern_name bytes same
no_burst i = refl

bodies_of-++ : (xs ys : List Named) → bodies_of (xs ++ ys) ≡ bodies_of xs ++ bodies_of ys
unfolding bodies_of
bodies_of-++ [] ys = refl
bodies_of-++ (x ∷ xs) ys = rw (bodies_of-++ xs ys)

-- no Pattern before has a name of a number from i on
abbrev Free : ℕ → List Named → Type 0
Free i before = (j : ℕ) → i ≤ j → j < 2 ^ 64 → find_in (bodies_of before) (pattern_name j) ≡ none

free_more : (i : ℕ) (before : List Named) (p : List Line) → Free i before → Free (suc i) (before ++ (pattern_name i, p) ∷ [])
unfolding bodies_of find_in
free_more i before p f j h k =
    ap (λ l. find_in l (pattern_name j)) (bodies_of-++ before ((pattern_name i, p) ∷ [])) ∙ find_behind (bodies_of before) _ (pattern_name j) (f j (omega arith) k)
    ∙ rw (other_name i j h k, find_in)

module _ (signals tables : List (List ℕ)) (names : List (List ℕ × List ℕ)) (sheets : List (List ℕ × Table)) where
  patterns_new : (i : ℕ) (ls : List (List Line)) (before : List Named) → All (GoodLines signals tables names sheets) ls → length before ≡ i → i + length ls ≤ patterns_most → Free i before
      → AllFit (NewPattern signals tables names sheets) before (named_from i ls)
  unfolding named_from
  patterns_new i [] before g l h f = tt
  patterns_new i (p ∷ ls) before g l h f = (
    record { proper = pattern_proper i; is_name_lem = pattern_name_lem i; no_burst = no_burst i; new = f i (omega arith) (omega arith); few = omega arith; lines = g.0 },
    patterns_new (suc i) ls (before ++ (pattern_name i, p) ∷ []) g.1 (one_more_lem before (pattern_name i, p) ∙ ap suc l) (omega arith) (free_more i before p f),
  )

  -- also where none is listed
  pub patterns_good : (ls : List (List Line)) → All (GoodLines signals tables names sheets) ls → length ls ≤ patterns_most → SomeFit (NewPattern signals tables names sheets) (named_from 0 (or_one ls))
  unfolding or_one named_from find_in bodies_of
  patterns_good [] g h = patterns_new 0 ([] ∷ []) [] (tt, tt) refl (omega arith) (λ j l k. refl)
  patterns_good (p ∷ ls) g h = patterns_new 0 (p ∷ ls) [] g refl (omega arith) (λ j l k. refl)

  -- ---- the statements of all Patterns

  module _ (n : ℕ) (known : Knowns names 0 signals) (many : length signals ≡ n) (table-known : Along (Known (numbered_in 0 sheets) itself) 0 tables) (tabs : Tables) (sound : SoundTables n tabs)
      (many-tables : length tabs ≡ length tables) where
    pub all_lines : (ps : List (List Row)) → All Begins ps → All (GoodRow n tabs) (concat ps) → length (concat ps) ≤ loop_most → All (GoodLines signals tables names sheets) (lines_of ps)
    unfolding lines_of concat
    all_lines [] b g m = tt
    all_lines (p ∷ ps) b g m =
        let l = length-append p (concat ps) in
        let e : length (expand (stretches p)) ≡ length p = ap length (stretched_rows p) in (
          lines_good signals tables names sheets n known many table-known tabs sound many-tables (stretches p) none (replicate n unassigned)
              (stretches_all (GoodRow n tabs) p (all_front (GoodRow n tabs) p (concat ps) g)) (stretches_step (replicate n unassigned) p (begins_steady n p b.0)) (stretch_short loop_most (stretches p) (omega arith)),
          all_lines ps b.1 (all_back (GoodRow n tabs) p (concat ps) g) (omega arith),
        )

pub lines_length : (ps : List (List Row)) → length (lines_of ps) ≡ length ps
unfolding lines_of
lines_length [] = refl
lines_length (p ∷ ps) = ap suc (lines_length ps)
