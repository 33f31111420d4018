-- Of every text that is read, at most three turns of each Loop find the first failing pair of its run, whatever 16, 17 and 25 then say of it. And what is
-- judged pattern by pattern is the run, cut where a listed pattern begins.
use mathlib.Core.Path.{◌≡◌, refl, ap₂}
use Prim.Native.Nat.{ℕ}
use mathlib.Core.Option.{Option, none, some}
use mathlib.Core.List.{List, [], ◌∷◌, ◌++◌, append-nil}
use Rattle.tokens.specs.Tokens.{Toks, toks}
use Rattle.meaning.specs.Reader.{ok}
use Rattle.meaning.specs.Timing.{Tables}
use Rattle.meaning.specs.Body.{listed, Body, done, vec, set', inner}
use Rattle.meaning.specs.Run.{shift_of, Cycle, follow, entering, playing, play, start, cycles_of, alone}
use Rattle.meaning.specs.Document.{Read, document}
use Rattle.meaning.specs.Meaning.{given, run_of}
use Rattle.meaning.proofs.Turns.{Good}
use Rattle.meaning.proofs.TwoTurns.{run_good}
use Rattle.meaning.proofs.Everywhere.{Runs, no_more, one_more_lem}
use Rattle.meaning.specs.Edges.{first_failing_pair, listed_cycles, first_among, first_in_run}
use Rattle.edges.specs.Three.{few_turns, in_three}
use Rattle.edges.proofs.Three.{first_pair_three}

-- ---- every Loop is plain

pub good_alone : (b : Body) → Good b → Good (alone b)
unfolding Good alone
good_alone b h = (tt, h, tt)

-- a text's parts, and the run that its list makes of them
pub record RunOf (text : List ℕ) (d : Read) (r : Body) : Type 0 where
  pub rest : Toks
  pub read : document (toks text 0) ≡ ok d rest
  pub run : run_of d.patterns d.listed ≡ given r

pub read_good : (text : List ℕ) {d : Read} {r : Body} → RunOf text d r → Good r
read_good text {d} {r} x = run_good text d x.rest r x.read x.run

-- ---- the third turn

module _ (tabs : Tables) (n : ℕ) where
  -- one pattern, played alone
  pub pattern_three : (b : Body) → Good b → first_failing_pair tabs (cycles_of n (alone b)) ≡ first_failing_pair tabs (cycles_of n (alone (in_three b)))
  unfolding first_failing_pair cycles_of alone in_three few_turns
  pattern_three b h = first_pair_three tabs 0 (alone b) (good_alone b h) (start n) none

  pub run_three : (r : Body) → Good r → first_in_run tabs n r ≡ first_in_run tabs n (in_three r)
  unfolding Good in_three first_in_run listed_cycles first_among
  run_three done h = refl
  run_three (vec p a r) h = run_three r h
  run_three (set' x r) h = run_three r h
  run_three (inner w b r) h =
      ap₂ (λ (o q : Option ℕ). elim o [ some p ↦ some p | none ↦ q ]) (pattern_three b h.1) (run_three r h.2)

-- THE THEOREM
pub three_turns : (text : List ℕ) {d : Read} {r : Body} → RunOf text d r → (n : ℕ) → first_in_run d.tables n r ≡ first_in_run d.tables n (in_three r)
three_turns text {d} {r} x n = run_three d.tables n r (read_good text x)

-- ---- the listed patterns are the run

unfoldable pub joined : List (List Cycle) → List Cycle
joined [] = []
joined (l ∷ ls) = l ++ joined ls

pub run_parted : {P : Body → Type 0} (n : ℕ) {r : Body} → Runs P r → joined (listed_cycles n r) ≡ cycles_of n r
unfolding joined listed_cycles cycles_of alone play playing entering follow shift_of
run_parted n no_more = refl
run_parted n (one_more_lem {b} {r} p h) =
    ap₂ (λ (x y : List Cycle). x ++ y) (append-nil (entering listed [] (play 0 b) (start n)).1) (run_parted n h)
