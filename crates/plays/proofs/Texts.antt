-- From the tables of a text to its run, and from the listed patterns to refusal 17.
use Prim.Native.Nat.{ℕ, zero, suc, ◌+◌, ◌*◌, ◌-◌, ◌<◌, ◌≤◌}
use native.Mathlib.Omega.{arith}
use mathlib.Core.Path.{◌≡◌, sym, ap, ◌∙◌, subst}
use mathlib.Core.Bool.{true, false}
use mathlib.Core.Option.{none, some}
use mathlib.Core.List.{List}
use lib.ListN.{length, get_or, replicate, length-replicate}
use Rattle.tokens.specs.Tokens.{Tok, toks}
use Rattle.meaning.specs.Bounds.{signals_most}
use Rattle.meaning.specs.Body.{Body}
use Rattle.meaning.specs.Run.{start, cycles_of}
use Rattle.meaning.specs.Meaning.{first_failing}
use Rattle.meaning.specs.Names.{find}
use Rattle.meaning.specs.Statements.{Decl, Env}
use Rattle.meaning.specs.Document.{Read}
use Rattle.held.specs.Held.{All, Stands, Listed}
use Rattle.held.proofs.All.{all_found}
use Rattle.held.proofs.Whole.{Whole, whole, listed_stand}
use Rattle.turns.specs.Few.{play_few, open_most}
use Rattle.turns.proofs.Decides.{few_decides}
use Rattle.words.specs.Table.{name_of}
use Rattle.signals.proofs.Tables.{names_length}
use Rattle.pins.specs.Shown.{values_length, feeds_length}
use Rattle.heads.specs.declared.Known.{Known}
use Rattle.texts.specs.declared.Parts.{Parts}
use Rattle.texts.proofs.Runs.{list_from, list_cut, list_end}
use Rattle.plays.specs.declared.Played.{Played}
use Rattle.plays.specs.Plays.{Ground, grounded, Holding, Summed, Heads, Knows, Arrays, arrays, Sized}
use Rattle.plays.specs.Run.{ListedAt, PlaysListed, Runs, SomeRun}
use Rattle.plays.proofs.Patterns.{Playing, patterns_fit}
use Rattle.plays.proofs.Recalling.{heads_none, knows_sums}
use Rattle.plays.proofs.Running.{Left, left_all, left_none, Next, next, next_fails, next_left, opening_long, good_listed}

-- ---- a text that the tables hold

module _ (text places lists tplaces waves book rows list : List ℕ) (known : Known) (signals listed patterns : ℕ) where
  abbrev all : Ground
  all = grounded text places lists tplaces book rows waves known signals

  module _ {p : Parts} {d : Read} {run : Body} (h : Runs text places lists tplaces waves book rows list known signals listed patterns p d run) where
    abbrev env : Env
    env = h.tabled.parts.env

    pub is_whole : Whole env h.tabled.parts.names d
    is_whole = whole (toks text 0) d h.tabled.rest h.tabled.parts

    holding : Holding all env
    holding = record {
      describes = rw h.known_is at h.tabled.describes;
      held = rw (is_whole.tables, ← h.known_is) h.tabled.held;
      tidy = rw h.signals_is at h.tabled.tidy;
    }

    all_fit : All (λ x. Playing x.1.body) d.patterns
    all_fit = patterns_fit (toks text 0) d h.tabled.rest h.tabled.parts

    pub is_listed : Listed env d.patterns d.listed run
    is_listed = listed_stand env d.patterns is_whole.patterns d.listed run h.run_is

    -- all patterns are left
    pub run_begins : Left env.tables signals env d.patterns run (list_from text list listed 0)
    run_begins =
        let e : listed - 0 ≡ listed = omega arith in
        let l : d.listed ≡ list_from text list listed 0 = h.tabled.listed_are ∙ (rw (h.listed_is, e)) in
        left_all (subst (λ (z : List Tok). Listed env d.patterns z run) l is_listed)

    -- refusal 17 is decided by few turns
    decided : first_failing env.tables (play_few open_most 0 run (start signals)).1 ≡ first_failing d.tables (cycles_of (length d.signals) run)
    unfolding cycles_of
    decided =
        let n : length d.signals ≡ signals = ap length h.tabled.signals_are ∙ names_length text places lists p.signals ∙ h.signals_is in
        (few_decides 0 run (good_listed env d.patterns all_fit d.listed run is_listed) (start signals) env.tables).1 ∙ (rw (is_whole.tables, n))

    -- the pattern of a listed name
    pub listed_at : {k : ℕ} {x : Decl} → find d.patterns (name_of text list k).word ≡ some x → Stands env x → ListedAt all list patterns k env d.patterns x
    listed_at {k} {x} found stands = record {
      holding = holding;
      book = h.tabled.patterns_are;
      counted = h.tabled.patterns_counted ∙ h.patterns_is;
      few = rw h.patterns_is at h.tabled.few_patterns;
      found = found;
      stands = stands;
      fits = (all_found (λ x. Playing x.1.body) d.patterns all_fit (name_of text list k).word x found).1;
    }

    -- from the listed name of number k on there are patterns, whatever failed before
    listed_from : (k : ℕ) → k ≤ listed → (r : Body) × Listed env d.patterns (list_from text list listed k) r
    unfolding Listed
    listed_from zero q = (run_begins.rest, run_begins.listed)
    listed_from (suc k) q =
        let e : k + 1 ≡ suc k = omega arith in
        let x = listed_from k (omega arith) in
        let y = subst (λ (l : List Tok). Listed env d.patterns l x.0) (list_cut text list listed k (omega arith)) x.1 in
        (y.1, subst (λ (n : ℕ). Listed env d.patterns (list_from text list listed n) y.1) e y.5)

    -- each of them
    pub listed_any : {k : ℕ} → k < listed → (x : Decl) × ListedAt all list patterns k env d.patterns x
    unfolding Listed
    listed_any {k} q =
        let x = listed_from k (omega arith) in
        let y = subst (λ (l : List Tok). Listed env d.patterns l x.0) (list_cut text list listed k q) x.1 in
        (y.0, listed_at y.3 y.4)

    module _ {k : ℕ} (l : Left env.tables signals env d.patterns run (list_from text list listed k)) where
      -- none is left: no cycle fails
      pub run_sound : listed ≤ k → first_failing d.tables (cycles_of (length d.signals) run) ≡ none
      run_sound q = sym decided ∙ left_none (subst (Left env.tables signals env d.patterns run) (list_end text list listed k q) l)

      module _ (q : k < listed) where
        pub upcoming : Next env.tables signals env d.patterns run (name_of text list k) (list_from text list listed (k + 1))
        upcoming = next (subst (Left env.tables signals env d.patterns run) (list_cut text list listed k q) l)

        -- the next one
        pub listed_next : ListedAt all list patterns k env d.patterns upcoming.decl
        listed_next = listed_at upcoming.found upcoming.stands

        module _ {marks sums memo memo' : List ℕ} {y : Arrays} {r : Played} (s : PlaysListed all marks sums memo memo' list patterns k y r) (m : Knows all marks sums memo env) where
          pub run_fails : r.failed ≡ true → first_failing d.tables (cycles_of (length d.signals) run) ≡ some r.place
          run_fails e = sym decided ∙ next_fails upcoming (s.fails env d.patterns upcoming.decl listed_next m (start signals) (opening_long signals) e)

          pub run_left : r.failed ≡ false → Left env.tables signals env d.patterns run (list_from text list listed (k + 1))
          run_left e = next_left upcoming (s.sound env d.patterns upcoming.decl listed_next m (start signals) (opening_long signals) e)

          pub run_learnt : Knows all marks sums memo' env
          run_learnt = s.learnt env d.patterns upcoming.decl listed_next m

  -- before the first pattern
  pub opening_sized : SomeRun text places lists tplaces waves book rows list known signals listed patterns → Sized all 0 (arrays (replicate values_length 0) (replicate feeds_length 0) (replicate (signals_most * 2) 0))
  opening_sized s = record {
    roomy = record {
      few = rw s.runs.signals_is at s.runs.tabled.few_signals;
      values_long = length-replicate {A = ℕ} values_length 0;
      feeds_long = length-replicate {A = ℕ} feeds_length 0;
      inside_levels = omega arith;
    };
    args_long = length-replicate {A = ℕ} (signals_most * 2) 0;
    waves_long = s.runs.tabled.waves_long;
  }

  -- from the listed name of number k on, whatever text the tables hold and whose sums are known, its patterns are left
  pub record Unplayed (marks sums memo : List ℕ) (k : ℕ) (x : Arrays) : Type 0 where
    pub sized : Sized all 0 x
    pub heads : (p : Parts) (d : Read) (run : Body) (h : Runs text places lists tplaces waves book rows list known signals listed patterns p d run)
        → Heads all memo h.tabled.parts.env
    pub left : (p : Parts) (d : Read) (run : Body) (h : Runs text places lists tplaces waves book rows list known signals listed patterns p d run)
        → Summed all marks sums h.tabled.parts.env
        → Left h.tabled.parts.env.tables signals h.tabled.parts.env d.patterns run (list_from text list listed k) × Knows all marks sums memo h.tabled.parts.env

  pub unplayed : {marks sums memo : List ℕ} → SomeRun text places lists tplaces waves book rows list known signals listed patterns → ((i : ℕ) → get_or memo i 0 ≡ 0)
      → Unplayed marks sums memo 0 (arrays (replicate values_length 0) (replicate feeds_length 0) (replicate (signals_most * 2) 0))
  unplayed s blank = record { sized = opening_sized s; heads = λ p d run h. heads_none blank; left = λ p d run h m. (run_begins h, knows_sums m blank) }
