-- The run is its listed patterns one after the other: a pair that is not in order in one is the run's, and behind one in which each is in order the rest is left.
use Prim.Native.Nat.{ℕ, ◌+◌, ◌-◌, ◌<◌, ◌≤◌}
use native.Mathlib.Omega.{arith}
use mathlib.Core.Path.{◌≡◌, refl, sym, ap, ◌∙◌, subst}
use mathlib.Core.Bool.{true, false}
use mathlib.Core.Option.{Option, none, some}
use mathlib.Core.List.{List, [], ◌∷◌, append-nil}
use lib.ListN.{length}
use Rattle.tokens.specs.Tokens.{Tok}
use Rattle.meaning.specs.Names.{find}
use Rattle.meaning.specs.Timing.{Tables}
use Rattle.meaning.specs.Body.{listed, Body}
use Rattle.meaning.specs.Run.{State, Cycle, shift_of, bare, follow, entering, playing, play, start, cycles_of, alone}
use Rattle.meaning.specs.Statements.{Decl, Decls, Env}
use Rattle.meaning.specs.Document.{Read}
use Rattle.held.specs.Held.{Stands, Listed}
use Rattle.words.specs.Table.{name_of}
use Rattle.signals.proofs.Tables.{names_length}
use Rattle.meaning.specs.Edges.{failing_behind, first_failing_pair, listed_cycles, first_among, first_in_run}
use Rattle.heads.specs.declared.Known.{Known}
use Rattle.texts.specs.declared.Parts.{Parts}
use Rattle.texts.proofs.Runs.{list_from, list_cut, list_end}
use Rattle.plays.specs.declared.Played.{Played}
use Rattle.plays.specs.Plays.{Ground, grounded, Arrays, Sized}
use Rattle.plays.specs.Run.{ListedAt, Runs}
use Rattle.plays.proofs.Running.{opening_long}
use Rattle.plays.proofs.Texts.{is_whole, is_listed, listed_at}
use Rattle.crossings.specs.declared.Seen.{Seen}
use Rattle.crossings.specs.Rows.{Ample, Clock, Timed}
use Rattle.crossings.specs.Run.{PlaysListed}

-- ---- one listed pattern

-- with no cycle before it
module _ (tabs : Tables) (b : Body) (s : State) {o : Option Cycle} (e : o ≡ none) where
  pub pattern_pair : failing_behind tabs o (play 0 b (record { pins = bare s.pins; table = none; args = [] })).1 ≡ first_failing_pair tabs (entering listed [] (play 0 b) s).1
  unfolding entering first_failing_pair
  pattern_pair = ap (λ (o : Option Cycle). failing_behind tabs o (play 0 b (record { pins = bare s.pins; table = none; args = [] })).1) e

-- ---- the rest of the run

-- behind some patterns in which each pair is in order, those of the names l are left
pub record Left (tabs : Tables) (n : ℕ) (E : Env) (ps : Decls) (run : Body) (l : List Tok) : Type 0 where
  pub rest : Body
  pub patterns_are : Listed E ps l rest
  pub same : first_in_run tabs n run ≡ first_in_run tabs n rest

-- a pattern alone is played as where it is listed
alone_cycles : (n : ℕ) (b : Body) → cycles_of n (alone b) ≡ (entering listed [] (play 0 b) (start n)).1
unfolding cycles_of alone play playing entering follow shift_of
alone_cycles n b = append-nil _

module _ {tabs : Tables} {n : ℕ} {E : Env} {ps : Decls} {run : Body} where
  pub left_all : {l : List Tok} → Listed E ps l run → Left tabs n E ps run l
  left_all h = record { rest = run; patterns_are = h; same = refl }

  -- no pattern is left
  pub left_none : Left tabs n E ps run [] → first_in_run tabs n run ≡ none
  unfolding Listed first_in_run listed_cycles first_among
  left_none l = l.same ∙ (rw l.patterns_are)

-- the next one is that of the name t
pub record Next (tabs : Tables) (n : ℕ) (E : Env) (ps : Decls) (run : Body) (t : Tok) (l : List Tok) : Type 0 where
  pub decl : Decl
  pub rest : Body
  pub found : find ps t.word ≡ some decl
  pub stands : Stands E decl
  pub behind : Listed E ps l rest
  pub same : (o : Option ℕ) → first_failing_pair tabs (entering listed [] (play 0 decl.body) (start n)).1 ≡ o
      → first_in_run tabs n run ≡ elim o [ some p ↦ some p | none ↦ first_in_run tabs n rest ]

module _ {tabs : Tables} {n : ℕ} {E : Env} {ps : Decls} {run : Body} {t : Tok} {l : List Tok} where
  pub next : Left tabs n E ps run (t ∷ l) → Next tabs n E ps run t l
  unfolding Listed first_in_run listed_cycles first_among
  next h =
      let x = h.patterns_are in
      record {
        decl = x.0;
        rest = x.1;
        found = x.3;
        stands = x.4;
        behind = x.5;
        same = λ o e. h.same ∙ ap (first_in_run tabs n) x.2
            ∙ ap (λ (o : Option ℕ). elim o [ some p ↦ some p | none ↦ first_among tabs (listed_cycles n x.1) ]) (ap (first_failing_pair tabs) (alone_cycles n x.0.body) ∙ e);
      }

  module _ (h : Next tabs n E ps run t l) where
    pub next_fails : {p : ℕ} → first_failing_pair tabs (entering listed [] (play 0 h.decl.body) (start n)).1 ≡ some p → first_in_run tabs n run ≡ some p
    next_fails {p} e = h.same (some p) e

    pub next_left : first_failing_pair tabs (entering listed [] (play 0 h.decl.body) (start n)).1 ≡ none → Left tabs n E ps run l
    next_left e = record { rest = h.rest; patterns_are = h.behind; same = h.same none e }

-- ---- a text that the tables hold

module _ (text places lists tplaces waves book rows list : List ℕ) (known : Known) (signals count patterns : ℕ) where
  abbrev all : Ground
  all = grounded text places lists tplaces book rows waves known signals

  module _ {p : Parts} {d : Read} {run : Body} (h : Runs text places lists tplaces waves book rows list known signals count patterns p d run) where
    abbrev env : Env
    env = h.tabled.parts.env

    same_tables : env.tables ≡ d.tables
    same_tables = (is_whole text places lists tplaces waves book rows list known signals count patterns h).tables

    pub run_timed : {k : Clock} → Timed d.tables k → Timed env.tables k
    run_timed {k} s = subst (λ (t : Tables). Timed t k) (sym same_tables) s

    -- all patterns are left
    pub run_begins : Left env.tables signals env d.patterns run (list_from text list count 0)
    run_begins =
        let e : count - 0 ≡ count = omega arith in
        let l : d.listed ≡ list_from text list count 0 = h.tabled.listed_are ∙ (rw (h.listed_is, e)) in
        left_all (subst (λ (z : List Tok). Listed env d.patterns z run) l (is_listed text places lists tplaces waves book rows list known signals count patterns h))

    -- what is decided of the run
    decided : first_in_run env.tables signals run ≡ first_in_run d.tables (length d.signals) run
    decided =
        let n : length d.signals ≡ signals = ap length h.tabled.signals_are ∙ names_length text places lists p.signals ∙ h.signals_is in
        rw (same_tables, n)

    module _ {k : ℕ} (l : Left env.tables signals env d.patterns run (list_from text list count k)) where
      pub run_sound : count ≤ k → first_in_run d.tables (length d.signals) run ≡ none
      run_sound q = sym decided ∙ left_none (subst (Left env.tables signals env d.patterns run) (list_end text list count k q) l)

      module _ (q : k < count) where
        upcoming : Next env.tables signals env d.patterns run (name_of text list k) (list_from text list count (k + 1))
        upcoming = next (subst (Left env.tables signals env d.patterns run) (list_cut text list count k q) l)

        listed_next : ListedAt all list patterns k env d.patterns upcoming.decl
        listed_next = listed_at text places lists tplaces waves book rows list known signals count patterns h upcoming.found upcoming.stands

        module _ {c : Clock} {y : Arrays} {w : Seen} {r : Played} (s : PlaysListed all c list patterns k y w r) (m : Timed d.tables c) where
          pub run_fails : r.failed ≡ true → first_in_run d.tables (length d.signals) run ≡ some r.place
          run_fails e = sym decided ∙ next_fails upcoming (s.fails env d.patterns upcoming.decl listed_next (run_timed m) (start signals) (opening_long signals) e)

          pub run_left : r.failed ≡ false → Left env.tables signals env d.patterns run (list_from text list count (k + 1))
          run_left e = next_left upcoming (s.sound env d.patterns upcoming.decl listed_next (run_timed m) (start signals) (opening_long signals) e)

  -- from the listed name of number k on, whatever text the tables hold, its patterns are left
  pub record Unplayed (c : Clock) (k : ℕ) (x : Arrays) (v : Seen) : Type 0 where
    pub sized : Sized all 0 x
    pub ample : Ample v
    pub left : (p : Parts) (d : Read) (run : Body) (h : Runs text places lists tplaces waves book rows list known signals count patterns p d run) → Timed d.tables c
        → Left h.tabled.parts.env.tables signals h.tabled.parts.env d.patterns run (list_from text list count k)
