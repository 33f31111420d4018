-- All that an accepted text tells of what is written: names, tables, rows.
use Prim.Native.Nat.{ℕ, ◌≤◌}
use mathlib.Core.Path.{◌≡◌, refl, sym, ap, ◌∙◌, subst}
use mathlib.Core.Option.{none}
use mathlib.Core.List.{List, [], ◌∷◌, ◌++◌}
use lib.ListN.{length}
use Rattle.tokens.specs.Tokens.{Toks, toks}
use Rattle.meaning.specs.Bounds.{depth_most}
use Rattle.meaning.specs.Reader.{ok, give}
use Rattle.meaning.specs.Groups.{groups}
use Rattle.meaning.specs.Body.{Body, depth}
use Rattle.meaning.specs.Statements.{Env}
use Rattle.meaning.specs.Document.{Read}
use Rattle.meaning.specs.Run.{Cycle, play, cycles_of, alone}
use Rattle.meaning.specs.Edges.{first_in_run}
use Rattle.meaning.specs.Meaning.{given, first_failing, Meaning, meaning}
use Rattle.meaning.proofs.Gives.{bind_go}
use Rattle.meaning.proofs.Rows.{every_cycle_wide}
use Rattle.meaning.proofs.Accepted.{accepted}
use Rattle.meaning.proofs.Depth.{patterns_within}
use Rattle.meaning.proofs.Everywhere.{Every, Runs, no_more, one_more_lem, runs}
use Rattle.meaning.proofs.Listed.{cycles_listed, length_firsts}
use Rattle.held.proofs.Rest.{moving, moves_leaves, moves_bind, moves_due, leaves_option}
use Rattle.held.proofs.Grammar.{moves_signals, moves_groups}
use Rattle.held.proofs.Parts.{Parts, parts}
use Rattle.held.proofs.Places.{Stream, rest_stream}
use Rattle.signals.specs.Names.{front}
use Rattle.signals.proofs.Tidy.{Declared, declared_front}
use Rattle.folded.specs.Flat.{Row, row_of, rows_of, directed, listed_rows}
use Rattle.folded.specs.Same.{placeless}
use Rattle.folded.proofs.Reading.{SomeFit}
use Rattle.folded.proofs.SignalsBack.{NewSignal}
use Rattle.folded.proofs.Sources.{SignalFits, signals_fit, signals_good}
use Rattle.folded.proofs.SourceTiming.{TableFits, timing_fit}
use Rattle.folded.proofs.SourceRows.{Chosen, Choosing, bodies_chosen, patterns_chosen, low_cycles}
use Rattle.folded.specs.Shapes.{concat}
use Rattle.folded.proofs.Stretches.{All}
use Rattle.folded.proofs.PlayBack.{cycles_for}
use Rattle.folded.proofs.GoodRows.{GoodRow, cycles_good}

-- ---- the run: its listed patterns' rows, one after the other

pub rows-++ : (cs ds : List Cycle) → rows_of (cs ++ ds) ≡ rows_of cs ++ rows_of ds
unfolding rows_of
rows-++ [] ds = refl
rows-++ (c ∷ cs) ds = ap (λ (l : List Row). row_of c ∷ l) (rows-++ cs ds)

rows_listed_lem : {P : Body → Type 0} (n : ℕ) {r : Body} → Runs P r → concat (listed_rows n r) ≡ rows_of (cycles_of n r)
unfolding listed_rows concat cycles_of play rows_of
rows_listed_lem n no_more = refl
rows_listed_lem n (one_more_lem {b} {r} p h) =
    ap (λ (l : List Row). rows_of (cycles_of n (alone b)) ++ l) (rows_listed_lem n h) ∙ sym (rows-++ (cycles_of n (alone b)) (cycles_of n r)) ∙ ap rows_of (sym (cycles_listed n b r))

chosen_run : (n : ℕ) {r : Body} → Runs (Chosen n) r → Chosen n r
unfolding Chosen
chosen_run n no_more = tt
chosen_run n (one_more_lem p h) = (p, chosen_run n h)

-- ---- all of it

pub record Source (text : List ℕ) (m : Meaning) : Type 0 where
  pub signals : SomeFit NewSignal (directed text m.signals)
  pub tables : SomeFit (TableFits (length m.signals)) m.tables
  pub rows : All (GoodRow (length m.signals) m.tables) (rows_of (cycles_of (length m.signals) m.run))
  pub shows : placeless (cycles_of (length m.signals) m.run) ≡ cycles_for (rows_of (cycles_of (length m.signals) m.run))
  pub listed : concat (listed_rows (length m.signals) m.run) ≡ rows_of (cycles_of (length m.signals) m.run)
  pub runs_listed : Runs (λ b. depth b ≤ depth_most) m.run
  pub plays : first_failing m.tables (cycles_of (length m.signals) m.run) ≡ none
  pub pairs : first_in_run m.tables (length m.signals) m.run ≡ none

module _ (text : List ℕ) (d : Read) (us : Toks) (p : Parts (toks text 0) d us) where
  -- where Signals and Timing begin in the text
  pub at_signals : Stream text p.signals_at
  at_signals = rest_stream text ((moves_leaves (moves_bind _ _ (moves_due _) λ x. search moving)).rest _ _ _ p.opening_read) (0, refl)

  at_timing : Stream text p.timing_at
  at_timing =
      let b = rest_stream text ((moves_leaves moves_signals).rest _ _ _ p.signals_read) at_signals in
      rest_stream text ((leaves_option "SignalGroups" groups (λ ns. moves_leaves (moves_groups ns)) _).rest _ _ _ p.groups_read) b

  signals_of : SomeFit (SignalFits text) d.signals
  signals_of = (signals_fit text p.signals_at at_signals).all d.signals p.groups_at p.signals_read

  front_read : front p.signals_at ≡ ok (d.signals, p.names) p.timing_at
  unfolding front give
  front_read = bind_go _ _ p.signals_at d.signals p.groups_at p.signals_read ∙ bind_go _ _ p.groups_at p.names p.timing_at p.groups_read

  -- every name stands for signals of the text
  names_of : Declared d.signals p.names
  names_of = declared_front.all p.signals_at (d.signals, p.names) p.timing_at front_read

  tables_of : SomeFit (TableFits (length d.signals)) d.tables
  tables_of = (timing_fit (length d.signals) p.names names_of.names.tidy text p.timing_at at_timing).all d.tables p.bodies_at p.timing_read

  patterns_of_lem : Every (Chosen (length d.tables)) d.patterns
  patterns_of_lem =
      let e = (bodies_chosen (length d.tables) p.names d.tables refl p.bodies_at).all p.bodied p.burst_at_lem p.bodies_read in
      let f = subst (λ (E : Env). Choosing (length d.tables) E p.burst_at_lem) (sym p.env_is) (record { tables = e.tables; macros = e.macros; procs = e.procs }) in
      (patterns_chosen (length d.tables) p.env p.burst_at_lem f p.burst_name_lem p.patterns_at).all d.patterns us p.patterns_read

-- THE LAW
pub source : (text : List ℕ) (m : Meaning) → meaning text ≡ given m → Source text m
source text m e =
    let a = accepted text m e in
    let d = a.doc in
    let p = (parts (toks text 0)).all d a.rest a.read in
    let n : length d.signals ≡ length m.signals = sym (length_firsts d.signals) ∙ ap length a.signals in
    let r = runs (Chosen (length d.tables)) d.patterns (patterns_of_lem text d a.rest p) d.listed m.run a.run in
    let t : length d.tables ≡ length m.tables = ap length a.tables in
    let low = low_cycles (length m.tables) (length m.signals) m.run (subst (λ k. Chosen k m.run) t (chosen_run (length d.tables) r)) in
    let plays : first_failing m.tables (cycles_of (length m.signals) m.run) ≡ none =
    subst (λ (k : ℕ). first_failing m.tables (cycles_of k m.run) ≡ none) n (subst (λ tabs. first_failing tabs (cycles_of (length d.signals) m.run) ≡ none) a.tables a.plays) in
    let good = cycles_good (length m.signals) m.tables (cycles_of (length m.signals) m.run) (every_cycle_wide (length m.signals) m.run) low plays in
    record {
      signals = subst (λ ts. SomeFit NewSignal (directed text ts)) a.signals (signals_good text d.signals (signals_of text d a.rest p));
      tables = subst (λ (k : ℕ). SomeFit (TableFits k) m.tables) n (subst (SomeFit (TableFits (length d.signals))) a.tables (tables_of text d a.rest p));
      rows = good.0;
      shows = good.1;
      listed = rows_listed_lem (length m.signals) r;
      runs_listed = runs _ d.patterns (patterns_within.all _ _ _ a.read) d.listed m.run a.run;
      plays = plays;
      pairs = a.pairs;
    }
