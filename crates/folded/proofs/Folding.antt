-- A folded text is accepted, and its cycles and waveforms are those of the text that it was folded from.
use Prim.Native.Nat.{ℕ, zero, suc, ◌≤◌}
use native.Mathlib.Omega.{arith}
use mathlib.Core.Path.{◌≡◌, refl, sym, ap, ap₂, ◌∙◌, subst}
use mathlib.Core.Bool.{Bool, true, false, ◌&&◌, ◌||◌}
use mathlib.Core.Option.{Option, none, some}
use mathlib.Core.List.{List, [], ◌∷◌}
use lib.Dec.{eqb}
use lib.ListN.{length}
use borrow.Author.Tests.{le-leb}
use Rattle.tokens.specs.Written as Written
use Rattle.tokens.specs.Bytes.{blank}
use Rattle.tokens.specs.Refusals.{text_most, not_here}
use Rattle.tokens.specs.Tokens.{Tok, Toks, stop, toks, fault_of}
use Rattle.tokens.proofs.Faults.{short_clean}
use Rattle.meaning.specs.Bounds.{patterns_most, size_most, cycles_most}
use Rattle.meaning.specs.Reader.{ok}
use Rattle.meaning.specs.Names.{is_some}
use Rattle.meaning.specs.Signals.{Names}
use Rattle.meaning.specs.Timing.{Wave, Table, Tables}
use Rattle.meaning.specs.Body.{Body}
use Rattle.meaning.specs.Document.{Read, document}
use Rattle.meaning.specs.Run.{Cycle, unassigned, size, cycles, cycles_of}
use Rattle.meaning.specs.Refusals.{too_large, not_playable, across_edge}
use Rattle.meaning.specs.Edges.{first_in_run}
use Rattle.meaning.specs.Meaning.{Answer, given, refused, answering, run_of, has_wave, all_waves, table_at, playable, first_failing, Meaning, firsts, fitting, ordered, meaning_of, judged, accept, meaning}
use Rattle.meaning.specs.Services.{wave_of}
use Rattle.held.proofs.Parts.{parts as doc-parts}
use Rattle.meaning.proofs.Rows.{rows_are_cycles}
use Rattle.meaning.proofs.Everywhere.{runs}
use Rattle.meaning.proofs.Depth.{patterns_within}
use Rattle.edges.proofs.Parted.{SameTables}
use Rattle.meaning.proofs.Listed.{length_firsts}
use Rattle.folded.specs.Flat.{Row, rows_of, directed, Chart, Sheet, sheets, charts_from, listed_rows, parted_all, lines_of, patterns_of, flat}
use Rattle.folded.specs.Layout.{names_of, sheet_names, signals_put, pieces, written}
use Rattle.folded.specs.Fold.{folded_most}
use Rattle.folded.specs.Same.{words_of, periods_of, placeless}
use Rattle.folded.proofs.Words.{words, sign, Spells, spells, no_fault}
use Rattle.folded.proofs.Reading.{SomeFit, worded, worded_length}
use Rattle.folded.proofs.SignalsBack.{Directed, singles, singles_length, NewSignal}
use Rattle.folded.proofs.TimingBack.{tables_in, NewSheet}
use Rattle.folded.proofs.BurstBack.{words_length}
use Rattle.folded.proofs.DocumentBack.{behind_signals, GoodFlat, ReadBack, reads_document}
use Rattle.folded.proofs.GoodPieces.{each_fits, good_pieces}
use Rattle.folded.proofs.SourceTiming.{TableFits}
use Rattle.folded.proofs.Charts.{Knowns, has_wave_lem, charts_same}
use Rattle.folded.proofs.Sheets.{signals_known, sheets_good, tables_known}
use Rattle.folded.specs.Shapes.{concat, Begins}
use Rattle.folded.proofs.Stretches.{All, parted_all_lem, parted_steady}
use Rattle.folded.proofs.PlayBack.{cycle_of, cycles_for, run_back, run_played}
use Rattle.folded.proofs.RunBack.{RunIs, run_back_lem, placeless_rows, placeless_cycles, unplaced_size}
use Rattle.folded.proofs.GoodRows.{GoodRow, SoundTables, tables_sound, rows_fair}
use Rattle.folded.proofs.FlatGood.{listed_new, patterns_good, all_lines, lines_length}
use Rattle.folded.proofs.Sizes.{run_fits}
use Rattle.folded.proofs.Source.{Source, at_signals}
use Rattle.folded.proofs.Directions.{signals_took, directions_read, behind_version}
use Rattle.folded.proofs.Again.{charts_alike, parted_again, run_listed}
use Rattle.folded.proofs.InOrder.{periods_at, parts_of_run}

-- ---- lengths

pub names_directed : (text : List ℕ) (ts : List Tok) → names_of (directed text ts) ≡ words_of ts
unfolding names_of directed words_of
names_directed text [] = refl
names_directed text (t ∷ ts) = ap (λ (l : List (List ℕ)). t.word ∷ l) (names_directed text ts)

directed_length : (text : List ℕ) (ts : List Tok) → length (directed text ts) ≡ length ts
unfolding directed
directed_length text [] = refl
directed_length text (t ∷ ts) = ap suc (directed_length text ts)

sheet_names_lem : (signals : List Tok) (tabs : Tables) → length (sheet_names (sheets signals tabs)) ≡ length tabs
unfolding sheet_names sheets
sheet_names_lem signals [] = refl
sheet_names_lem signals (x ∷ tabs) = ap suc (sheet_names_lem signals tabs)

pub rows_length_lem : (cs : List Cycle) → length (rows_of cs) ≡ length cs
unfolding rows_of
rows_length_lem [] = refl
rows_length_lem (c ∷ cs) = ap suc (rows_length_lem cs)

cycles_length : (xs : List Row) → length (cycles_for xs) ≡ length xs
unfolding cycles_for
cycles_length [] = refl
cycles_length (x ∷ xs) = ap suc (cycles_length xs)

placeless_length : (cs : List Cycle) → length (placeless cs) ≡ length cs
unfolding placeless
placeless_length [] = refl
placeless_length (c ∷ cs) = ap suc (placeless_length cs)

-- equal lists have equal firsts and equal rests
parts : {A : Type 0} {a b : A} {l k : List A} → a ∷ l ≡ b ∷ k → (a ≡ b) × (l ≡ k)
parts {A} {a} {b} {l} {k} e = (let q : a ≡ b = cc in q, let q : l ≡ k = cc in q)

-- ---- waveforms

-- the same waveforms let the same pins play
waves_same : (s : ℕ) (pins : List ℕ) (ws vs : List Wave) → ((s c : ℕ) → wave_of s c ws ≡ wave_of s c vs) → all_waves s pins ws ≡ all_waves s pins vs
unfolding all_waves
waves_same s [] ws vs h = refl
waves_same s (c ∷ pins) ws vs h =
    let k : has_wave s c ws ≡ has_wave s c vs = has_wave_lem s c ws ∙ ap is_some (h s c) ∙ sym (has_wave_lem s c vs) in
    ap₂ (λ (a b : Bool). (eqb c unassigned || a) && b) k (waves_same (suc s) pins ws vs h)

-- the tables that are read have the waveforms of those that were written
tables_same : (n : ℕ) (signals : List Tok) (tabs back : Tables) → length signals ≡ n → SoundTables n tabs → worded back ≡ tables_in (sheets signals tabs)
    → (k s c : ℕ) → wave_of s c (table_at back k) ≡ wave_of s c (table_at tabs k)
unfolding worded tables_in sheets table_at
tables_same n signals [] [] l g e k s c = refl
tables_same n signals [] (y ∷ back) l g e k s c = absurd (let z : ◌≡◌ {A = ℕ} 0 1 = cc in omega arith)
tables_same n signals (x ∷ tabs) [] l g e k s c = absurd (let z : ◌≡◌ {A = ℕ} 0 1 = cc in omega arith)
tables_same n signals (x ∷ tabs) (y ∷ back) l g e zero s c =
    ap (λ (t : List ℕ × Table). wave_of s c t.1.waves) (parts e).0 ∙ charts_same n x.1.waves g.0 signals l s c
tables_same n signals (x ∷ tabs) (y ∷ back) l g e (suc k) s c =
    tables_same n signals tabs back l g.1 (parts e).1 k s c

-- and their names and periods
pub names_same : (signals : List Tok) (tabs back : Tables) → worded back ≡ tables_in (sheets signals tabs) → (words_of (firsts back) ≡ words_of (firsts tabs)) × (periods_of back ≡ periods_of tabs)
unfolding worded tables_in sheets words_of firsts periods_of
names_same signals [] [] e = (refl, refl)
names_same signals [] (y ∷ back) e = absurd (let z : ◌≡◌ {A = ℕ} 0 1 = cc in omega arith)
names_same signals (x ∷ tabs) [] e = absurd (let z : ◌≡◌ {A = ℕ} 0 1 = cc in omega arith)
names_same signals (x ∷ tabs) (y ∷ back) e =
    let p = parts e in
    let r = names_same signals tabs back p.1 in
    (ap₂ (λ (h : List ℕ × Table) (t : List (List ℕ)). h.0 ∷ t) p.0 r.0, ap₂ (λ (h : List ℕ × Table) (t : List ℕ). h.1.period ∷ t) p.0 r.1)

pub signals_same : (text : List ℕ) (i : ℕ) (ts : List Tok) (ns : Names) → worded ns ≡ singles i (directed text ts) → words_of (firsts ns) ≡ words_of ts
unfolding worded singles directed words_of firsts
signals_same text i [] [] e = refl
signals_same text i [] (x ∷ ns) e = absurd (let z : ◌≡◌ {A = ℕ} 0 1 = cc in omega arith)
signals_same text i (t ∷ ts) [] e = absurd (let z : ◌≡◌ {A = ℕ} 0 1 = cc in omega arith)
signals_same text i (t ∷ ts) (x ∷ ns) e =
    let p = parts e in
    ap₂ (λ (h : List ℕ × List ℕ) (t : List (List ℕ)). h.0 ∷ t) p.0 (signals_same text (suc i) ts ns p.1)

-- the sheets that would be written of them
sheets_again : (n : ℕ) (signals again : List Tok) (tabs back : Tables) → words_of again ≡ words_of signals → length signals ≡ n → SoundTables n tabs → worded back ≡ tables_in (sheets signals tabs)
    → sheets again back ≡ sheets signals tabs
unfolding worded tables_in sheets
sheets_again n signals again [] [] w l g e = refl
sheets_again n signals again [] (y ∷ back) w l g e = absurd (let z : ◌≡◌ {A = ℕ} 0 1 = cc in omega arith)
sheets_again n signals again (x ∷ tabs) [] w l g e = absurd (let z : ◌≡◌ {A = ℕ} 0 1 = cc in omega arith)
sheets_again n signals again (x ∷ tabs) (y ∷ back) w l g e =
    let p = parts e in
    let c : charts_from 0 again y.1.waves ≡ charts_from 0 signals x.1.waves =
    charts_alike 0 again signals y.1.waves x.1.waves w λ s c. ap (λ (t : List ℕ × Table). wave_of s c t.1.waves) p.0 ∙ charts_same n x.1.waves g.0 signals l s c in
    ap₂ (λ (h : Sheet) (t : List Sheet). h ∷ t)
    (ap₂ (λ (t : List ℕ × Table) (c : List Chart). record { name = t.0; period = t.1.period; charts = c }) p.0 c)
    (sheets_again n signals again tabs back w l g.1 p.1)

-- ---- cycles that show rows which can be played

placed : (tabs : Tables) (c : Cycle) → playable tabs c ≡ playable tabs (record { at = 0; table = c.table; pins = c.pins })
unfolding playable
placed tabs c = refl

playing_rows : (tabs : Tables) (cs : List Cycle) (xs : List Row) → placeless cs ≡ cycles_for xs → All (λ x. playable tabs (cycle_of x) ≡ true) xs → first_failing tabs cs ≡ none
unfolding placeless cycles_for first_failing
playing_rows tabs [] [] e h = refl
playing_rows tabs [] (x ∷ xs) e h = absurd (let z : ◌≡◌ {A = ℕ} 0 1 = cc in omega arith)
playing_rows tabs (c ∷ cs) [] e h = absurd (let z : ◌≡◌ {A = ℕ} 0 1 = cc in omega arith)
playing_rows tabs (c ∷ cs) (x ∷ xs) e h =
    let a : record { at = 0; table = c.table; pins = c.pins } ≡ cycle_of x = cc in
    let b : placeless cs ≡ cycles_for xs = cc in
    let p : playable tabs c ≡ true = placed tabs c ∙ ap (playable tabs) a ∙ h.0 in
    rw (p, first_failing) (playing_rows tabs cs xs b h.1)

-- ---- what makes a text accepted

judged_so : (d : Read) (r : Body) → fitting r ≡ true → first_failing d.tables (cycles_of (length d.signals) r) ≡ none
    → first_in_run d.tables (length (firsts d.signals)) r ≡ none → judged d r ≡ given (meaning_of d r)
unfolding judged ordered
judged_so d r e h k =
    ap (λ (b : Bool). elim b as (λ c. Answer Meaning) [
      | false ↦ refused too_large 0
      | true ↦ elim (first_failing d.tables (cycles_of (length d.signals) r)) [ some p ↦ refused not_playable p | none ↦ ordered (meaning_of d r) ]
    ]) e
    ∙ ap (λ (o : Option ℕ). elim o as (λ c. Answer Meaning) [ some p ↦ refused not_playable p | none ↦ ordered (meaning_of d r) ]) h
    ∙ ap (λ (o : Option ℕ). elim o as (λ c. Answer Meaning) [ some p ↦ refused across_edge p | none ↦ given (meaning_of d r) ]) k

accepts : (text : List ℕ) (d : Read) (ts : Toks) (r : Body) → fault_of text ≡ none → document (toks text 0) ≡ ok d ts → run_of d.patterns d.listed ≡ given r → fitting r ≡ true
    → first_failing d.tables (cycles_of (length d.signals) r) ≡ none → first_in_run d.tables (length (firsts d.signals)) r ≡ none → meaning text ≡ given (meaning_of d r)
unfolding meaning accept answering
accepts text d ts r f e g h k l =
    ap (λ (o : Option (ℕ × ℕ)). elim o as (λ c. Answer Meaning) [ some f ↦ refused f.0 f.1 | none ↦ accept (document (toks text 0)) ]) f
    ∙ ap accept e ∙ ap (λ (a : Answer Body). answering a (judged d)) g ∙ judged_so d r h k l

-- ---- what is written may be read

module _ (text : List ℕ) (m : Meaning) (s : Source text m) (few : length (patterns_of m) ≤ patterns_most) (short : cycles 0 m.run ≤ folded_most) where
  abbrev pub n : ℕ
  n = length m.signals

  abbrev pub names : List (List ℕ × List ℕ)
  names = singles 0 (directed text m.signals)

  abbrev pub rows : List Row
  rows = rows_of (cycles_of n m.run)

  rows_are : concat (patterns_of m) ≡ rows
  unfolding patterns_of
  rows_are = parted_all_lem (listed_rows n m.run) ∙ s.listed

  pub rows_short : length rows ≤ folded_most
  rows_short = omega (arith, rows_length_lem (cycles_of n m.run), rows_are_cycles n m.run)

  known : Knowns names 0 (names_of (directed text m.signals))
  known = signals_known [] (directed text m.signals) (each_fits NewSignal (directed text m.signals) s.signals)

  good_tables : SomeFit (NewSheet names) (sheets m.signals m.tables)
  good_tables = sheets_good m.signals n names (subst (Knowns names 0) (names_directed text m.signals) known) m.tables s.tables

  sound : SoundTables n m.tables
  sound = tables_sound n [] m.tables (each_fits (TableFits n) m.tables s.tables)

  steady : All Begins (patterns_of m)
  unfolding patterns_of
  steady = parted_steady (listed_rows n m.run)

  flat_good : GoodFlat (flat text m)
  unfolding flat
  flat_good =
      let sig = names_of (directed text m.signals) in
      let tabs = sheet_names (sheets m.signals m.tables) in
      let all = tables_in (sheets m.signals m.tables) in
      let many : length sig ≡ n = ap length (names_directed text m.signals) ∙ words_length m.signals in
      let lines = all_lines sig tabs names all n known many (tables_known names [] (sheets m.signals m.tables) (each_fits (NewSheet names) (sheets m.signals m.tables) good_tables)) m.tables sound
      (sym (sheet_names_lem m.signals m.tables)) (patterns_of m) steady (subst (All (GoodRow n m.tables)) (sym rows_are) s.rows) (omega (arith, ap length rows_are, rows_short)) in
      let l = lines_length (patterns_of m) in
      record {
        signals = s.signals;
        tables = good_tables;
        listed = listed_new 0 (length (lines_of (patterns_of m))) [] refl (omega arith);
        patterns = patterns_good sig tabs names all (lines_of (patterns_of m)) lines (omega arith);
      }

  -- ---- and it is read

  abbrev pub bytes : List ℕ
  bytes = written (flat text m)

  spelled : Spells (words (pieces (flat text m))) (toks bytes 0)
  unfolding toks written
  spelled = spells (pieces (flat text m)) (good_pieces (flat text m) flat_good) 0

  pub record Back : Type 0 where
    pub doc : Read
    pub rest : Toks
    pub read : document (toks bytes 0) ≡ ok doc rest
    pub is : ReadBack (flat text m) doc

  pub back : Back
  back = let r = (reads_document (flat text m) flat_good).all (toks bytes 0) (stop not_here spelled.0) spelled.1 in record { doc = r.0; rest = r.1; read = r.2; is = r.4 }

  pub run_is : RunIs back.doc.patterns back.doc.listed (lines_of (patterns_of m))
  unfolding flat
  run_is = run_back_lem back.doc.patterns (lines_of (patterns_of m)) back.doc.listed back.is.patterns back.is.listed (omega (arith, lines_length (patterns_of m)))

  -- the same cycles
  pub cycles_same : placeless (cycles_of n run_is.run) ≡ cycles_for rows
  cycles_same =
      sym (placeless_cycles n run_is.run) ∙ ap (λ (b : Body). placeless (cycles_of n b)) run_is.twins
      ∙ ap placeless (run_played n (patterns_of m) steady (rows_fair n m.tables sound (concat (patterns_of m)) (subst (All (GoodRow n m.tables)) (sym rows_are) s.rows)))
      ∙ placeless_rows (concat (patterns_of m)) ∙ ap cycles_for rows_are

  pub as_many : length back.doc.signals ≡ n
  unfolding flat
  as_many = sym (worded_length back.doc.signals) ∙ ap length back.is.signals ∙ singles_length 0 (directed text m.signals) ∙ directed_length text m.signals

  pub cycles_count : cycles 0 run_is.run ≡ length rows
  cycles_count = sym (rows_are_cycles n run_is.run) ∙ sym (placeless_length (cycles_of n run_is.run)) ∙ ap length cycles_same ∙ cycles_length rows

  pub same_tables : (k s c : ℕ) → wave_of s c (table_at back.doc.tables k) ≡ wave_of s c (table_at m.tables k)
  unfolding flat
  same_tables = tables_same n m.signals m.tables back.doc.tables refl sound back.is.tables

  -- ---- and would be folded to the same

  pub directions_back : directed bytes (firsts back.doc.signals) ≡ directed text m.signals
  unfolding flat pieces words sign blank Written.bytes
  directions_back =
      let p = (doc-parts (toks bytes 0)).all back.doc back.rest back.read in
      let w = (signals_took bytes p.signals_at (at_signals bytes back.doc back.rest p)).all back.doc.signals p.groups_at p.signals_read in
      let b = (behind_version (toks bytes 0)).all p.opening_end p.signals_at p.opening_read (words (signals_put (directed text m.signals) (behind_signals (flat text m)))) (stop not_here spelled.0) spelled.1 in
      let l : length (directed bytes (firsts back.doc.signals)) ≡ length (directed text m.signals) =
      directed_length bytes (firsts back.doc.signals) ∙ length_firsts back.doc.signals ∙ as_many ∙ sym (directed_length text m.signals) in
      directions_read bytes (directed text m.signals) (behind_signals (flat text m)) back.doc.signals p.signals_at (stop not_here spelled.0) b w l

  -- its listed patterns are the Patterns
  listed_same : listed_rows n run_is.run ≡ patterns_of m
  listed_same =
      run_listed n run_is.run (patterns_of m) run_is.twins steady
      (rows_fair n m.tables sound (concat (patterns_of m)) (subst (All (GoodRow n m.tables)) (sym rows_are) s.rows))

  pub patterns_back : patterns_of (meaning_of back.doc run_is.run) ≡ patterns_of m
  unfolding patterns_of
  patterns_back =
      ap (λ (k : ℕ). parted_all (listed_rows k run_is.run)) (length_firsts back.doc.signals ∙ as_many) ∙ ap parted_all listed_same ∙ parted_again (patterns_of m) steady

  -- THE LAW
  pub flat_again : flat bytes (meaning_of back.doc run_is.run) ≡ flat text m
  unfolding flat
  flat_again =
      let names = signals_same text 0 m.signals back.doc.signals back.is.signals in
      let t = sheets_again n m.signals (firsts back.doc.signals) m.tables back.doc.tables names refl sound back.is.tables in
      ap (λ (x : List Directed). record { signals = x; tables = sheets (firsts back.doc.signals) back.doc.tables; patterns = lines_of (patterns_of (meaning_of back.doc run_is.run)) }) directions_back
      ∙ ap₂ (λ (x : List Sheet) (y : List (List Row)). record { signals = directed text m.signals; tables = x; patterns = lines_of y }) t patterns_back

  -- ---- so it is accepted

  module _ (fits : length bytes ≤ text_most) where
    clean : fault_of bytes ≡ none
    clean = short_clean bytes fits (no_fault (words (pieces (flat text m))) (toks bytes 0) spelled)

    run_fitting : fitting run_is.run ≡ true
    unfolding fitting flat
    run_fitting =
        let a : size run_is.run ≡ size (run_back (lines_of (patterns_of m))) = sym (unplaced_size run_is.run) ∙ ap size run_is.twins in
        rw (le-leb (size run_is.run) size_most (omega (arith, run_fits (flat text m))), le-leb (cycles 0 run_is.run) cycles_most (omega (arith, cycles_count, rows_short)))

    row_plays : (x : Row) → GoodRow n m.tables x → playable back.doc.tables (cycle_of x) ≡ true
    unfolding playable cycle_of
    row_plays x g = waves_same 0 x.pins _ _ (same_tables x.table) ∙ g.waves

    rows_play : (xs : List Row) → All (GoodRow n m.tables) xs → All (λ x. playable back.doc.tables (cycle_of x) ≡ true) xs
    rows_play [] g = tt
    rows_play (x ∷ xs) g = (row_plays x g.0, rows_play xs g.1)

    plays : first_failing back.doc.tables (cycles_of n run_is.run) ≡ none
    plays = playing_rows back.doc.tables (cycles_of n run_is.run) rows cycles_same (rows_play rows s.rows)

    tables_alike : SameTables m.tables back.doc.tables
    unfolding flat
    tables_alike = record {
      periods = λ k. sym (periods_at back.doc.tables m.tables (names_same m.signals m.tables back.doc.tables back.is.tables).1 k);
      waves = λ k s c. sym (same_tables k s c);
    }

    in_order_lem : first_in_run back.doc.tables n run_is.run ≡ none
    unfolding patterns_of
    in_order_lem =
        parts_of_run m.tables back.doc.tables tables_alike n s.runs_listed
        (runs _ back.doc.patterns (patterns_within.all _ _ _ back.read) back.doc.listed run_is.run run_is.is) s.plays plays listed_same s.pairs

    -- THE LAW
    pub folded_accepted : meaning bytes ≡ given (meaning_of back.doc run_is.run)
    folded_accepted =
        accepts bytes back.doc back.rest run_is.run clean back.read run_is.is run_fitting (rw as_many plays)
        (rw (length_firsts back.doc.signals ∙ as_many) in_order_lem)
