-- The whole text from its parts: each part's pieces are its own and then those behind, so that parts that were written one behind the other are the text.
use Rattle.std.specs.Prelude.{Some}
use Prim.Native.Nat.{ℕ, ◌-◌, ◌≤◌}
use native.Mathlib.Omega.{arith}
use mathlib.Core.Path.{◌≡◌, refl, sym, ap, ap₂, ◌∙◌}
use mathlib.Core.Bool.{false}
use mathlib.Core.List.{List, [], ◌∷◌, ◌++◌, append_assoc}
use lib.ListN.{length}
use Rattle.tokens.specs.Written.{bytes}
use Rattle.tokens.specs.Tokens.{Tok}
use Rattle.meaning.specs.Bounds.{signals_most}
use Rattle.meaning.specs.Timing.{Event, Tables, Signed, plus, minus, uncounted}
use Rattle.meaning.specs.Body.{listed as by_list, Way, entered, Body, done, inner}
use Rattle.meaning.specs.Run.{cycles_of, alone}
use Rattle.meaning.specs.Meaning.{Answer, given, run_of, firsts, Meaning, meaning}
use Rattle.words.specs.Table.{names}
use Rattle.bursts.proofs.Entries.{listed_length}
use Rattle.texts.proofs.Runs.{list_from, list_end, list_cut}
use Rattle.index.proofs.Left.{first_listed}
use Rattle.plays.specs.Plays.{Ground}
use Rattle.folded.specs.Pieces.{Piece, word, only, laid, each}
use Rattle.folded.specs.Flat.{Row, Chart, Sheet, directed, sheets, rows_of, listed_rows, parted_all, lines_of, patterns_of, flat}
use Rattle.pages.specs.Pages.{digits, decimal}
use Rattle.folded.specs.Layout.{pattern_name, signal_put, signals_put, time_put, event_put, entry_put, chart_put, sheet_put, timing_put, names_from, listed_put, burst_put, exec_put, pattern_put, named_from, or_one, names_of, sheet_names, pieces, written}
use Rattle.folded.specs.Walk.{begun_all}
use Rattle.folded.specs.Same.{words_of}
use Rattle.folded.proofs.Walk.{walked_all_lem, begun_all_lem}
use Rattle.folded.proofs.FlatGood.{lines_length}
use Rattle.folded.proofs.Folding.{names_directed}
use Rattle.pens.specs.Pens.{Writes}
use Rattle.pens.specs.declared.Pen.{Pen}
use Rattle.pens.proofs.Laws.{writes_both, writes_same}
use Rattle.folds.proofs.Laws.{laid_behind}
use Rattle.flats.specs.Meant.{Meant, signals_in, tables_in, Patterned, Bodied}
use Rattle.flats.specs.Flattens.{headed, Heads}
use Rattle.flats.specs.declared.Part.{Part}
use Rattle.flats.proofs.Running.{lists_are, first_is}

-- ---- pieces before others

abbrev Prefix : (List Piece → List Piece) → Type 0
Prefix P = (k : List Piece) → laid (P k) ≡ laid (P []) ++ laid k

prefix_none : Prefix (λ k. k)
unfolding laid
prefix_none k = refl

prefix_word : (w : List ℕ) (b : ℕ) (P : List Piece → List Piece) → Prefix P → Prefix (λ k. word w b ∷ P k)
unfolding laid
prefix_word w b P h k = ap (λ (l : List ℕ). w ++ b ∷ l) (h k) ∙ sym (append_assoc w (b ∷ laid (P [])) (laid k))

prefix_only : (b : ℕ) (P : List Piece → List Piece) → Prefix P → Prefix (λ k. only b ∷ P k)
unfolding laid
prefix_only b P h k = ap (λ (l : List ℕ). b ∷ l) (h k)

prefix_each : {X : Type 0} (put : X → List Piece → List Piece) → ((x : X) → Prefix (put x)) → (xs : List X) (P : List Piece → List Piece) → Prefix P → Prefix (λ k. each put xs (P k))
prefix_each put own xs P h k =
    let all = laid (each put xs []) in
    laid_behind put own xs (P k) ∙ ap (λ (l : List ℕ). all ++ l) (h k) ∙ sym (append_assoc all (laid (P [])) (laid k)) ∙ ap (λ (l : List ℕ). l ++ laid k) (sym (laid_behind put own xs (P [])))

prefix_signals : (xs : List (List ℕ × List ℕ)) → Prefix (signals_put xs)
unfolding signals_put signal_put
prefix_signals xs = prefix_word _ _ _ (prefix_each signal_put (λ x. prefix_word _ _ _ (prefix_word _ _ _ prefix_none)) xs _ (prefix_only _ _ (prefix_only _ _ prefix_none)))

prefix_time : (s : Signed) (P : List Piece → List Piece) → Prefix P → Prefix (λ k. time_put s (P k))
unfolding time_put
prefix_time (plus n) P h = prefix_word _ _ P h
prefix_time (minus n) P h = prefix_only _ _ (prefix_word _ _ P h)

prefix_event : (e : Event) → Prefix (event_put e)
unfolding event_put
prefix_event e = prefix_only _ _ (prefix_time (uncounted e.time) _ (prefix_word _ _ _ prefix_none))

prefix_entry : (x : ℕ × List Event) → Prefix (entry_put x)
unfolding entry_put
prefix_entry x = prefix_word _ _ _ (prefix_each event_put prefix_event x.1 _ (prefix_only _ _ prefix_none))

prefix_chart : (x : Chart) → Prefix (chart_put x)
unfolding chart_put
prefix_chart x = prefix_word _ _ _ (prefix_each entry_put prefix_entry (x.first ∷ x.others) _ (prefix_only _ _ (prefix_only _ _ prefix_none)))

prefix_sheet : (x : Sheet) → Prefix (sheet_put x)
unfolding sheet_put
prefix_sheet x =
    prefix_word _ _ _ (prefix_word _ _ _ (prefix_word _ _ _ (prefix_word _ _ _ (prefix_only _ _ (prefix_word _ _ _ (prefix_only _ _
    (prefix_each chart_put prefix_chart x.charts _ (prefix_only _ _ (prefix_only _ _ (prefix_only _ _ prefix_none))))))))))

prefix_timing : (xs : List Sheet) → Prefix (timing_put xs)
unfolding timing_put
prefix_timing xs = prefix_word _ _ _ (prefix_only _ _ (prefix_each sheet_put prefix_sheet xs _ (prefix_only _ _ (prefix_only _ _ prefix_none))))

prefix_burst : (ns : List (List ℕ)) → Prefix (burst_put ns)
unfolding burst_put listed_put
prefix_burst ns = prefix_word _ _ _ (prefix_word _ _ _ (prefix_word _ _ _ (prefix_each listed_put (λ x. prefix_word _ _ _ prefix_none) ns _ (prefix_only _ _ (prefix_only _ _ (prefix_only _ _ prefix_none))))))

prefix_exec : Prefix exec_put
unfolding exec_put
prefix_exec = prefix_word _ _ _ (prefix_word _ _ _ (prefix_word _ _ _ (prefix_only _ _ (prefix_only _ _ prefix_none))))

-- ---- the whole text

regroup : (a b c d e f : List ℕ) → a ++ (b ++ (c ++ (d ++ (e ++ f)))) ≡ ((((a ++ b) ++ c) ++ d) ++ e) ++ f
regroup a b c d e f = simp append_assoc

-- the Patterns behind the lines before them
unfoldable pub body_of : List (List ℕ) → List (List ℕ) → Meaning → List ℕ
body_of signals tables m = laid (each (pattern_put signals tables) (named_from 0 (or_one (lines_of (patterns_of m)))) [])

whole : (text : List ℕ) (m : Meaning) → written (flat text m) ≡ headed text m (length (patterns_of m)) ++ body_of (names_of (directed text m.signals)) (sheet_names (sheets m.signals m.tables)) m
unfolding written pieces flat headed body_of laid bytes
whole text m =
    let sigs = directed text m.signals in
    let tabs = sheets m.signals m.tables in
    let S = names_of sigs in
    let T = sheet_names tabs in
    let body = each (pattern_put S T) (named_from 0 (or_one (lines_of (patterns_of m)))) [] in
    let burst = burst_put (names_from 0 (length (lines_of (patterns_of m)))) in
    ap (λ (l : List ℕ). bytes "STIL 1.0;\n" ++ l)
    (prefix_signals sigs (timing_put tabs (burst (exec_put body)))
    ∙ ap (λ (l : List ℕ). laid (signals_put sigs []) ++ l) (prefix_timing tabs (burst (exec_put body))
    ∙ ap (λ (l : List ℕ). laid (timing_put tabs []) ++ l) (prefix_burst (names_from 0 (length (lines_of (patterns_of m)))) (exec_put body)
    ∙ ap₂ (λ (n : ℕ) (l : List ℕ). laid (burst_put (names_from 0 n) []) ++ l) (lines_length (patterns_of m)) (prefix_exec body))))
    ∙ regroup (bytes "STIL 1.0;\n") (laid (signals_put sigs [])) (laid (timing_put tabs [])) (laid (burst_put (names_from 0 (length (patterns_of m))) [])) (laid (exec_put [])) (laid body)

-- a listed pattern has a Pattern at least
begun_inner : (n : ℕ) (w : Way) (b r : Body) → 1 ≤ begun_all (listed_rows n (inner w b r))
unfolding listed_rows begun_all
begun_inner n w b r = by (rows_of (cycles_of n (alone b)))
  where
    by : (l : List Row) → 1 ≤ begun_all (l ∷ listed_rows n r)
    by [] = omega arith
    by (x ∷ xs) = omega arith

-- ---- over the names that the code has

sheet_names_lem : (ts : List Tok) (tabs : Tables) → sheet_names (sheets ts tabs) ≡ words_of (firsts tabs)
unfolding sheet_names sheets words_of firsts
sheet_names_lem ts [] = refl
sheet_names_lem ts (x ∷ xs) = ap (λ (l : List (List ℕ)). x.0.word ∷ l) (sheet_names_lem ts xs)

module _ {g : Ground} {list : List ℕ} {listed patterns sized : ℕ} {m : Meaning} (h : Meant g list listed patterns sized m) where
  pub signals_long : length m.signals ≡ g.signals
  signals_long = ap length h.signals_are ∙ listed_length g.text g.places 0 g.signals

  pub few_signals : g.signals ≤ signals_most
  few_signals = rw h.runs.signals_is at h.runs.tabled.few_signals

  pub whole_is : written (flat g.text m) ≡ headed g.text m (length (patterns_of m)) ++ body_of (signals_in g) (tables_in g) m
  whole_is =
      whole g.text m
      ∙ ap₂ (λ (S T : List (List ℕ)). headed g.text m (length (patterns_of m)) ++ body_of S T m)
      (names_directed g.text m.signals ∙ ap words_of h.signals_are) (sheet_names_lem m.signals m.tables ∙ ap words_of h.tables_are)

  patterns_are : patterns_of m ≡ parted_all (listed_rows g.signals m.run)
  unfolding patterns_of
  patterns_are = ap (λ (n : ℕ). parted_all (listed_rows n m.run)) signals_long

  -- nothing is listed
  none_listed : listed ≡ 0 → patterns_of m ≡ []
  unfolding run_of listed_rows parted_all
  none_listed z =
      let lists = lists_are h in
      let e : listed - 0 ≡ listed = omega arith in
      let r : run_of h.read.patterns (list_from g.text list listed 0) ≡ given m.run = rw e lists.run_is in
      let none : run_of h.read.patterns (list_from g.text list listed 0) ≡ given done = rw (list_end g.text list listed 0 (omega arith), run_of) in
      let same : ◌≡◌ {A = Answer _} (given m.run) (given done) = sym r ∙ none in
      let is : m.run ≡ done = cc in
      patterns_are ∙ ap (λ b. parted_all (listed_rows g.signals b)) is

  -- or something is
  some_listed : 1 ≤ listed → 1 ≤ length (patterns_of m)
  unfolding listed_rows begun_all
  some_listed l =
      let lists = lists_are h in
      let e : listed - 0 ≡ listed = omega arith in
      let r : run_of h.read.patterns (list_from g.text list listed 0) ≡ given m.run = rw e lists.run_is in
      let f = first_listed h.read.patterns _ _ m.run (rw (list_cut g.text list listed 0 (omega arith)) at r) in
      let is = first_is (rw (list_cut g.text list listed 0 (omega arith)) at r) f in
      let n : length (patterns_of m) ≡ begun_all (listed_rows g.signals m.run) = ap length patterns_are ∙ begun_all_lem (listed_rows g.signals m.run) in
      omega (arith, n, ap (λ b. begun_all (listed_rows g.signals b)) is, begun_inner g.signals (entered by_list 0 []) f.decl.body f.rest)

or_some : (ps : List (List Row)) → 1 ≤ length ps → or_one (lines_of ps) ≡ lines_of ps
unfolding or_one lines_of
or_some [] h = absurd (omega arith)
or_some (p ∷ ps) h = refl

-- ---- the Patterns, as the code writes them

empty_is : (S T : List (List ℕ)) (ps : List (List Row)) → ps ≡ [] → bytes "Pattern p0{\n}\n" ≡ laid (each (pattern_put S T) (named_from 0 (or_one (lines_of ps))) [])
unfolding or_one lines_of named_from each pattern_put pattern_name decimal digits laid bytes
empty_is S T ps e = ap (λ ps. laid (each (pattern_put S T) (named_from 0 (or_one (lines_of ps))) [])) (sym e)

module _ {g : Ground} {list : List ℕ} {listed patterns sized : ℕ} {entry exit : List ℕ} {r : Part} where
  pub bodied_some : 1 ≤ listed → Patterned g list listed patterns sized entry exit r → Bodied g list listed patterns sized entry exit r
  bodied_some l p = record {
    written = λ m h. writes_same (
        ap laid (walked_all_lem (signals_in g) (tables_in g) 0 (listed_rows g.signals m.run) []
        ∙ ap (λ ls. each (pattern_put (signals_in g) (tables_in g)) (named_from 0 ls) []) (ap lines_of (sym (patterns_are h)) ∙ sym (or_some (patterns_of m) (some_listed h l))))) (p.written m h);
    counts = λ m h. p.counts m h ∙ sym (begun_all_lem (listed_rows g.signals m.run)) ∙ ap length (sym (patterns_are h));
  }

  pub bodied_none : listed ≡ 0 → r.pattern ≡ 0 → Writes entry (record { at = Some 0 }) (bytes "Pattern p0{\n}\n") exit r.pen → Bodied g list listed patterns sized entry exit r
  bodied_none z n w = record {
    written = λ m h. writes_same (empty_is (signals_in g) (tables_in g) (patterns_of m) (none_listed h z)) w;
    counts = λ m h. n ∙ sym (ap length (none_listed h z));
  }

-- ---- the lines before them

pub heads_are : {text places entry a b c d exit : List ℕ} {signals count : ℕ} {p q s t r : Pen} → Writes entry (record { at = Some 0 }) (bytes "STIL 1.0;\n") a p
    → Writes a p (laid (signals_put (directed text (firsts (names text places signals))) [])) b q
    → ((m : Meaning) → meaning text ≡ given m → Writes b q (laid (timing_put (flat text m).tables [])) c s)
    → Writes c s (laid (burst_put (names_from 0 count) [])) d t → Writes d t (laid (exec_put [])) exit r → Heads text places signals count entry exit r
unfolding headed
heads_are {text} e f g h k = record {
  writes = λ m meant is. writes_both (writes_both (writes_both (writes_both e (writes_same (ap (λ ts. laid (signals_put (directed text ts) [])) (sym is)) f)) (g m meant)) h) k;
}
