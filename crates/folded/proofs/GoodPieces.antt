-- The pieces of a flat text that a reader takes: each word is one, and no byte behind it belongs to it.
use Prim.Native.Nat.{ℕ, ◌≤◌}
use native.Mathlib.Omega.{arith}
use mathlib.Core.Path.{◌≡◌, refl, sym, ap, ◌∙◌, subst}
use mathlib.Core.Bool.{Bool, true, false, ◌&&◌, ◌||◌}
use mathlib.Core.Option.{Option, none, some}
use mathlib.Core.List.{List, [], ◌∷◌, ◌++◌}
use lib.Dec.{leb, eqb}
use borrow.Author.Tests.{eqb-true}
use Rattle.tokens.specs.Written.{bytes, same}
use Rattle.tokens.specs.Bytes.{between, blank, allowed, digit, letter, wordy}
use Rattle.meaning.specs.Bounds.{time_most}
use Rattle.meaning.specs.Lists.{has}
use Rattle.meaning.specs.Names.{among}
use Rattle.meaning.specs.Signals.{directions}
use Rattle.meaning.specs.Timing.{Event, Wave, Table, Signed, plus, minus, uncounted, drives, compares, event_letter}
use Rattle.meaning.specs.Body.{Assigns}
use Rattle.meaning.proofs.Others.{same_eq}
use Rattle.meaning.proofs.Signs.{amount, amount_most}
use Rattle.folded.specs.Pieces.{Piece, word, only, each, lf, space, quote, dash, semicolon, equals, opening, closing}
use Rattle.folded.specs.Flat.{Entries, Chart, Sheet, Line, chooses, repeats, Flat}
use Rattle.folded.specs.Layout.{signal_put, signals_put, time_put, event_put, entry_put, chart_put, sheet_put, timing_put, burst_name, listed_put, burst_put, exec_put, value_put, vector_put, line_put, pattern_put, named_from, or_one, names_of, sheet_names, pieces}
use Rattle.pages.specs.Pages.{decimal}
use Rattle.folded.proofs.Words.{AllWordy, Proper, Apart, Good}
use Rattle.folded.proofs.Reading.{AllFit, SomeFit}
use Rattle.folded.proofs.Leaves.{time_read, decimal_proper}
use Rattle.folded.proofs.SignalsBack.{Directed, singles, NewSignal}
use Rattle.folded.proofs.TimingBack.{NewEvent, FirstFits, NewEntry, char_wordy, waves_all, tables_in, NewChart, NewSheet}
use Rattle.folded.proofs.BurstBack.{NewListed}
use Rattle.folded.proofs.StatementsBack.{NewValue, GoodLine, GoodLines}
use Rattle.folded.proofs.PatternsBack.{Named, NewPattern}
use Rattle.folded.proofs.DocumentBack.{GoodFlat}

-- ---- bytes alone

lf_apart : Apart lf
unfolding allowed blank wordy letter digit between
lf_apart = record { good = refl; ends = refl; plain = λ e. omega arith }

space_apart : Apart space
unfolding allowed blank wordy letter digit between
space_apart = record { good = refl; ends = refl; plain = λ e. omega arith }

quote_apart : Apart quote
unfolding allowed blank wordy letter digit between
quote_apart = record { good = refl; ends = refl; plain = λ e. omega arith }

dash_apart : Apart dash
unfolding allowed blank wordy letter digit between
dash_apart = record { good = refl; ends = refl; plain = λ e. omega arith }

semicolon_apart : Apart semicolon
unfolding allowed blank wordy letter digit between
semicolon_apart = record { good = refl; ends = refl; plain = λ e. omega arith }

equals_apart : Apart equals
unfolding allowed blank wordy letter digit between
equals_apart = record { good = refl; ends = refl; plain = λ e. omega arith }

opening_apart : Apart opening
unfolding allowed blank wordy letter digit between
opening_apart = record { good = refl; ends = refl; plain = λ e. omega arith }

closing_apart : Apart closing
unfolding allowed blank wordy letter digit between
closing_apart = record { good = refl; ends = refl; plain = λ e. omega arith }

-- ---- words that are written out

all_wordy : List ℕ → Bool
all_wordy [] = true
all_wordy (b ∷ s) = wordy b && all_wordy s

is_proper : List ℕ → Bool
is_proper [] = false
is_proper (b ∷ s) = all_wordy (b ∷ s)

all_wordy_lem : (w : List ℕ) → all_wordy w ≡ true → AllWordy w
unfolding all_wordy
all_wordy_lem [] h = tt
all_wordy_lem (b ∷ s) h = by (wordy b) refl h (all_wordy_lem s)
  where
    by : (c : Bool) → wordy b ≡ c → (c && all_wordy s) ≡ true → (all_wordy s ≡ true → AllWordy s) → AllWordy (b ∷ s)
    by true e h ih = (e, ih h)
    by false e h ih = absurd (let z : ◌≡◌ {A = ℕ} 0 1 = cc in omega arith)

said : (w : List ℕ) → is_proper w ≡ true → Proper w
unfolding is_proper
said [] h = absurd (let z : ◌≡◌ {A = ℕ} 0 1 = cc in omega arith)
said (b ∷ s) h = all_wordy_lem (b ∷ s) h

-- ---- each of some things

good_each : {X : Type 0} (F : List X → X → Type 0) (put : X → List Piece → List Piece) → ((before : List X) (x : X) (k : List Piece) → F before x → Good k → Good (put x k))
    → (xs before : List X) (k : List Piece) → AllFit F before xs → Good k → Good (each put xs k)
unfolding each
good_each F put h [] before k f g = g
good_each F put h (x ∷ xs) before k f g = h before x (each put xs k) f.0 (good_each F put h xs (before ++ x ∷ []) k f.1 g)

-- ---- Signals

direction_proper : (w : List ℕ) → among directions w ≡ true → Proper w
unfolding among directions bytes is_proper all_wordy wordy letter digit between
direction_proper w h = by (same w (bytes "In")) refl (same w (bytes "Out")) refl (same w (bytes "InOut")) refl h
  where
    by : (a : Bool) → same w (bytes "In") ≡ a → (b : Bool) → same w (bytes "Out") ≡ b → (c : Bool) → same w (bytes "InOut") ≡ c → (a || (b || (c || false))) ≡ true → Proper w
    by true p b q c r h = subst Proper (sym (same_eq w (bytes "In") p)) (said (bytes "In") refl)
    by false p true q c r h = subst Proper (sym (same_eq w (bytes "Out") q)) (said (bytes "Out") refl)
    by false p false q true r h = subst Proper (sym (same_eq w (bytes "InOut") r)) (said (bytes "InOut") refl)
    by false p false q false r h = absurd (let z : ◌≡◌ {A = ℕ} 0 1 = cc in omega arith)

good_signal : (before : List Directed) (x : Directed) (k : List Piece) → NewSignal before x → Good k → Good (signal_put x k)
unfolding signal_put
good_signal before x k f g = (f.proper, space_apart, (direction_proper x.1 f.directed, semicolon_apart, g))

good_signals : (xs : List Directed) (k : List Piece) → AllFit NewSignal [] xs → Good k → Good (signals_put xs k)
unfolding signals_put bytes is_proper all_wordy wordy letter digit between
good_signals xs k f g = (said (bytes "Signals") refl, opening_apart, good_each NewSignal signal_put good_signal xs [] (only closing ∷ only lf ∷ k) f (closing_apart, (lf_apart, g)))

-- ---- Timing

among_wordy : (e : ℕ) (w : List ℕ) → all_wordy w ≡ true → has e w ≡ true → wordy e ≡ true
unfolding all_wordy has
among_wordy e [] h k = absurd (let z : ◌≡◌ {A = ℕ} 0 1 = cc in omega arith)
among_wordy e (b ∷ w) h k = by (wordy b) refl (eqb b e) refl h k (among_wordy e w)
  where
    by : (c : Bool) → wordy b ≡ c → (d : Bool) → eqb b e ≡ d → (c && all_wordy w) ≡ true → (d || has e w) ≡ true → (all_wordy w ≡ true → has e w ≡ true → wordy e ≡ true) → wordy e ≡ true
    by true p true q h k ih = ap wordy (sym (eqb-true b e q)) ∙ p
    by true p false q h k ih = ih h k
    by false p d q h k ih = absurd (let z : ◌≡◌ {A = ℕ} 0 1 = cc in omega arith)

letter_wordy : (e : ℕ) → event_letter (e ∷ []) ≡ some e → Proper (e ∷ [])
unfolding event_letter drives compares bytes all_wordy wordy letter digit between
letter_wordy e h = by (has e (bytes "DUZP")) refl (has e (bytes "LHXTlhx")) refl h
  where
    by : (a : Bool) → has e (bytes "DUZP") ≡ a → (b : Bool) → has e (bytes "LHXTlhx") ≡ b → ◌≡◌ {A = Option ℕ} (elim (a || b) [ true ↦ some e | false ↦ none ]) (some e) → Proper (e ∷ [])
    by true p b q h = (among_wordy e (bytes "DUZP") refl p, tt)
    by false p true q h = (among_wordy e (bytes "LHXTlhx") refl q, tt)
    by false p false q h = absurd (let z : ◌≡◌ {A = ℕ} 0 1 = cc in omega arith)

good_time : (s : Signed) (k : List Piece) → amount s ≤ time_most → Good k → Good (time_put s k)
unfolding time_put amount
good_time (plus n) k h g = ((time_read n h).proper, quote_apart, g)
good_time (minus n) k h g = (dash_apart, ((time_read n h).proper, quote_apart, g))

good_event : (before : List Event) (e : Event) (k : List Piece) → NewEvent before e → Good k → Good (event_put e k)
unfolding event_put
good_event before e k f g = (quote_apart, good_time (uncounted e.time) _ (amount_most e.time f.within) (letter_wordy e.letter f.lettered, semicolon_apart, g))

all_fit : (es : List Event) → FirstFits es → AllFit NewEvent [] es
all_fit [] f = absurd f
all_fit (e ∷ es) f = f

module _ (base : List Wave) (s : ℕ) where
  good_entry : (before : Entries) (x : ℕ × List Event) (k : List Piece) → NewEntry base s before x → Good k → Good (entry_put x k)
  unfolding entry_put
  good_entry before x k f g =
      ((char_wordy x.0 f.char, tt), opening_apart, good_each NewEvent event_put good_event x.1 [] (only closing ∷ k) (all_fit x.1 f.events) (closing_apart, g))

module _ (names : List (List ℕ × List ℕ)) where
  good_chart : (before : List Chart) (x : Chart) (k : List Piece) → NewChart names before x → Good k → Good (chart_put x k)
  unfolding chart_put
  good_chart before x k f g = (
    f.proper,
    opening_apart,
    good_each (NewEntry (waves_all before) x.signal) entry_put (good_entry (waves_all before) x.signal) (x.first ∷ x.others) [] (only closing ∷ only lf ∷ k) f.entries
        (closing_apart, (lf_apart, g)),
  )

  good_sheet : (before : List Sheet) (x : Sheet) (k : List Piece) → NewSheet names before x → Good k → Good (sheet_put x k)
  unfolding sheet_put bytes is_proper all_wordy wordy letter digit between
  good_sheet before x k f g = (
    said (bytes "WaveformTable") refl,
    space_apart,
    (
      f.proper,
      opening_apart,
      (
        said (bytes "Period") refl,
        quote_apart,
        (
          (time_read x.period f.within).proper,
          quote_apart,
          (
            semicolon_apart,
            (
              said (bytes "Waveforms") refl,
              opening_apart,
              (
                lf_apart,
                good_each (NewChart names) chart_put good_chart x.charts [] (only closing ∷ only closing ∷ only lf ∷ k) f.charts
                    (closing_apart, (closing_apart, (lf_apart, g))),
              ),
            ),
          ),
        ),
      ),
    ),
  )

  good_timing : (xs : List Sheet) (k : List Piece) → AllFit (NewSheet names) [] xs → Good k → Good (timing_put xs k)
  unfolding timing_put bytes is_proper all_wordy wordy letter digit between
  good_timing xs k f g =
      (said (bytes "Timing") refl, opening_apart, (lf_apart, good_each (NewSheet names) sheet_put good_sheet xs [] (only closing ∷ only lf ∷ k) f (closing_apart, (lf_apart, g))))

-- ---- PatternBurst, PatternExec

burst_proper : Proper burst_name
unfolding burst_name bytes wordy letter digit between
burst_proper = (refl, tt)

good_listed : (before : List (List ℕ)) (n : List ℕ) (k : List Piece) → NewListed before n → Good k → Good (listed_put n k)
unfolding listed_put
good_listed before n k f g = (f.proper, semicolon_apart, g)

good_burst : (ns : List (List ℕ)) (k : List Piece) → AllFit NewListed [] ns → Good k → Good (burst_put ns k)
unfolding burst_put bytes is_proper all_wordy wordy letter digit between
good_burst ns k f g = (
  said (bytes "PatternBurst") refl,
  space_apart,
  (
    burst_proper,
    opening_apart,
    (
      said (bytes "PatList") refl,
      opening_apart,
      good_each NewListed listed_put good_listed ns [] (only closing ∷ only closing ∷ only lf ∷ k) f (closing_apart, (closing_apart, (lf_apart, g))),
    ),
  ),
)

good_exec : (k : List Piece) → Good k → Good (exec_put k)
unfolding exec_put bytes is_proper all_wordy wordy letter digit between
good_exec k g = (said (bytes "PatternExec") refl, opening_apart, (said (bytes "PatternBurst") refl, space_apart, (burst_proper, semicolon_apart, (closing_apart, (lf_apart, g)))))

-- ---- Patterns

module _ (signals tables : List (List ℕ)) (names : List (List ℕ × List ℕ)) (sheets : List (List ℕ × Table)) where
  good_value : (before : Assigns) (x : ℕ × ℕ) (k : List Piece) → NewValue signals tables names sheets before x → Good k → Good (value_put signals x k)
  unfolding value_put
  good_value before x k f g = (f.proper, equals_apart, ((char_wordy x.1 f.char, tt), semicolon_apart, g))

  good_vector : (xs : Assigns) (k : List Piece) → AllFit (NewValue signals tables names sheets) [] xs → Good k → Good (vector_put signals xs k)
  unfolding vector_put bytes is_proper all_wordy wordy letter digit between
  good_vector xs k f g = (said (bytes "V") refl, opening_apart, good_each (NewValue signals tables names sheets) (value_put signals) good_value xs [] (only closing ∷ k) f (closing_apart, g))

  good_line_lem : (x : Line) (k : List Piece) → GoodLine signals tables names sheets x → Good k → Good (line_put signals tables x k)
  unfolding line_put bytes is_proper all_wordy wordy letter digit between
  good_line_lem (chooses j) k f g = (said (bytes "W") refl, space_apart, (f.0, semicolon_apart, (lf_apart, g)))
  good_line_lem (repeats n xs) k f g = by (leb 2 n)
    where
      by : (b : Bool) → Good (elim b [ true ↦ word (bytes "Loop") space ∷ word (decimal n) opening ∷ vector_put signals xs (only closing ∷ only lf ∷ k) | false ↦ vector_put signals xs (only lf ∷ k) ])
      by true = (said (bytes "Loop") refl, space_apart, (decimal_proper n, opening_apart, good_vector xs (only closing ∷ only lf ∷ k) f.2 (closing_apart, (lf_apart, g))))
      by false = good_vector xs (only lf ∷ k) f.2 (lf_apart, g)

  good_lines : (xs : List Line) (k : List Piece) → GoodLines signals tables names sheets xs → Good k → Good (each (line_put signals tables) xs k)
  unfolding each
  good_lines [] k f g = g
  good_lines (x ∷ xs) k f g = good_line_lem x (each (line_put signals tables) xs k) f.0 (good_lines xs k f.1 g)

  good_pattern : (before : List Named) (x : Named) (k : List Piece) → NewPattern signals tables names sheets before x → Good k → Good (pattern_put signals tables x k)
  unfolding pattern_put bytes is_proper all_wordy wordy letter digit between
  good_pattern before x k f g =
      (said (bytes "Pattern") refl, space_apart, (f.proper, opening_apart, (lf_apart, good_lines x.1 (only closing ∷ only lf ∷ k) f.lines (closing_apart, (lf_apart, g)))))

-- ---- the whole text

pub each_fits : {X : Type 0} (F : List X → X → Type 0) (xs : List X) → SomeFit F xs → AllFit F [] xs
each_fits F [] f = absurd f
each_fits F (x ∷ xs) f = f

-- THE LAW
pub good_pieces : (f : Flat) → GoodFlat f → Good (pieces f)
unfolding pieces bytes is_proper all_wordy wordy letter digit between
good_pieces f g =
    let names = singles 0 f.signals in
    let patterns : AllFit (NewPattern (names_of f.signals) (sheet_names f.tables) names (tables_in f.tables)) [] (named_from 0 (or_one f.patterns)) =
    each_fits (NewPattern (names_of f.signals) (sheet_names f.tables) names (tables_in f.tables)) (named_from 0 (or_one f.patterns)) g.patterns in (
      said (bytes "STIL") refl,
      space_apart,
      (
        said (bytes "1.0") refl,
        semicolon_apart,
        (
          lf_apart,
          good_signals f.signals _ (each_fits NewSignal f.signals g.signals) (good_timing names f.tables _ (each_fits (NewSheet names) f.tables g.tables)
              (good_burst _ _ g.listed (good_exec _ (good_each _ _ (good_pattern (names_of f.signals) (sheet_names f.tables) names (tables_in f.tables)) (named_from 0 (or_one f.patterns)) [] []
              patterns tt)))),
        ),
      ),
    )
