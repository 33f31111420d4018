-- The whole case of docs/FOLDED.md, document 01's text, an empty list, a pattern without cycles, and the refusals of a fold: the definitions compute them.
use mathlib.Core.Path.{◌≡◌, refl}
use Prim.Native.Nat.{ℕ, ◌-◌}
use Prim.Native.String.{String}
use mathlib.Core.List.{List, [], ◌∷◌, ◌++◌}
use lib.ListN.{length, replicate}
use Rattle.tokens.specs.Written
use Rattle.meaning.specs.Open.{everything}
use Rattle.meaning.specs.Run.{alone}
use Rattle.meaning.specs.Meaning.{Answer, given, refused}
use Rattle.meaning.specs.Samples.{worked, playing, listing, whole, two_signals, one_group, one_table, its_waveforms, one_macro, one_listed}
use Rattle.pages.specs.Pages.{digits, decimal}
use Rattle.folded.specs.Pieces
use Rattle.folded.specs.Flat
use Rattle.folded.specs.Layout
use Rattle.folded.specs.Fold

unfoldable opened : Unit {0}
unfolding everything worked playing listing whole two_signals one_group one_table its_waveforms one_macro one_listed alone digits decimal Pieces.laid Pieces.each Flat.first_word Flat.direction Flat.directed Flat.up_from Flat.characters Flat.entries_of Flat.chart Flat.charts_from Flat.sheets Flat.table_of Flat.row_of Flat.rows_of Flat.same_row Flat.listed_rows Flat.loses Flat.breaks Flat.onto Flat.parted Flat.parted_all Flat.longer Flat.stretches Flat.valued Flat.choosing Flat.lines_from Flat.lines_of Flat.patterns_of Flat.flat Layout.timed Layout.time_put Layout.signal_put Layout.signals_put Layout.event_put Layout.entry_put Layout.chart_put Layout.sheet_put Layout.timing_put Layout.pattern_name Layout.burst_name Layout.names_from Layout.listed_put Layout.burst_put Layout.exec_put Layout.value_put Layout.vector_put Layout.line_put Layout.pattern_put Layout.named_from Layout.or_one Layout.names_of Layout.sheet_names Layout.pieces Layout.written Fold.folded_in Fold.folded Fold.fold
opened = tt

-- a text, and what it is folded to in a buffer that has one byte more
pub record Sample : Type 0 where
  pub text : List ℕ
  pub to : List ℕ

unfoldable pub answers : List Sample → List (Answer Fold.Folded)
answers [] = []
answers (x ∷ xs) = Fold.fold x.text (replicate (length x.to) 7 ++ 5 ∷ []) ∷ answers xs

unfoldable pub due : List Sample → List (Answer Fold.Folded)
due [] = []
due (x ∷ xs) = given (record { size = length x.to; buffer = x.to ++ 5 ∷ [] }) ∷ due xs

-- ---- docs/FOLDED.md

unfoldable pub case : List ℕ
case = Written.lines (
    "STIL 1.0;"
    ∷ "Signals { A In; B Out; D InOut; }"
    ∷ "SignalGroups { ab = 'A+B'; }"
    ∷ "Timing {"
    ∷ " WaveformTable fast { Period '20ns'; Waveforms {"
    ∷ "  ab { 01 { '0ns' D/U; } } B { x { '500ps' Z; '10ns' L; } } D { 0 { '5ns' D; } } } }"
    ∷ " WaveformTable slow { Period '99500ps'; Waveforms { ab { 10 { '0ns' U/D; '1500ps' X; } } } }"
    ∷ "}"
    ∷ "MacroDefs { m { Shift { V { A = #; } } } }"
    ∷ "Procedures { q { V { B = 1; } V { } } }"
    ∷ "PatternBurst run { PatList { first; none; first; } }"
    ∷ "PatternExec { PatternBurst run; }"
    ∷ "Pattern first { W fast; C { ab = 00; } Macro m { A = \\r3 0 1; } W slow; Loop 2 { V { } } Call q; V { A = 0; } }"
    ∷ "Pattern none { W slow; }"
    ∷ "Pattern unlisted { W fast; V { D = 0; } }"
    ∷ [])

-- the first entry's rows, in two Patterns of these names
unfoldable pub twice : String → String → List String → List String
twice p q rest =
    p
    ∷ "W fast;"
    ∷ "Loop 3{V{A=0;B=0;}}"
    ∷ "V{A=1;B=0;}"
    ∷ "W slow;"
    ∷ "Loop 2{V{A=1;B=0;}}"
    ∷ "}"
    ∷ q
    ∷ "W slow;"
    ∷ "Loop 2{V{B=1;}}"
    ∷ "V{A=0;B=0;}"
    ∷ "}"
    ∷ rest

unfoldable pub case_folded : List ℕ
unfolding twice
case_folded = Written.lines (
    "STIL 1.0;"
    ∷ "Signals{A In;B Out;D InOut;}"
    ∷ "Timing{"
    ∷ "WaveformTable fast{Period'20ns';Waveforms{"
    ∷ "A{0{'0ns'D;}1{'0ns'U;}}"
    ∷ "B{0{'0ns'D;}1{'0ns'U;}x{'500ps'Z;'10ns'L;}}"
    ∷ "D{0{'5ns'D;}}"
    ∷ "}}"
    ∷ "WaveformTable slow{Period'99500ps';Waveforms{"
    ∷ "A{0{'0ns'D;'1500ps'X;}1{'0ns'U;'1500ps'X;}}"
    ∷ "B{0{'0ns'D;'1500ps'X;}1{'0ns'U;'1500ps'X;}}"
    ∷ "}}"
    ∷ "}"
    ∷ "PatternBurst b{PatList{p0;p1;p2;p3;p4;}}"
    ∷ "PatternExec{PatternBurst b;}"
    ∷ twice "Pattern p0{" "Pattern p1{" ("Pattern p2{" ∷ "}" ∷ twice "Pattern p3{" "Pattern p4{" []))

-- ---- document 01's text, with other lists and patterns

unfoldable pub top : List String
top =
    "STIL 1.0;"
    ∷ "Signals{A In;B Out;}"
    ∷ "Timing{"
    ∷ "WaveformTable t0{Period'100ns';Waveforms{"
    ∷ "A{0{'0ns'D;}1{'0ns'U;}}"
    ∷ "B{H{'0ns'Z;'50ns'H;}L{'0ns'Z;'50ns'L;}X{'0ns'Z;'50ns'X;}}"
    ∷ "}}"
    ∷ "}"
    ∷ []

unfoldable pub under : List String → List ℕ
unfolding top
under l = Written.lines (top ++ l)

unfoldable pub samples : List Sample
unfolding under
samples =
    record { text = case; to = case_folded }
    -- folded again it is the same
    ∷ record { text = case_folded; to = case_folded }
    ∷ record {
      text = worked;
      to = under (
          "PatternBurst b{PatList{p0;}}" ∷ "PatternExec{PatternBurst b;}" ∷ "Pattern p0{" ∷ "W t0;"
          ∷ "V{A=1;B=X;}" ∷ "V{A=0;B=H;}" ∷ "V{A=1;B=H;}" ∷ "V{A=0;B=H;}" ∷ "V{A=1;B=L;}" ∷ "V{A=0;B=H;}" ∷ "V{A=1;B=H;}" ∷ "}" ∷ []);
    }
    -- times before the cycle's start
    ∷ record {
      text = whole two_signals one_group one_table " A { 01 { '-1000000ns' D/U; '-0ns' Z; '1500ps' P; } } B { L { '-1500ps' L; } } } } }" one_macro one_listed ("Pattern p { W t0; V { A = 0; } }" ∷ []);
      to = Written.lines (
          "STIL 1.0;" ∷ "Signals{A In;B Out;}" ∷ "Timing{" ∷ "WaveformTable t0{Period'100ns';Waveforms{"
          ∷ "A{0{'-1000000ns'D;'0ns'Z;'1500ps'P;}1{'-1000000ns'U;'0ns'Z;'1500ps'P;}}" ∷ "B{L{'-1500ps'L;}}" ∷ "}}" ∷ "}"
          ∷ "PatternBurst b{PatList{p0;}}" ∷ "PatternExec{PatternBurst b;}" ∷ "Pattern p0{" ∷ "W t0;" ∷ "V{A=0;}" ∷ "}" ∷ []);
    }
    -- an empty list
    ∷ record {
      text = listing "PatternBurst b { PatList { } }" ("Pattern p { W t0; V { A = 1; } }" ∷ []);
      to = under ("PatternBurst b{PatList{}}" ∷ "PatternExec{PatternBurst b;}" ∷ "Pattern p0{" ∷ "}" ∷ []);
    }
    -- a pattern without cycles
    ∷ record { text = playing ("Pattern p { W t0; }" ∷ []); to = under ("PatternBurst b{PatList{p0;}}" ∷ "PatternExec{PatternBurst b;}" ∷ "Pattern p0{" ∷ "}" ∷ []) }
    -- rows with no value at all are equal too
    ∷ record {
      text = playing ("Pattern p { W t0; Loop 2 { V { } } W t0; V { } V { B = L; } C { } V { } }" ∷ []);
      to = under ("PatternBurst b{PatList{p0;}}" ∷ "PatternExec{PatternBurst b;}" ∷ "Pattern p0{" ∷ "W t0;" ∷ "Loop 3{V{}}" ∷ "Loop 2{V{B=L;}}" ∷ "}" ∷ []);
    }
    ∷ []

pub all_folded : answers samples ≡ due samples
unfolding opened answers due samples case case_folded twice top under
all_folded = refl

-- ---- refusals

-- two Patterns: B's value is there for the procedure's row alone
unfoldable losing : String → List ℕ
losing l = whole two_signals one_group one_table its_waveforms "Procedures { q { V { B = L; } } }" l ("Pattern p { W t0; Call q; V { A = 1; } }" ∷ "Pattern e { }" ∷ [])

-- 16 Patterns are not too many, and then the room is; 17 are 22, also without room; the text's own refusal comes first
refused_folds :
    (Fold.fold (losing "PatternBurst b { PatList { p; p; p; p; p; p; p; p; } }") [] ≡ refused 19 0)
    × (Fold.fold (losing "PatternBurst b { PatList { p; p; p; p; p; p; p; p; e; } }") [] ≡ refused 22 0)
    × (Fold.fold (losing "PatternBurst b { PatList { p; p; p; p; p; p; p; p; f; } }") [] ≡ refused 15 273)
    × (Fold.fold case (replicate (length case_folded) 7) ≡ given (record { size = length case_folded; buffer = case_folded }))
    × (Fold.fold case (replicate (length case_folded - 1) 7) ≡ refused 19 0)
unfolding opened losing case case_folded twice
refused_folds = (refl, refl, refl, refl, refl)
