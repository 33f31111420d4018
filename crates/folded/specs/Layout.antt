-- The lines of a folded text (docs/FOLDED.md). Each function puts its pieces before those behind them.
use Rattle.std.specs.Prelude.{ℕ, zero, suc, ◌/◌, ◌%◌, true, false, List, [], ◌∷◌, ◌++◌, length, get_or, leb, eqb}
use Prim.Native.String.{String}
use Rattle.tokens.specs.Written.{bytes}
use Rattle.meaning.specs.Timing.{Event, Signed, plus, minus, uncounted}
use Rattle.meaning.specs.Body.{Assigns}
use Rattle.pages.specs.Pages.{decimal}
use Rattle.folded.specs.Pieces.{Piece, word, only, laid, each, lf, space, quote, dash, semicolon, equals, opening, closing}
use Rattle.folded.specs.Flat.{Chart, Sheet, Line, chooses, repeats, Flat}

abbrev pub say : String → ℕ → Piece
say s b = word (bytes s) b

-- ---- times: in ns where that is a whole number

unfoldable pub timed : ℕ → List ℕ
timed n = elim (eqb (n % 1000) 0) [ true ↦ decimal (n / 1000) ++ bytes "ns" | false ↦ decimal n ++ bytes "ps" ]

-- ---- Signals{NAME DIRECTION;..}

unfoldable pub signal_put : List ℕ × List ℕ → List Piece → List Piece
signal_put x behind = word x.0 space ∷ word x.1 semicolon ∷ behind

unfoldable pub signals_put : List (List ℕ × List ℕ) → List Piece → List Piece
signals_put xs behind = say "Signals" opening ∷ each signal_put xs (only closing ∷ only lf ∷ behind)

-- ---- Timing

-- T': before the cycle's start with a `-`
unfoldable pub time_put : Signed → List Piece → List Piece
time_put (plus n) behind = word (timed n) quote ∷ behind
time_put (minus n) behind = only dash ∷ word (timed n) quote ∷ behind

-- 'T'E;
unfoldable pub event_put : Event → List Piece → List Piece
event_put e behind = only quote ∷ time_put (uncounted e.time) (word (e.letter ∷ []) semicolon ∷ behind)

-- CHARACTER{'T'E;..}
unfoldable pub entry_put : ℕ × List Event → List Piece → List Piece
entry_put x behind = word (x.0 ∷ []) opening ∷ each event_put x.1 (only closing ∷ behind)

-- NAME{CHARACTER{'T'E;..}..}
unfoldable pub chart_put : Chart → List Piece → List Piece
chart_put x behind = word x.name opening ∷ each entry_put (x.first ∷ x.others) (only closing ∷ only lf ∷ behind)

-- WaveformTable NAME{Period'T';Waveforms{ .. }}
unfoldable pub sheet_put : Sheet → List Piece → List Piece
sheet_put x behind =
    say "WaveformTable" space ∷ word x.name opening ∷ say "Period" quote ∷ word (timed x.period) quote ∷ only semicolon
    ∷ say "Waveforms" opening ∷ only lf ∷ each chart_put x.charts (only closing ∷ only closing ∷ only lf ∷ behind)

unfoldable pub timing_put : List Sheet → List Piece → List Piece
timing_put xs behind = say "Timing" opening ∷ only lf ∷ each sheet_put xs (only closing ∷ only lf ∷ behind)

-- ---- PatternBurst b{PatList{p0;p1;..}}, PatternExec{PatternBurst b;}

-- `p` and the number in decimal
unfoldable pub pattern_name : ℕ → List ℕ
pattern_name i = 112 ∷ decimal i

unfoldable pub burst_name : List ℕ
burst_name = bytes "b"

-- the names of n Patterns from number i on
unfoldable pub names_from : ℕ → ℕ → List (List ℕ)
names_from i zero = []
names_from i (suc n) = pattern_name i ∷ names_from (suc i) n

unfoldable pub listed_put : List ℕ → List Piece → List Piece
listed_put n behind = word n semicolon ∷ behind

unfoldable pub burst_put : List (List ℕ) → List Piece → List Piece
burst_put ns behind =
    say "PatternBurst" space ∷ word burst_name opening ∷ say "PatList" opening ∷ each listed_put ns (only closing ∷ only closing ∷ only lf ∷ behind)

unfoldable pub exec_put : List Piece → List Piece
exec_put behind = say "PatternExec" opening ∷ say "PatternBurst" space ∷ word burst_name semicolon ∷ only closing ∷ only lf ∷ behind

-- ---- Pattern pN{ .. }, over the names of signals and tables

-- the name of a number
abbrev pub name_at : List (List ℕ) → ℕ → List ℕ
name_at ns i = get_or ns i []

-- NAME=CHARACTER;
unfoldable pub value_put : List (List ℕ) → ℕ × ℕ → List Piece → List Piece
value_put signals x behind = word (name_at signals x.0) equals ∷ word (x.1 ∷ []) semicolon ∷ behind

-- V{NAME=CHARACTER;..}
unfoldable pub vector_put : List (List ℕ) → Assigns → List Piece → List Piece
vector_put signals xs behind = say "V" opening ∷ each (value_put signals) xs (only closing ∷ behind)

module _ (signals tables : List (List ℕ)) where
  -- W NAME; or V{..} or Loop K{V{..}}
  unfoldable pub line_put : Line → List Piece → List Piece
  line_put (chooses k) behind = say "W" space ∷ word (name_at tables k) semicolon ∷ only lf ∷ behind
  line_put (repeats k xs) behind =
      elim (leb 2 k) [
        | true ↦ say "Loop" space ∷ word (decimal k) opening ∷ vector_put signals xs (only closing ∷ only lf ∷ behind)
        | false ↦ vector_put signals xs (only lf ∷ behind)
      ]

  unfoldable pub pattern_put : List ℕ × List Line → List Piece → List Piece
  pattern_put x behind = say "Pattern" space ∷ word x.0 opening ∷ only lf ∷ each line_put x.1 (only closing ∷ only lf ∷ behind)

-- each Pattern with its name, from number i on
unfoldable pub named_from : ℕ → List (List Line) → List (List ℕ × List Line)
named_from i [] = []
named_from i (p ∷ ps) = (pattern_name i, p) ∷ named_from (suc i) ps

-- one without statements is written, and not listed, where there is none
unfoldable pub or_one : List (List Line) → List (List Line)
or_one [] = [] ∷ []
or_one (p ∷ ps) = p ∷ ps

-- ---- the whole text

unfoldable pub names_of : List (List ℕ × List ℕ) → List (List ℕ)
names_of [] = []
names_of (x ∷ xs) = x.0 ∷ names_of xs

unfoldable pub sheet_names : List Sheet → List (List ℕ)
sheet_names [] = []
sheet_names (x ∷ xs) = x.name ∷ sheet_names xs

unfoldable pub pieces : Flat → List Piece
pieces f =
    say "STIL" space ∷ say "1.0" semicolon ∷ only lf ∷ signals_put f.signals (timing_put f.tables (burst_put (names_from 0 (length f.patterns)) (exec_put
    (each (pattern_put (names_of f.signals) (sheet_names f.tables)) (named_from 0 (or_one f.patterns)) []))))

unfoldable pub written : Flat → List ℕ
written f = laid (pieces f)
