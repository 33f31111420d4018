-- Samples at the edges, as one statement: what is answered to a report, or its refusal. The definitions compute them.
use Prim.Native.Nat.{ℕ}
use Prim.Native.String.{String}
use mathlib.Core.Path.{◌≡◌, refl}
use mathlib.Core.Option.{Option, none, some}
use mathlib.Core.List.{List, [], ◌∷◌}
use Rattle.tokens.specs.Written.{bytes, cases, same}
use Rattle.tokens.specs.Tokens.{Tok}
use Rattle.meaning.specs.Open.{everything}
use Rattle.meaning.specs.Meaning.{Answer, given, refused, answering}
use Rattle.reports.specs.Report
use Rattle.reports.specs.Report.{Signals, Fail, reported, answered}

unfoldable opened : Unit {0}
unfolding everything Report.is_state Report.state Report.offset Report.one_more Report.head Report.one_record Report.ending Report.closing Report.opening Report.report Report.read_as Report.reported Report.offsets_of Report.answered_at Report.answered_of Report.answered_all
opened = tt

abbrev named : String → ℕ → Tok × ℕ
named s n = (record { at = 0; word = bytes s }, n)

-- a text with two signals
abbrev signals : Signals
signals = named "A" 0 ∷ named "B" 1 ∷ []

-- the pattern p of 7 cycles, from the run's cycle 100 on; x stands behind 5 of them, and e behind the last
unfoldable pub past : List ℕ → Option ℕ
past w = cases ((same w (bytes "p"), some 0) ∷ (same w (bytes "x"), some 5) ∷ (same w (bytes "e"), some 7) ∷ []) none

unfoldable pub answers : List String → List (Answer (List Fail))
answers [] = []
answers (s ∷ l) = answering (reported signals (bytes s)) (answered 100 7 past) ∷ answers l

abbrev fail : ℕ → ℕ → ℕ → Fail
fail c s l = record { cycle = c; signal = s; letter = l }

pub edges : answers (
    -- no record, no answer
    "PatternFailReport { Pattern p; FailData {  } }"
    -- each offset is an answer, with its letter or without; without offset it is 0
    ∷ "PatternFailReport { Pattern p; FailData { p A 0; p B 3 'H' 6; x A 1'L'; x B; } }"
    -- blanks and comments are free, and leading zeros
    ∷ "//\nPatternFailReport{Pattern p;FailData{p/**/A 0002 ' T ' 1'X';}}/* */"
    -- 1, 2, 3 come first
    ∷ "PatternFailReport { Pattern 1é"
    ∷ "Pattern /*"
    -- it is the whole text
    ∷ ""
    ∷ "PatternFailReport { Pattern p; FailData {  } } p"
    ∷ "PatternFailReport { Pattern p; FailData { }"
    ∷ "PatternFailReport { Pattern p; p A; }"
    -- a name is due: for the pattern, the reference, the signal
    ∷ "PatternFailReport { Pattern 1p; }"
    ∷ "PatternFailReport { Pattern p; FailData { 45.LU A 0; } }"
    ∷ "PatternFailReport { Pattern p; FailData { p Pattern 0; } }"
    -- the signal is one of Signals: a group is none
    ∷ "PatternFailReport { Pattern p; FailData { p A 0; p ab 0; } }"
    -- a letter stands behind an offset, alone between two quotes
    ∷ "PatternFailReport { Pattern p; FailData { p A 'H'; } }"
    ∷ "PatternFailReport { Pattern p; FailData { p A 1 'Q'; } }"
    ∷ "PatternFailReport { Pattern p; FailData { p A 1 'HL'; } }"
    ∷ "PatternFailReport { Pattern p; FailData { p A 1 'H; } }"
    ∷ "PatternFailReport { Pattern p; FailData { p A 1 } } }"
    -- an offset is a number up to the bound; above the cycles it is 24
    ∷ "PatternFailReport { Pattern p; FailData { p A 1x; } }"
    ∷ "PatternFailReport { Pattern p; FailData { p A 0 1099511627777; } }"
    ∷ "PatternFailReport { Pattern p; FailData { p A 0 1099511627776; } }"
    -- the cycle is one of the pattern's: at the offset, or the reference if there is none
    ∷ "PatternFailReport { Pattern p; FailData { p A 6 7; } }"
    ∷ "PatternFailReport { Pattern p; FailData { x A 1 2; } }"
    ∷ "PatternFailReport { Pattern p; FailData { p A; e A; } }"
    -- an unknown reference, the first in report order; but behind the report's own faults
    ∷ "PatternFailReport { Pattern p; FailData { p A 0; y A 9; p A 9; } }"
    ∷ "PatternFailReport { Pattern p; FailData { y A; p Z; } }"
    ∷ [])
    ≡ given []
    ∷ given (fail 100 0 0 ∷ fail 103 1 72 ∷ fail 106 1 0 ∷ fail 106 0 76 ∷ fail 105 1 0 ∷ [])
    ∷ given (fail 102 0 84 ∷ fail 101 0 88 ∷ [])
    ∷ refused 2 29
    ∷ refused 3 8
    ∷ refused 4 0
    ∷ refused 4 47
    ∷ refused 4 43
    ∷ refused 4 31
    ∷ refused 5 28
    ∷ refused 5 42
    ∷ refused 5 44
    ∷ refused 6 51
    ∷ refused 4 46
    ∷ refused 4 49
    ∷ refused 4 49
    ∷ refused 4 50
    ∷ refused 4 48
    ∷ refused 9 46
    ∷ refused 9 48
    ∷ refused 24 48
    ∷ refused 24 48
    ∷ refused 24 48
    ∷ refused 24 47
    ∷ refused 24 49
    ∷ refused 6 49
    ∷ []
unfolding opened past answers
edges = refl
