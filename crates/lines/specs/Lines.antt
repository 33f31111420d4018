-- Every line that is written (docs/COMMANDS.md); a refusal's line is the listing's.
use Rattle.std.specs.Prelude.{ℕ, suc, ◌-◌, List, [], ◌∷◌, ◌++◌, true, false, ltb, length}
use Rattle.tokens.specs.Written.{bytes, lines}
use Rattle.meaning.specs.Timing.{Signed, plus, minus}
use Rattle.meaning.specs.Services.{word_range}
use Rattle.pages.specs.Pages.{digits_most, decimal}
use Rattle.sections.specs.Listing.{ended, refusal}

-- ---- answers

-- VISITS v, EVENTS k, TOKENS k, PATTERN k, SPANS k, FAILS k
unfoldable pub counted : List ℕ → ℕ → List ℕ
counted word n = ended (word ++ decimal n)

unfoldable pub no_pattern : List ℕ
no_pattern = ended (bytes "NO PATTERN")

-- A AT 20 LENGTH 1
unfoldable pub name_line : List ℕ → ℕ → List ℕ
name_line name p = ended (name ++ bytes " AT " ++ decimal p ++ bytes " LENGTH " ++ decimal (length name))

-- 64 bits as a signed number: negative from half of their range on
abbrev pub negative : ℕ
negative = 9_223_372_036_854_775_808

unfoldable pub signed_of : ℕ → Signed
signed_of bits = elim (ltb bits negative) [ true ↦ plus bits | false ↦ minus (word_range - bits) ]

unfoldable pub signed_decimal : Signed → List ℕ
signed_decimal (plus n) = decimal n
signed_decimal (minus n) = 45 ∷ decimal n

-- time letter
unfoldable pub event_line : Signed → ℕ → List ℕ
event_line time letter = ended (signed_decimal time ++ 32 ∷ letter ∷ [])

-- place length bytes
unfoldable pub token_line : ℕ → List ℕ → List ℕ
token_line p token = ended (decimal p ++ bytes " " ++ decimal (length token) ++ bytes " " ++ token)

-- SPAN first behind
unfoldable pub span_line : (first behind : ℕ) → List ℕ
span_line first behind = ended (bytes "SPAN " ++ decimal first ++ bytes " " ++ decimal behind)

-- cycle signal
unfoldable pub fail_line : (cycle signal : ℕ) → List ℕ
fail_line cycle signal = ended (decimal cycle ++ bytes " " ++ decimal signal)

-- cycle signal letter
unfoldable pub stated_line : (cycle signal letter : ℕ) → List ℕ
stated_line cycle signal letter = ended (decimal cycle ++ bytes " " ++ decimal signal ++ 32 ∷ letter ∷ [])

-- ---- check

-- FILE OK signals tables patterns cycles size
unfoldable pub good_line : List ℕ → (signals tables patterns cycles size : ℕ) → List ℕ
good_line file s t p c z = ended (file ++ bytes " OK " ++ decimal s ++ bytes " " ++ decimal t ++ bytes " " ++ decimal p ++ bytes " " ++ decimal c ++ bytes " " ++ decimal z)

-- FILE REFUSED n AT p LINE l COLUMN c
unfoldable pub hurt_line : (file text : List ℕ) → ℕ → ℕ → List ℕ
hurt_line file text n p = file ++ 32 ∷ refusal text n p

unfoldable pub unread_line : List ℕ → List ℕ
unread_line file = ended (file ++ bytes " CANNOT BE READ")

-- GOOD g HURT h UNREAD u
unfoldable pub sum_line : (good hurt unread : ℕ) → List ℕ
sum_line g h u = ended (bytes "GOOD " ++ decimal g ++ bytes " HURT " ++ decimal h ++ bytes " UNREAD " ++ decimal u)

-- how far it is, for a terminal: CR in place of LF, so that the next stands over it
unfoldable pub progress : (done all : ℕ) → List ℕ
progress done all = (decimal done ++ bytes " OF " ++ decimal all) ++ 13 ∷ []

-- ---- help, and a word that is wrong

unfoldable pub help_lines : List ℕ
help_lines = lines (
    "check FILE..                          are these texts sound? a line for each, then how many"
    ∷ "name FILE signal N                    the name of the signal of number N, and where it is declared"
    ∷ "name FILE table N                     the same of a waveform table"
    ∷ "window FILE FIRST COUNT [MARK]        the pins in COUNT cycles from cycle FIRST on; MARK, or ?, for no value"
    ∷ "waveform FILE TABLE SIGNAL CHARACTER  the events of a character: times in ps, and letters"
    ∷ "list FILE                             all signals, tables and cycles"
    ∷ "index FILE                            the listed patterns, each with its first cycle and how many it has"
    ∷ "holds FILE INDEXFILE N                which listed pattern holds cycle N, by an index that was kept"
    ∷ "tokens FILE                           the words of the text, each with its place and length"
    ∷ "intake FILE                           a long raw text without its comments"
    ∷ "save FILE                             a hurt text with its damaged patterns made blank"
    ∷ "fold FILE                             the text without macros, procedures and groups"
    ∷ "report FILE REPORTFILE                the run's cycle and the signal of each offset of a fail report"
    ∷ "help                                  these lines"
    ∷ "Numbers count from 0. REFUSED n AT p: n says what is wrong, as docs/COMMANDS.md tells, and p is the byte where."
    ∷ [])

-- what is wrong: the word
unfoldable pub fault_line : (what word : List ℕ) → List ℕ
fault_line what word = ended (what ++ bytes ": " ++ word)

-- ---- room

-- for digits and LF
abbrev pub count_most : ℕ
count_most = 21

-- for a sign and digits
abbrev pub signed_most : ℕ
signed_most = suc digits_most

-- for a line, besides the words that are handed in
abbrev pub line_most : ℕ
line_most = 128

-- for all lines of help
abbrev pub help_most : ℕ
help_most = 2_048
