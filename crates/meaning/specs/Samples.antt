-- The worked text of document 01, its samples at the edges, and further ones: questions to the services, each with its answer.
use Rattle.std.specs.Prelude.{ℕ, List, [], ◌∷◌, ◌++◌, replicate}
use Prim.Native.String.{String}
use Rattle.tokens.specs.Written.{bytes, lines}
use Rattle.meaning.specs.Meaning.{Answer, given, refused}
use Rattle.meaning.specs.Services.{check, Which, signal, table, name_of, dot, question, window, waveform}

-- ---- texts

-- the text of these parts, where the rest is that of document 01's text
unfoldable pub whole : String → String → String → String → String → String → List String → List ℕ
unfolding lines
whole signals groups timing waveforms bodies list patterns = lines (
    "STIL 1.0;" ∷ signals ∷ groups ∷ timing ∷ waveforms ∷ bodies ∷ list ∷ "PatternExec { PatternBurst b; }" ∷ patterns)

unfoldable pub two_signals : String
two_signals = "Signals { A In; B Out; }"

unfoldable pub one_group : String
one_group = "SignalGroups { ab = 'A+B'; }"

unfoldable pub one_table : String
one_table = "Timing { WaveformTable t0 { Period '100ns'; Waveforms {"

unfoldable pub its_waveforms : String
its_waveforms = " A { 01 { '0ns' D/U; } } B { LHX { '0ns' Z; '50ns' L/H/X; } } } } }"

unfoldable pub one_macro : String
one_macro = "MacroDefs { m { Shift { V { ab = ##; } } V { A = #; } } }"

unfoldable pub one_listed : String
one_listed = "PatternBurst b { PatList { p; } }"

unfoldable pub playing : List String → List ℕ
unfolding whole two_signals one_group one_table its_waveforms one_macro one_listed
playing = whole two_signals one_group one_table its_waveforms one_macro one_listed

unfoldable pub signed : String → List String → List ℕ
unfolding whole one_group one_table its_waveforms one_macro one_listed
signed s = whole s one_group one_table its_waveforms one_macro one_listed

unfoldable pub grouping : String → List String → List ℕ
unfolding whole two_signals one_table its_waveforms one_macro one_listed
grouping g = whole two_signals g one_table its_waveforms one_macro one_listed

unfoldable pub timed : String → String → List String → List ℕ
unfolding whole two_signals one_group one_macro one_listed
timed t w = whole two_signals one_group t w one_macro one_listed

unfoldable pub bodied : String → List String → List ℕ
unfolding whole two_signals one_group one_table its_waveforms one_listed
bodied m = whole two_signals one_group one_table its_waveforms m one_listed

unfoldable pub listing : String → List String → List ℕ
unfolding whole two_signals one_group one_table its_waveforms one_macro
listing l = whole two_signals one_group one_table its_waveforms one_macro l

-- two tables, in which both signals have 0 and 1, with other bodies
unfoldable pub both : String → List String → List ℕ
unfolding whole two_signals one_group one_listed
both m =
    whole two_signals one_group
    "Timing { WaveformTable t0 { Period '100ns'; Waveforms { ab { 01 { '0ns' D/U; } } } }"
    " WaveformTable t1 { Period '2ps'; Waveforms { ab { 01 { '0ns' D; '1ps' U/D; } } } } }"
    m one_listed

-- document 01's text
unfoldable pub worked : List ℕ
unfolding playing
worked = playing (
    "Pattern p { W t0; C { B = X; } Loop 2 { V { A = 1; } V { ab = 0H; } }"
    ∷ " Macro m { A = 101; B = LH; } }"
    ∷ [])

-- the standard's figure 14: its signals, its timing and `reset`, with a plain group
unfoldable pub figure14 : List ℕ
unfolding lines
figure14 = lines (
    "STIL 1.0;"
    ∷ "Signals { TDO Out; TCK In; TDI In; TMS In; TRST In; SYSCLK In; HRESET In; }"
    ∷ "SignalGroups { all = 'TDO + TCK + TDI + TMS + TRST + SYSCLK + HRESET'; }"
    ∷ "Timing { WaveformTable base { Period '400ns'; Waveforms {"
    ∷ "TCK { 0P { '0ns' D; '100ns' D/U; '300ns' D; } }"
    ∷ "SYSCLK { 0P { '0ns' D; '100ns' D/U; '300ns' D; } }"
    ∷ "TDI { 01 { '0ns' D/U; } }"
    ∷ "TMS { 01 { '0ns' D/U; } }"
    ∷ "TRST { 01 { '0ns' D/U; } }"
    ∷ "HRESET { 01 { '0ns' D/U; } }"
    ∷ "TDO { LHX{ '0ns' Z; '150ns' L/H/X; } }"
    ∷ "} } }"
    ∷ "Procedures { reset { W base; Loop 4095 { V { all = X0 0 1 0P0; } } V { all = XP 0 0 1P0; } } }"
    ∷ "PatternBurst pats { PatList { bist; } } PatternExec { PatternBurst pats; }"
    ∷ "Pattern bist { W base; Call reset; }"
    ∷ [])

-- ---- questions and answers; an answer's numbers in the order of its fields

pub data Ask : Type 0 where
  checks : List ℕ → Ask
  -- a text, the signal or table, its number
  names : List ℕ → Which → ℕ → Ask
  -- a text, the first cycle, the wanted count, the mark, and so many bytes `#` lent
  windows : List ℕ → ℕ → ℕ → ℕ → ℕ → Ask
  -- a text, table, signal and character, and so many times and letters lent
  waves : List ℕ → ℕ → ℕ → ℕ → ℕ → Ask

abbrev pub Sample : Type 0
Sample = Ask × Answer (List ℕ)

unfoldable pub numbers : {A : Type 0} → (A → List ℕ) → Answer A → Answer (List ℕ)
numbers f (given a) = given (f a)
numbers f (refused n p) = refused n p

unfoldable pub told : Ask → Answer (List ℕ)
unfolding numbers
told (checks t) = numbers (λ c. c.signals ∷ c.tables ∷ c.listed ∷ c.cycles ∷ c.size ∷ []) (check t)
told (names t w k) = numbers (λ x. x.0 ∷ x.1 ∷ []) (name_of t w k)
told (windows t first wanted mark room) = numbers (λ w. w.count ∷ w.visits ∷ w.buffer) (window t first wanted mark (replicate room 35))
told (waves t k s c room) = numbers (λ w. w.count ∷ w.times ++ w.letters) (waveform t k s c (replicate room 35) (replicate room 35))

-- Document 01's samples (a) to (k)
unfoldable pub edges : List Sample
unfolding bytes lines worked figure14 playing grouping bodied timed listing signed both
edges =
    -- (a)
    (checks worked, given (2 ∷ 1 ∷ 1 ∷ 7 ∷ 10 ∷ []))
    -- (b)
    ∷ (windows worked 0 0 dot 0, given (0 ∷ 16 ∷ []))
    -- (b)
    ∷ (windows worked 3 0 dot 0, given (0 ∷ 17 ∷ []))
    -- (b)
    ∷ (windows worked 6 0 dot 0, given (0 ∷ 22 ∷ []))
    -- (b)
    ∷ (windows worked 7 0 dot 0, given (0 ∷ 10 ∷ []))
    -- (c); the rest of the buffer stays
    ∷ (windows worked 2 2 dot 10, given (2 ∷ 16 ∷ bytes "1H0\n0H0\n##"))
    -- (d)
    ∷ (windows worked 7 5 dot 2, given (0 ∷ 10 ∷ bytes "##"))
    -- (d)
    ∷ (windows worked 18446744073709551615 18446744073709551615 dot 2, given (0 ∷ 10 ∷ bytes "##"))
    -- (e)
    ∷ (checks (playing ("Pattern p { W t0; C { B = X; } Loop 2 { V { A = 1; } V { ab = 0H; } }" ∷ " Macro m { A = 101; B = L; } }" ∷ [])), refused 13 409)
    -- (f)
    ∷ (windows (playing ("Pattern p { W t0; C { B = X; } Loop 2 { V { A = 1; } V { ab = 0H; } }" ∷ " Macro m { A = 1; B = ; } }" ∷ [])) 4 9 dot 4, given (1 ∷ 22 ∷ bytes "1H0\n"))
    -- (g)
    ∷ (windows (playing ("Pattern p { W t0; C { B = X; } Loop 2 { V { A = 1; } V { ab = 0H; } }" ∷ " Macro m { A = \\r4 01; B = \\r7 L; } }" ∷ [])) 4 9 dot 32, given (8 ∷ 22 ∷ bytes "0L0\n1L0\n0L0\n1L0\n0L0\n1L0\n0L0\n1L0\n"))
    -- (h)
    ∷ (checks (grouping "SignalGroups { ab = 'A-A'; }" ([])), refused 10 59)
    -- (h)
    ∷ (checks (grouping "SignalGroups { ab = 'A-B'; }" ([])), refused 10 58)
    -- (i)
    ∷ (checks (playing ("Pattern p { Loop 0 { } }" ∷ [])), refused 9 329)
    -- (j)
    ∷ (checks (playing ("Pattern p { Loop 1 { Loop 1 { Loop 1 { Loop 1 { Loop 1 { Loop 1 { Loop 1 { Loop 1 { } } } } } } } } }" ∷ [])), given (2 ∷ 1 ∷ 1 ∷ 0 ∷ 9 ∷ []))
    -- (j)
    ∷ (checks (playing ("Pattern p { Loop 1 { Loop 1 { Loop 1 { Loop 1 { Loop 1 { Loop 1 { Loop 1 { Loop 1 { Loop 1 { } } } } } } } } } }" ∷ [])), refused 14 396)
    -- (k)
    ∷ (checks figure14, given (7 ∷ 1 ∷ 1 ∷ 4096 ∷ 7 ∷ []))
    ∷ []

-- what (a) to (k) leave open
unfoldable pub between : List Sample
unfolding bytes lines worked figure14 playing grouping bodied timed listing signed both
between =
    -- a procedure begins with the caller's table and nothing assigned; its caller's values and table come back
    (windows (both "MacroDefs { } Procedures { keep { V { A = 0; } } change { W t1; V { A = 1; } } }" ("Pattern p { W t0; C { B = 1; } V { A = 1; } Call keep; V { } Call change; V { } }" ∷ [])) 0 9 dot 20, given (5 ∷ 14 ∷ bytes "110\n0.0\n110\n1.1\n110\n"))
    -- a macro runs in place: its table and its values stay
    ∷ (windows (both "MacroDefs { m { W t1; C { B = 1; } } }" ("Pattern p { W t0; V { A = 0; } Macro m; V { } }" ∷ [])) 0 9 dot 8, given (2 ∷ 9 ∷ bytes "0.0\n011\n"))
    -- the second turn differs from the first
    ∷ (windows (playing ("Pattern p { W t0; Loop 3 { V { B = L; } C { A = 1; } } }" ∷ [])) 0 9 dot 12, given (3 ∷ 10 ∷ bytes ".L0\n1L0\n1L0\n"))
    -- the patterns listed, the last and the repeated one too; each begins anew
    ∷ (windows (listing "PatternBurst b { PatList { p; q; p; } }" ("Pattern p { W t0; V { A = 0; } }" ∷ "Pattern r { }" ∷ "Pattern q { W t0; V { B = H; } V { A = 1; } }" ∷ [])) 0 9 dot 16, given (4 ∷ 5 ∷ bytes "0.0\n.H0\n1H0\n0.0\n"))
    -- an empty list
    ∷ (checks (listing "PatternBurst b { PatList { } }" ("Pattern p { }" ∷ [])), given (2 ∷ 1 ∷ 0 ∷ 0 ∷ 0 ∷ []))
    -- groups in the order of their terms; brackets; minus
    ∷ (windows (grouping "SignalGroups { ba = 'B+A'; ab = 'ba-B+B'; a = '(A+B)-(B)'; c = 'A-A+B'; }" ("Pattern p { W t0; V { ba = L1; } V { a = 0; c = H; } }" ∷ [])) 0 9 dot 8, given (2 ∷ 6 ∷ bytes "1L0\n0H0\n"))
    -- a repeat says its whole word, between words that stand once
    ∷ (windows (playing ("Pattern p { W t0; Macro m { A = 1 \\r2 01 10; B = \\r3 LH; } }" ∷ [])) 0 9 dot 28, given (7 ∷ 14 ∷ bytes "1L0\n0H0\n1L0\n0H0\n1L0\n1H0\n0H0\n"))
    -- an X makes no cycle and has size 1, in a Loop too; X in DATA is a character
    ∷ (windows (playing ("Pattern p { X a; W t0; Loop 2 { X c; V { A = 1; B = X; } } X d; }" ∷ [])) 0 9 dot 8, given (2 ∷ 14 ∷ bytes "1X0\n1X0\n"))
    ∷ (checks (playing ("Pattern p { X a; W t0; Loop 2 { X c; V { A = 1; B = X; } } X d; }" ∷ [])), given (2 ∷ 1 ∷ 1 ∷ 2 ∷ 7 ∷ []))
    -- a Shift is entered at its turn
    ∷ (windows worked 5 1 dot 4, given (1 ∷ 22 ∷ bytes "0H0\n"))
    ∷ []

-- each refusal, 1 to 19, with its place
unfoldable pub refusals : List Sample
unfolding bytes lines worked figure14 playing grouping bodied timed listing signed both
refusals =
    -- text too long
    (checks (replicate 65_537 32), refused 1 0)
    -- byte not allowed, in a comment too, and before a comment that is not closed
    ∷ (checks (bytes "STIL 1.0; /* " ++ 127 ∷ []), refused 2 13)
    -- `/*` not closed
    ∷ (checks (lines ("STIL 1.0; /*/" ∷ [])), refused 3 10)
    -- another version
    ∷ (checks (lines ("STIL 1.1;" ∷ [])), refused 4 5)
    -- an empty text
    ∷ (checks [], refused 4 0)
    -- a block out of order
    ∷ (checks (grouping "SignalGroups { } Signals { A In; }" ([])), refused 4 52)
    -- a reserved word where a name is due
    ∷ (checks (signed "Signals { A In; Timing" ([])), refused 5 26)
    -- a table that is unknown
    ∷ (checks (playing ("Pattern p { W t9; }" ∷ [])), refused 6 326)
    -- a body that is not complete
    ∷ (checks (bodied "MacroDefs { m { Macro m; } }" ([])), refused 6 210)
    -- a group with a signal's name
    ∷ (checks (grouping "SignalGroups { A = 'B'; }" ([])), refused 7 50)
    -- seventeen list entries
    ∷ (checks (listing "PatternBurst b { PatList { p; p; p; p; p; p; p; p; p; p; p; p; p; p; p; p; p; } }" ([])), refused 8 321)
    -- nine brackets
    ∷ (checks (grouping "SignalGroups { g = '(((((((((A)))))))))'; }" ([])), refused 8 63)
    -- seventeen CHARS
    ∷ (checks (timed "Timing { WaveformTable t0 { Period '100ns'; Waveforms {" " A { 0123456789abcdefg { '0ns' D; } } } } }" ([])), refused 8 125)
    -- a time that is none
    ∷ (checks (timed "Timing { WaveformTable t0 { Period '100'; Waveforms {" " } } }" ([])), refused 9 100)
    -- a repeat above 4,096
    ∷ (checks (playing ("Pattern p { C { A = \\r4097 0; } }" ∷ [])), refused 9 333)
    -- a repeated signal
    ∷ (checks (grouping "SignalGroups { g = 'A+B+(A)'; }" ([])), refused 10 61)
    -- a character given twice, in entries that stand apart
    ∷ (checks (timed "Timing { WaveformTable t0 { Period '100ns'; Waveforms {" " A { 01 { '0ns' D/U; } } ab { 0 { '0ns' Z; } } } } }" ([])), refused 11 150)
    -- alternatives that do not fit
    ∷ (checks (timed "Timing { WaveformTable t0 { Period '100ns'; Waveforms {" " A { 01 { '0ns' D/U/D; } } } } }" ([])), refused 11 141)
    -- a time that does not rise
    ∷ (checks (timed "Timing { WaveformTable t0 { Period '100ns'; Waveforms {" " A { 01 { '5ns' D/L; '5ns' H/D; '5000ps' L/U; } } } } }" ([])), refused 11 164)
    -- no waveform character
    ∷ (checks (playing ("Pattern p { C { A = 0_; } }" ∷ [])), refused 12 332)
    -- a signal twice
    ∷ (checks (playing ("Pattern p { V { A = 0; ab = 0H; } }" ∷ [])), refused 12 335)
    -- a length that is wrong
    ∷ (checks (playing ("Pattern p { V { ab = 0; } }" ∷ [])), refused 12 334)
    -- `#` in a Loop of a macro
    ∷ (checks (bodied "MacroDefs { m { Loop 2 { V { A = #; } } } }" ([])), refused 13 221)
    -- a Shift without `#`
    ∷ (checks (bodied "MacroDefs { m { Shift { V { A = 0; } } } }" ([])), refused 13 225)
    -- an argument for a signal without `#`
    ∷ (checks (bodied "MacroDefs { m { V { A = #; } } }" ("Pattern p { Macro m { B = L; } }" ∷ [])), refused 13 309)
    -- a missing argument
    ∷ (checks (playing ("Pattern p { Macro m; }" ∷ [])), refused 13 331)
    -- a second Shift
    ∷ (checks (bodied "MacroDefs { m { Shift { V { A = #; } } Shift { V { A = #; } } } }" ([])), refused 4 227)
    -- an X in a macro, and in a Loop of a procedure
    ∷ (checks (bodied "MacroDefs { m { X a; } }" ([])), refused 4 204)
    ∷ (checks (bodied "Procedures { m { Loop 2 { X a; } } }" ([])), refused 4 214)
    -- X as a signal's name
    ∷ (checks (signed "Signals { X In; B Out; }" ([])), refused 5 20)
    -- an X without its name, with a word that is none, and without its semicolon
    ∷ (checks (playing ("Pattern p { X ; }" ∷ [])), refused 4 326)
    ∷ (checks (playing ("Pattern p { X 1a; }" ∷ [])), refused 5 326)
    ∷ (checks (playing ("Pattern p { X a }" ∷ [])), refused 4 328)
    -- an X with the burst's name, that of a pattern before, of its own, or of another X; a pattern with an X's name
    ∷ (checks (playing ("Pattern p { X b; }" ∷ [])), refused 7 326)
    ∷ (checks (playing ("Pattern p { }" ∷ "Pattern q { X p; }" ∷ [])), refused 7 340)
    ∷ (checks (playing ("Pattern p { X p; }" ∷ [])), refused 7 326)
    ∷ (checks (playing ("Pattern p { X a; Loop 2 { X a; } }" ∷ [])), refused 7 340)
    ∷ (checks (playing ("Pattern p { X a; }" ∷ "Pattern q { X a; }" ∷ [])), refused 7 345)
    ∷ (checks (playing ("Pattern p { X q; }" ∷ "Pattern q { }" ∷ [])), refused 7 339)
    -- what stands further left is refused first
    ∷ (checks (playing ("Pattern p { W t9; X p; }" ∷ [])), refused 6 326)
    ∷ (checks (playing ("Pattern p { X p; W t9; }" ∷ [])), refused 7 326)
    -- a listed X name is no pattern
    ∷ (checks (listing "PatternBurst b { PatList { p; a; } }" ("Pattern p { X a; }" ∷ [])), refused 15 276)
    -- a listed pattern that is not defined
    ∷ (checks (listing "PatternBurst b { PatList { p; b; c; } }" ("Pattern p { }" ∷ [])), refused 15 276)
    -- more cycles than 2 to the power of 40
    ∷ (checks (playing ("Pattern p { Loop 16777215 { Loop 65537 { V { } } } }" ∷ [])), refused 16 0)
    -- a cycle without a table
    ∷ (checks (playing ("Pattern p { C { } V { } }" ∷ [])), refused 17 330)
    -- a held value without a waveform
    ∷ (checks (both "MacroDefs { } Procedures { keep { V { A = 0; } } change { W t1; V { A = 1; } } }" ("Pattern p { W t0; C { B = X; } V { A = 0; } }" ∷ [])), refused 17 413)
    -- only in a second turn
    ∷ (checks (playing ("Pattern p { W t0; Loop 2 { V { } C { A = X; } } }" ∷ [])), refused 17 339)
    -- only in the last listed pattern
    ∷ (checks (listing "PatternBurst b { PatList { p; q; } }" ("Pattern p { W t0; V { } }" ∷ "Pattern q { V { } }" ∷ [])), refused 17 353)
    -- a name by its number
    ∷ (names worked signal 1, given (26 ∷ 1 ∷ []))
    -- a table's name
    ∷ (names worked table 0, given (87 ∷ 2 ∷ []))
    -- no such signal
    ∷ (names worked signal 2, refused 18 0)
    -- no such table
    ∷ (names worked table 1, refused 18 0)
    -- events as written; the rest of both buffers stays
    ∷ (waves worked 0 1 72 3, given (2 ∷ 0 ∷ 50000 ∷ 35 ∷ bytes "ZH#"))
    -- a character without a waveform
    ∷ (waves worked 0 0 72 9, refused 18 0)
    -- no such table
    ∷ (waves worked 1 0 48 0, refused 18 0)
    -- a buffer too short
    ∷ (waves worked 0 1 72 1, refused 19 0)
    -- rows that do not fit
    ∷ (windows worked 6 5 dot 3, refused 19 0)
    -- another mark stands where the dot would, and nowhere else
    ∷ (windows (playing ("Pattern p { W t0; Loop 3 { V { B = L; } C { A = 1; } } }" ∷ [])) 0 9 question 12, given (3 ∷ 10 ∷ bytes "?L0\n1L0\n1L0\n"))
    -- a byte that no text may have is a mark too
    ∷ (windows (playing ("Pattern p { W t0; V { B = L; } }" ∷ [])) 0 1 255 4, given (1 ∷ 5 ∷ 255 ∷ bytes "L0\n"))
    -- a letter, a digit or LF is none, also where no row is wanted, and before the room is asked for
    ∷ (windows worked 0 0 65 0, refused 12 0)
    ∷ (windows worked 0 0 122 0, refused 12 0)
    ∷ (windows worked 6 5 48 3, refused 12 0)
    ∷ (windows worked 6 5 10 3, refused 12 0)
    -- but the text's refusals come first
    ∷ (windows (playing ("Pattern p { V { D = 1; } }" ∷ [])) 0 0 57 0, refused 6 328)
    ∷ []

-- times with a sign (request 8): what Waveform tells, in 64 bits, and where they are refused
unfoldable pub signs : List Sample
unfolding bytes lines timed
signs =
    -- from before the cycle's start to behind it, -0 being 0; -1 is the largest of 64 bits
    (waves (timed "Timing { WaveformTable t0 { Period '100ns'; Waveforms {" " A { 0 { '-5ns' D; '-1ps' U; '-0ns' Z; '2ns' P; } } } } }" ("Pattern p { }" ∷ [])) 0 0 48 4, given (4 ∷ 18446744073709546616 ∷ 18446744073709551615 ∷ 0 ∷ 2000 ∷ bytes "DUZP"))
    -- the earliest and the latest
    ∷ (waves (timed "Timing { WaveformTable t0 { Period '100ns'; Waveforms {" " A { 0 { '-1000000ns' D; '-999999999ps' U; '1000000000ps' Z; } } } } }" ("Pattern p { }" ∷ [])) 0 0 48 3, given (3 ∷ 18446744072709551616 ∷ 18446744072709551617 ∷ 1000000000 ∷ bytes "DUZ"))
    -- the sign is a token of its own
    ∷ (waves (timed "Timing { WaveformTable t0 { Period '100ns'; Waveforms {" " A { 0 { '- 5ns' D; ' -/* */4ns ' U; } } } } }" ("Pattern p { }" ∷ [])) 0 0 48 2, given (2 ∷ 18446744073709546616 ∷ 18446744073709547616 ∷ bytes "DU"))
    -- each category rises by itself
    ∷ (waves (timed "Timing { WaveformTable t0 { Period '100ns'; Waveforms {" " A { 0 { '-1ns' D; '-2ns' L; '-1ps' H; } } } } }" ("Pattern p { }" ∷ [])) 0 0 48 3, given (3 ∷ 18446744073709550616 ∷ 18446744073709549616 ∷ 18446744073709551615 ∷ bytes "DLH"))
    -- below the earliest
    ∷ (checks (timed "Timing { WaveformTable t0 { Period '100ns'; Waveforms {" " A { 0 { '-1000000001ps' D; } } } } }" []), refused 9 131)
    -- no time behind the sign
    ∷ (checks (timed "Timing { WaveformTable t0 { Period '100ns'; Waveforms {" " A { 0 { '-5' D; } } } } }" []), refused 9 131)
    -- another sign, a second one, one behind the word, and one alone
    ∷ (checks (timed "Timing { WaveformTable t0 { Period '100ns'; Waveforms {" " A { 0 { '+5ns' D; } } } } }" []), refused 4 130)
    ∷ (checks (timed "Timing { WaveformTable t0 { Period '100ns'; Waveforms {" " A { 0 { '--5ns' D; } } } } }" []), refused 4 131)
    ∷ (checks (timed "Timing { WaveformTable t0 { Period '100ns'; Waveforms {" " A { 0 { '5ns-' D; } } } } }" []), refused 4 133)
    ∷ (checks (timed "Timing { WaveformTable t0 { Period '100ns'; Waveforms {" " A { 0 { '-' D; } } } } }" []), refused 4 131)
    -- -0 does not rise behind 0, nor -2 behind -1
    ∷ (checks (timed "Timing { WaveformTable t0 { Period '100ns'; Waveforms {" " A { 0 { '0ns' D; '-0ns' U; } } } } }" []), refused 11 146)
    ∷ (checks (timed "Timing { WaveformTable t0 { Period '100ns'; Waveforms {" " A { 0 { '-1ns' D; '-2ns' U; } } } } }" []), refused 11 147)
    -- a Period has no sign
    ∷ (checks (timed "Timing { WaveformTable t0 { Period '-100ns'; Waveforms {" " } } }" []), refused 4 100)
    ∷ []

unfoldable pub samples : List Sample
samples = edges ++ (between ++ refusals)

-- what the services answer, and what is right
unfoldable pub asked : List Sample → List (Answer (List ℕ))
asked [] = []
asked (x ∷ xs) = told x.0 ∷ asked xs

unfoldable pub answered : List Sample → List (Answer (List ℕ))
answered [] = []
answered (x ∷ xs) = x.1 ∷ answered xs
