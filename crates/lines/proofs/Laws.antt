-- Pieces put one behind the other are a line.
use Prim.Native.Nat.{ℕ, ◌-◌, ◌<◌, ◌≤◌}
use native.Mathlib.Omega.{arith}
use mathlib.Core.Path.{◌≡◌, refl, sym, ap, ◌∙◌}
use mathlib.Core.Bool.{Bool, true, false}
use mathlib.Core.List.{List, [], ◌∷◌, ◌++◌, append_assoc}
use lib.Dec.{ltb}
use lib.ListN.{length}
use borrow.Author.Tests.{ltb-true, lt-ltb, le-ltb}
use Rattle.tokens.specs.Written.{bytes, lines}
use Rattle.meaning.specs.Bounds.{time_most}
use Rattle.meaning.specs.Timing.{Signed, plus, minus, counted_most, uncounted}
use Rattle.meaning.specs.Services.{word_range, bits_of}
use Rattle.pages.specs.Pages.{decimal}
use Rattle.sections.specs.Listing.{refusal}
use Rattle.lines.specs.Lines.{counted, name_line, negative, signed_of, signed_decimal, event_line, token_line, span_line, fail_line, stated_line, good_line, hurt_line, unread_line, sum_line, progress, help_lines, fault_line}

-- ---- the pieces of each line

pub counted_is : (word : List ℕ) (n : ℕ) → (word ++ decimal n) ++ (10 ∷ []) ≡ counted word n
unfolding counted
counted_is word n = simp append_assoc

pub name_is : (name : List ℕ) (p : ℕ) → name ++ ((bytes " AT " ++ decimal p) ++ counted (bytes " LENGTH ") (length name)) ≡ name_line name p
unfolding bytes counted name_line
name_is name p = simp append_assoc

as_signed : ℕ → Bool → List ℕ
as_signed bits b = signed_decimal (elim b [ true ↦ plus bits | false ↦ minus (word_range - bits) ])

pub plus_is : (bits : ℕ) → bits < negative → decimal bits ≡ signed_decimal (signed_of bits)
unfolding signed_decimal signed_of as_signed
plus_is bits h = ap (as_signed bits) (sym (lt-ltb bits negative h))

pub minus_is : (bits n : ℕ) → negative ≤ bits → n ≡ word_range - bits → 45 ∷ decimal n ≡ signed_decimal (signed_of bits)
unfolding signed_decimal signed_of as_signed
minus_is bits n h e = ap (λ (m : ℕ). 45 ∷ decimal m) e ∙ ap (as_signed bits) (sym (le-ltb bits negative h))

-- the bits of a time are its signed number's
pub told_back : (t : ℕ) → t ≤ counted_most → signed_of (bits_of (uncounted t)) ≡ uncounted t
unfolding signed_of bits_of uncounted
told_back t h = by (ltb t time_most) refl
  where
    of : ℕ → Bool → Signed
    of bits b = elim b [ true ↦ plus bits | false ↦ minus (word_range - bits) ]

    by : (w : Bool) → ltb t time_most ≡ w
        → signed_of (bits_of (elim w [ true ↦ minus (time_most - t) | false ↦ plus (t - time_most) ])) ≡ elim w [ true ↦ minus (time_most - t) | false ↦ plus (t - time_most) ]
    by true e =
        let k = ltb-true t time_most e in
        let n : word_range - (word_range - (time_most - t)) ≡ time_most - t = omega arith in
        ap (of (word_range - (time_most - t))) (le-ltb (word_range - (time_most - t)) negative (omega arith)) ∙ ap minus n
    by false e = ap (of (t - time_most)) (lt-ltb (t - time_most) negative (omega arith))

pub event_is : (time : Signed) (letter : ℕ) → signed_decimal time ++ (32 ∷ letter ∷ 10 ∷ []) ≡ event_line time letter
unfolding event_line
event_is time letter = simp append_assoc

pub token_is : (p : ℕ) (token : List ℕ) → decimal p ++ ((bytes " " ++ decimal (length token)) ++ (bytes " " ++ (token ++ (10 ∷ [])))) ≡ token_line p token
unfolding bytes token_line
token_is p token = simp append_assoc

pub span_is : (first behind : ℕ) → (bytes "SPAN " ++ decimal first) ++ counted (bytes " ") behind ≡ span_line first behind
unfolding bytes counted span_line
span_is first behind = simp append_assoc

pub fail_is : (cycle signal : ℕ) → decimal cycle ++ counted (bytes " ") signal ≡ fail_line cycle signal
unfolding bytes counted fail_line
fail_is cycle signal = simp append_assoc

pub stated_is : (cycle signal letter : ℕ) → decimal cycle ++ ((bytes " " ++ decimal signal) ++ (32 ∷ letter ∷ 10 ∷ [])) ≡ stated_line cycle signal letter
unfolding bytes stated_line
stated_is cycle signal letter = simp append_assoc

pub good_is : (file : List ℕ) (s t p c z : ℕ)
    → file ++ ((bytes " OK " ++ decimal s) ++ ((bytes " " ++ decimal t) ++ ((bytes " " ++ decimal p) ++ ((bytes " " ++ decimal c) ++ counted (bytes " ") z)))) ≡ good_line file s t p c z
unfolding bytes counted good_line
good_is file s t p c z = simp append_assoc

pub hurt_is : (file text : List ℕ) (n p : ℕ) → file ++ ((32 ∷ []) ++ refusal text n p) ≡ hurt_line file text n p
unfolding hurt_line
hurt_is file text n p = refl

pub unread_is : (file : List ℕ) → file ++ bytes " CANNOT BE READ\n" ≡ unread_line file
unfolding bytes unread_line
unread_is file = simp append_assoc

pub sum_is : (g h u : ℕ) → (bytes "GOOD " ++ decimal g) ++ ((bytes " HURT " ++ decimal h) ++ counted (bytes " UNREAD ") u) ≡ sum_line g h u
unfolding bytes counted sum_line
sum_is g h u = simp append_assoc

pub progress_is_lem : (done all : ℕ) → decimal done ++ ((bytes " OF " ++ decimal all) ++ (13 ∷ [])) ≡ progress done all
unfolding bytes progress
progress_is_lem done all = simp append_assoc

pub fault_is : (what word : List ℕ) → what ++ (bytes ": " ++ (word ++ (10 ∷ []))) ≡ fault_line what word
unfolding bytes fault_line
fault_is what word = simp append_assoc

pub help_is : bytes "check FILE..                          are these texts sound? a line for each, then how many\nname FILE signal N                    the name of the signal of number N, and where it is declared\nname FILE table N                     the same of a waveform table\nwindow FILE FIRST COUNT [MARK]        the pins in COUNT cycles from cycle FIRST on; MARK, or ?, for no value\nwaveform FILE TABLE SIGNAL CHARACTER  the events of a character: times in ps, and letters\nlist FILE                             all signals, tables and cycles\n" ++ bytes "index FILE                            the listed patterns, each with its first cycle and how many it has\nholds FILE INDEXFILE N                which listed pattern holds cycle N, by an index that was kept\ntokens FILE                           the words of the text, each with its place and length\nintake FILE                           a long raw text without its comments\nsave FILE                             a hurt text with its damaged patterns made blank\nfold FILE                             the text without macros, procedures and groups\nreport FILE REPORTFILE                the run's cycle and the signal of each offset of a fail report\nhelp                                  these lines\nNumbers count from 0. REFUSED n AT p: n says what is wrong, as docs/COMMANDS.md tells, and p is the byte where.\n" ≡ help_lines
unfolding bytes lines help_lines
help_is = refl
