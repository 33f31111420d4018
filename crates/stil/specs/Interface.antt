-- What callers in C get: one number for the answer, and what it holds at the front of buffers.
use Rattle.std.specs.Prelude.{ℕ, ◌≡◌, true, false, List, [], ◌∷◌, ◌++◌, length, drop, leb}
use Rattle.tokens.specs.Tokens.{Next, found, nothing, refused as token_refused}
use Rattle.columns.specs.declared.Position.{Position}
use Rattle.meaning.specs.Refusals.{no_room}
use Rattle.meaning.specs.Meaning.{Answer, given, refused, answering}
use Rattle.meaning.specs.Services.{Counts, Window, Waveform}
use Rattle.texts.specs.Told.{packed_refusal}
use Rattle.verdicts.specs.Buffers.{afterwards}

-- an answer of k numbers: 19 where the buffer has room for less
unfoldable pub with_room : {A : Type 0} → ℕ → List ℕ → Answer A → Answer A
with_room k buffer a = answering a λ x. elim (leb k (length buffer)) [ true ↦ given x | false ↦ refused no_room 0 ]

-- the returned number: 0, or the refusal, 32 times its place and its number
unfoldable pub packed : {A : Type 0} → Answer A → ℕ
packed (given x) = 0
packed (refused n p) = packed_refusal n p

-- numbers at the front of a buffer, whose rest stays
abbrev pub fronted : List ℕ → List ℕ → List ℕ
fronted xs buffer = xs ++ drop (length xs) buffer

-- THE PROMISE of a function that hands out an answer a, f of it being k numbers: the number r, and the buffer behind
pub record Hands {A : Type 0} (k : ℕ) (f : A → List ℕ) (a : Answer A) (before : List ℕ) (r : ℕ) (behind : List ℕ) : Type 0 where
  pub number : r ≡ packed (with_room k before a)
  pub buffer : behind ≡ afterwards (λ x. fronted (f x) before) (with_room k before a) before

-- Check: signals, tables, listed patterns, cycles, size of the run
abbrev pub five_of : Counts → List ℕ
five_of x = x.signals ∷ x.tables ∷ x.listed ∷ x.cycles ∷ x.size ∷ []

-- Name: place and length
abbrev pub two_of : ℕ × ℕ → List ℕ
two_of x = x.0 ∷ x.1 ∷ []

-- the next token: 1, its place and its length; or three times 0 where there is none
unfoldable pub token_of : Next → Answer (ℕ × ℕ × ℕ)
token_of (found p l) = given (1, p, l)
token_of nothing = given (0, 0, 0)
token_of (token_refused n p) = refused n p

abbrev pub three_of : ℕ × ℕ × ℕ → List ℕ
three_of x = x.0 ∷ x.1 ∷ x.2 ∷ []

-- a position: its line and its column
abbrev pub position_of : Position → List ℕ
position_of p = p.line ∷ p.column ∷ []

-- Window: how many rows, and the visits; and the rows
abbrev pub shown_two : Window → List ℕ
shown_two x = x.count ∷ x.visits ∷ []

pub record Opens (a : Answer Window) (rows rows' numbers : List ℕ) (r : ℕ) (numbers' : List ℕ) : Type 0 where
  pub counted : Hands 2 shown_two a numbers r numbers'
  pub rows_are : rows' ≡ afterwards (λ w. w.buffer) (with_room 2 numbers a) rows

-- Waveform: how many events; and their times and letters
abbrev pub one_of : Waveform → List ℕ
one_of x = x.count ∷ []

pub record Draws (a : Answer Waveform) (times times' letters letters' count : List ℕ) (r : ℕ) (count' : List ℕ) : Type 0 where
  pub counted : Hands 1 one_of a count r count'
  pub times_are : times' ≡ afterwards (λ w. w.times) (with_room 1 count a) times
  pub letters_are : letters' ≡ afterwards (λ w. w.letters) (with_room 1 count a) letters
