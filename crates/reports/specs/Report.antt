-- A fail report (request 9): the text that a tester sends, read by the rules for a text's bytes, words and names; and the answer to each offset of it.
use Rattle.std.specs.Prelude.{ℕ, ◌+◌, Bool, true, false, not, ◌||◌, List, [], ◌∷◌, ◌++◌, ltb, get_or}
use Rattle.std.proofs.Math.Option.{Option, none, some}
use Rattle.tokens.specs.Written.{bytes, same}
use Rattle.tokens.specs.Refusals.{not_here}
use Rattle.tokens.specs.Tokens.{Tok, stop, tok, toks, fault_of}
use Rattle.meaning.specs.Bounds.{cycles_most}
use Rattle.meaning.specs.Reader.{Res, Reader, ok, refuse, ◌>>=◌, ◌>>◌, give, refuse_if, any, due, word, if_ahead, until}
use Rattle.meaning.specs.Names.{name, old_name, number, within}
use Rattle.meaning.specs.Meaning.{Answer, given, refused, answering}

-- an offset: the place of its word, its number, its letter (0 for none)
pub record Offset : Type 0 where
  pub at : ℕ
  pub n : ℕ
  pub letter : ℕ

-- a record: its reference, its signal by number, its offsets in order
pub record Record : Type 0 where
  pub reference : Tok
  pub signal : ℕ
  pub offsets : List Offset

-- a report: the pattern's name, and the records in order
pub record Report : Type 0 where
  pub pattern : Tok
  pub records : List Record

-- the signals of the text, each with its number: groups are not among them
abbrev pub Signals : Type 0
Signals = List (Tok × ℕ)

-- ---- offsets

unfoldable pub is_state : List ℕ → Bool
is_state w = same w (bytes "H") || same w (bytes "L") || same w (bytes "T") || same w (bytes "X")

-- a state letter in quotes
unfoldable pub state : Reader ℕ
state = do
  due "'"
  l ← any >>= λ t. refuse_if (not (is_state t.word)) not_here t.at >>= λ u. give (get_or t.word 0 0)
  due "'"
  give l

-- a number, with or without a letter behind it
unfoldable pub offset : Reader Offset
offset = do
  t ← word
  n ← within 0 cycles_most (number t.word) t.at
  l ← if_ahead "'" state (give 0)
  give (record { at = t.at; n = n; letter = l })

unfoldable pub one_more : List Offset → Reader (List Offset)
one_more l = do
  o ← offset
  give (l ++ o ∷ [])

-- ---- records

-- `REFERENCE SIGNAL`: the reference may be unknown, the signal not
unfoldable pub head : Signals → Reader (Tok × ℕ)
head ss = do
  t ← name
  s ← old_name ss
  give (t, s.1)

-- `REFERENCE SIGNAL OFFSET .. ;`
unfoldable pub one_record : Signals → List Record → Reader (List Record)
one_record ss l = do
  h ← head ss
  os ← until ";" one_more []
  give (l ++ record { reference = h.0; signal = h.1; offsets = os } ∷ [])

-- ---- the report

-- nothing may follow
unfoldable pub ending : Reader Unit
ending (stop n p) = ok tt (stop n p)
ending (tok t ts) = refuse not_here t.at

-- the last `}`, and then nothing
unfoldable pub closing : Reader Unit
closing = do
  due "}"
  ending

-- `PatternFailReport { Pattern NAME; FailData {`: the pattern may be unknown
unfoldable pub opening : Reader Tok
opening = do
  due "PatternFailReport"
  due "{"
  due "Pattern"
  t ← name
  due ";"
  due "FailData"
  due "{"
  give t

unfoldable pub report : Signals → Reader Report
report ss = do
  t ← opening
  l ← until "}" (one_record ss) []
  closing
  give (record { pattern = t; records = l })

unfoldable pub read_as : Res Report → Answer Report
read_as (ok r ts) = given r
read_as (refuse n p) = refused n p

-- what a report's bytes say: 1, 2, 3, then 4 to 9 from the left
unfoldable pub reported : Signals → List ℕ → Answer Report
reported ss bs = elim (fault_of bs) [ some f ↦ refused f.0 f.1 | none ↦ read_as (report ss (toks bs 0)) ]

-- ---- the answers

-- pattern not listed exactly once, reference unknown, cycle outside the pattern
abbrev pub not_in_pattern : ℕ
not_in_pattern = 24

-- the answer to an offset: the run's cycle, the signal's number, the letter
pub record Fail : Type 0 where
  pub cycle : ℕ
  pub signal : ℕ
  pub letter : ℕ

-- without offsets it is 0, without letter, and stands where the reference stands
unfoldable pub offsets_of : Tok → List Offset → List Offset
offsets_of t [] = record { at = t.at; n = 0; letter = 0 } ∷ []
offsets_of t (o ∷ os) = o ∷ os

-- the pattern begins at the run's cycle `first` and has so many cycles; `past` tells how many of them come before a reference, where it is known
module _ (first cycles : ℕ) (past : List ℕ → Option ℕ) where
  unfoldable pub answered_at : ℕ → ℕ → List Offset → Answer (List Fail)
  answered_at b s [] = given []
  answered_at b s (o ∷ os) =
      elim (ltb (b + o.n) cycles) [
        | false ↦ refused not_in_pattern o.at
        | true ↦ answering (answered_at b s os) λ fs. given (record { cycle = first + (b + o.n); signal = s; letter = o.letter } ∷ fs)
      ]

  unfoldable pub answered_of : Record → Answer (List Fail)
  answered_of r =
      elim (past r.reference.word) [
        | none ↦ refused not_in_pattern r.reference.at
        | some b ↦ answered_at b r.signal (offsets_of r.reference r.offsets)
      ]

  unfoldable pub answered_all : List Record → Answer (List Fail)
  answered_all [] = given []
  answered_all (r ∷ rs) = answering (answered_of r) λ fs. answering (answered_all rs) λ gs. given (fs ++ gs)

  -- the first 24 in report order, or all answers
  abbrev pub answered : Report → Answer (List Fail)
  answered r = answered_all r.records
