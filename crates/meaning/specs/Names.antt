-- Names and numbers (document 01, "Bytes and tokens", "Statements").
use Rattle.std.specs.Prelude.{ℕ, ◌+◌, ◌*◌, ◌-◌, Bool, true, false, not, ◌&&◌, ◌||◌, List, [], ◌∷◌, length, leb}
use Prim.Native.String.{String}
use Rattle.std.proofs.Math.Option.{Option, none, some}
use Rattle.tokens.specs.Written.{bytes, same}
use Rattle.tokens.specs.Bytes.{digit}
use Rattle.tokens.specs.Refusals.{not_here}
use Rattle.tokens.specs.Tokens.{Tok}
use Rattle.meaning.specs.Refusals.{not_name, unknown_name, used_name, bad_number}
use Rattle.meaning.specs.Bounds.{name_most}
use Rattle.meaning.specs.Lists.{has}
use Rattle.meaning.specs.Reader.{Reader, ok, refuse, ◌>>=◌, ◌>>◌, give, refuse_if, any, word}

-- ---- names

-- the words that are no names
unfoldable pub reserved : List String
reserved =
    "STIL" ∷ "Signals" ∷ "SignalGroups" ∷ "Timing" ∷ "WaveformTable" ∷ "Period" ∷ "Waveforms" ∷ "Procedures" ∷ "MacroDefs"
    ∷ "PatternBurst" ∷ "PatList" ∷ "PatternExec" ∷ "Pattern" ∷ "In" ∷ "Out" ∷ "InOut" ∷ "V" ∷ "W" ∷ "C" ∷ "Call" ∷ "Macro"
    ∷ "Loop" ∷ "Shift" ∷ "X" ∷ []

unfoldable pub among : List String → List ℕ → Bool
among [] w = false
among (k ∷ ks) w = same w (bytes k) || among ks w

-- 1 to 32 bytes without a dot, not starting with a digit, not reserved
unfoldable pub is_name : List ℕ → Bool
is_name [] = false
is_name (b ∷ s) = leb (length (b ∷ s)) name_most && not (has 46 (b ∷ s)) && not (digit b) && not (among reserved (b ∷ s))

-- a name is due
unfoldable pub name : Reader Tok
name = do
  t ← word
  refuse_if (not (is_name t.word)) not_name t.at
  give t

-- one of these words is due; its place
unfoldable pub due_among : List String → Reader ℕ
due_among ks = do
  t ← any
  refuse_if (not (among ks t.word)) not_here t.at
  give t.at

-- what a name stands for in its name space
unfoldable pub find : {A : Type 0} → List (Tok × A) → List ℕ → Option A
find [] w = none
find (x ∷ xs) w = elim (same x.0.word w) [ true ↦ some x.1 | false ↦ find xs w ]

unfoldable pub is_some : {A : Type 0} → Option A → Bool
is_some none = false
is_some (some a) = true

-- a name that is not used yet
unfoldable pub new_name : {A : Type 0} → List (Tok × A) → Reader Tok
new_name used = do
  t ← name
  refuse_if (is_some (find used t.word)) used_name t.at
  give t

-- what was found, or a refusal
unfoldable pub known : {A : Type 0} → Option A → ℕ → ℕ → Reader A
known none n p ts = refuse n p
known (some a) n p ts = ok a ts

-- a name that stands for something
unfoldable pub old_name : {A : Type 0} → List (Tok × A) → Reader (Tok × A)
old_name used = do
  t ← name
  a ← known (find used t.word) unknown_name t.at
  give (t, a)

-- ---- numbers

-- the value of decimal digits behind n; none where another byte stands
unfoldable pub value : ℕ → List ℕ → Option ℕ
value n [] = some n
value n (b ∷ s) = elim (digit b) [ true ↦ value (n * 10 + (b - 48)) s | false ↦ none ]

unfoldable pub number : List ℕ → Option ℕ
number [] = none
number (b ∷ s) = value 0 (b ∷ s)

-- a number from a to b, read off the word at p
unfoldable pub within : ℕ → ℕ → Option ℕ → ℕ → Reader ℕ
within a b none p ts = refuse bad_number p
within a b (some n) p ts = elim (leb a n && leb n b) [ true ↦ ok n ts | false ↦ refuse bad_number p ]

unfoldable pub number_in : ℕ → ℕ → Reader ℕ
number_in a b = do
  t ← word
  within a b (number t.word) t.at
