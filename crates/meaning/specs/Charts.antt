-- Waveforms by the list (request 1): single calls made in order, each on the room that those before it left.
use Rattle.std.specs.Prelude.{ℕ, ◌+◌, true, false, List, [], ◌∷◌, ◌++◌, length, take, drop, leb}
use Rattle.std.proofs.Math.Option.{Option, none, some}
use Rattle.meaning.specs.Refusals.{too_many, no_such, no_room}
use Rattle.meaning.specs.Meaning.{Answer, given, refused, answering, meaning}
use Rattle.meaning.specs.Services.{Waveform, waveform}

-- waveforms of one list
abbrev pub chart_most : ℕ
chart_most = 64

-- ---- the list: a table, a signal and a character for each waveform, as numbers one behind the other

-- a waveform that is asked for; none where the numbers name no waveform
abbrev pub Asked : Type 0
Asked = Option (ℕ × ℕ × ℕ)

-- a character is a byte
abbrev pub char_most : ℕ
char_most = 255

unfoldable pub asking : ℕ → ℕ → ℕ → Asked
asking k s c = elim (leb c char_most) [ true ↦ some (k, s, c) | false ↦ none ]

-- numbers left over at the end count as one more, that names no waveform
unfoldable pub asked_in : List ℕ → List Asked
asked_in [] = []
asked_in (k ∷ []) = none ∷ []
asked_in (k ∷ s ∷ []) = none ∷ []
asked_in (k ∷ s ∷ c ∷ list) = asking k s c ∷ asked_in list

-- ---- the calls

unfoldable pub called : List ℕ → Asked → (times letters : List ℕ) → Answer Waveform
called text none times letters = refused no_such 0
called text (some x) times letters = waveform text x.0 x.1 x.2 times letters

-- what the calls leave: the refusal of the first that is refused, if one is; how many were served, and their events together; the buffers
pub record Chart : Type 0 where
  pub stopped : Option (ℕ × ℕ)
  pub served : ℕ
  pub events : ℕ
  pub times : List ℕ
  pub letters : List ℕ
  pub counts : List ℕ

-- calls behind others, of which n were served with e events: what these wrote stays before what those write
unfoldable pub behind : ℕ → ℕ → (times letters counts : List ℕ) → Chart → Chart
behind n e times letters counts x = record {
  stopped = x.stopped;
  served = n + x.served;
  events = e + x.events;
  times = take e times ++ x.times;
  letters = take e letters ++ x.letters;
  counts = take n counts ++ x.counts;
}

-- no call more: all were served, or this is the refusal that stops them
abbrev pub over : Option (ℕ × ℕ) → (times letters counts : List ℕ) → Chart
over o times letters counts = record { stopped = o; served = 0; events = 0; times = times; letters = letters; counts = counts }

-- one call, and where it is served those behind it, on the room still left
unfoldable pub chart : List ℕ → List Asked → (times letters counts : List ℕ) → Chart
chart text [] times letters counts = over none times letters counts
chart text (x ∷ xs) times letters counts =
    elim (called text x times letters) [
      | refused n p ↦ over (some (n, p)) times letters counts
      | given w ↦ behind 1 w.count w.times w.letters (w.count ∷ drop 1 counts) (chart text xs (drop w.count w.times) (drop w.count w.letters) (drop 1 counts))
    ]

-- after the text's refusals: a list above 64, then counts without room, before any call
unfoldable pub waveforms : List ℕ → List ℕ → (times letters counts : List ℕ) → Answer Chart
waveforms text list times letters counts = answering (meaning text) λ m.
    elim (leb (length (asked_in list)) chart_most) [
      | false ↦ refused too_many 0
      | true ↦ elim (leb (length (asked_in list)) (length counts)) [
        | false ↦ refused no_room 0
        | true ↦ given (chart text (asked_in list) times letters counts)
      ]
    ]
