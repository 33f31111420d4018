-- Timing: tables of waveforms (document 01).
use Rattle.std.specs.Prelude.{ℕ, zero, suc, ◌+◌, ◌*◌, ◌-◌, Bool, true, false, not, ◌&&◌, ◌||◌, List, [], ◌∷◌, ◌++◌, length, leb, ltb, eqb}
use Rattle.std.proofs.Math.Option.{Option, none, some}
use Rattle.tokens.specs.Written.{bytes, same}
use Rattle.tokens.specs.Bytes.{digit, letter}
use Rattle.tokens.specs.Refusals.{not_here}
use Rattle.tokens.specs.Tokens.{Tok}
use Rattle.meaning.specs.Refusals.{too_many, bad_waveform, bad_data}
use Rattle.meaning.specs.Bounds.{tables_most, entry_most, time_most}
use Rattle.meaning.specs.Lists.{has, repeats}
use Rattle.meaning.specs.Reader.{Reader, refuse, ◌>>=◌, ◌>>◌, give, refuse_if, any, ahead, due, word, if_ahead, while, until}
use Rattle.meaning.specs.Names.{new_name, old_name, known, within}
use Rattle.meaning.specs.Signals.{Names}

-- its time is counted from the earliest that there may be (`counted`)
pub record Event : Type 0 where
  pub time : ℕ
  pub letter : ℕ

-- the waveform of one character of one signal
pub record Wave : Type 0 where
  pub signal : ℕ
  pub char : ℕ
  pub events : List Event

pub record Table : Type 0 where
  pub period : ℕ
  pub waves : List Wave

abbrev pub Tables : Type 0
Tables = List (Tok × Table)

-- ---- times: a whole number and `ns` or `ps`, in ps

-- digits behind n, and then the unit; none for anything else
unfoldable pub unit : ℕ → List ℕ → Option ℕ
unit n [] = none
unit n (b ∷ s) =
    elim (digit b) [
      | true ↦ unit (n * 10 + (b - 48)) s
      | false ↦ elim (same (b ∷ s) (bytes "ns")) [
        | true ↦ some (n * 1000)
        | false ↦ elim (same (b ∷ s) (bytes "ps")) [ true ↦ some n | false ↦ none ]
      ]
    ]

unfoldable pub picoseconds : List ℕ → Option ℕ
picoseconds [] = none
picoseconds (b ∷ s) = elim (digit b) [ true ↦ unit 0 (b ∷ s) | false ↦ none ]

-- 'T' with T from a on
unfoldable pub quoted : ℕ → Reader ℕ
quoted a = do
  due "'"
  t ← word
  n ← within a time_most (picoseconds t.word) t.at
  due "'"
  give n

-- ---- times with a sign (request 8)

-- an amount of ps behind the cycle's start, or before it
pub data Signed : Type 0 where
  plus minus : ℕ → Signed

-- counted from the earliest time that there may be; -0 is 0
unfoldable pub counted : Signed → ℕ
counted (plus n) = time_most + n
counted (minus n) = time_most - n

-- the latest one
abbrev pub counted_most : ℕ
counted_most = time_most + time_most

-- and what was counted so; never `minus 0`
unfoldable pub uncounted : ℕ → Signed
uncounted t = elim (ltb t time_most) [ true ↦ minus (time_most - t) | false ↦ plus (t - time_most) ]

unfoldable pub time_of : (ℕ → Signed) → Reader Signed
time_of sign = do
  t ← word
  n ← within 0 time_most (picoseconds t.word) t.at
  give (sign n)

-- an event's 'T', also with a `-` before the word
unfoldable pub signed_quoted : Reader ℕ
signed_quoted = do
  due "'"
  t ← if_ahead "-" (do due "-"; time_of minus) (time_of plus)
  due "'"
  give (counted t)

-- ---- events

unfoldable pub drives : ℕ → Bool
drives e = has e (bytes "DUZP")

unfoldable pub compares : ℕ → Bool
compares e = has e (bytes "LHXTlhx")

unfoldable pub event_letter : List ℕ → Option ℕ
event_letter [] = none
event_letter (e ∷ []) = elim (drives e || compares e) [ true ↦ some e | false ↦ none ]
event_letter (e ∷ f ∷ s) = none

unfoldable pub letter_due : Reader ℕ
letter_due = do
  t ← any
  known (event_letter t.word) not_here t.at

-- alternatives, parted by `/`
unfoldable pub alternative : List ℕ → Reader (List ℕ)
alternative es = do
  due "/"
  e ← letter_due
  give (es ++ e ∷ [])

unfoldable pub letters : Reader (List ℕ)
letters = do
  e ← letter_due
  while (ahead "/") alternative (e ∷ [])

-- one letter for all of n characters, or one for each
unfoldable pub spread : ℕ → List ℕ → List ℕ
spread zero es = []
spread (suc n) [] = []
spread (suc n) (e ∷ []) = e ∷ spread n (e ∷ [])
spread (suc n) (e ∷ f ∷ es) = e ∷ spread n (f ∷ es)

-- are two letters of one category
unfoldable pub alike : ℕ → ℕ → Bool
alike e f = drives e && drives f || compares e && compares f

-- is the time t above those of the same category
unfoldable pub rises : ℕ → ℕ → List Event → Bool
rises t e [] = true
rises t e (x ∷ xs) = (not (alike e x.letter) || ltb x.time t) && rises t e xs

-- an event at time t behind each character's events; none where a time does not rise
unfoldable pub add_events : ℕ → List ℕ → List (List Event) → Option (List (List Event))
add_events t [] [] = some []
add_events t [] (c ∷ cs) = none
add_events t (e ∷ es) [] = none
add_events t (e ∷ es) (c ∷ cs) =
    elim (rises t e c) [
      | false ↦ none
      | true ↦ elim (add_events t es cs) [
        | none ↦ none
        | some r ↦ some ((c ++ record { time = t; letter = e } ∷ []) ∷ r)
      ]
    ]

-- an entry's events so far, character by character, and how many lines of them
abbrev pub Events : Type 0
Events = List (List Event) × ℕ

-- `'T' E;` behind those, for n characters
unfoldable pub one_event : ℕ → Events → Reader Events
one_event n s = do
  t ← signed_quoted
  es ← letters
  q ← due ";"
  refuse_if (not (eqb (length es) 1) && not (eqb (length es) n)) bad_waveform q
  cs ← known (add_events t (spread n es) s.0) bad_waveform q
  give (cs, suc s.1)

-- one too many is refused at its quote
unfoldable pub event : ℕ → Events → Reader Events
event n s ts =
    elim (ahead "'" ts && leb entry_most s.1) [
      | true ↦ (due "'" >>= λ p us. refuse too_many p) ts
      | false ↦ one_event n s ts
    ]

-- ---- entries: CHARS and their events, for some signals

-- letters and digits
unfoldable pub wave_char : ℕ → Bool
wave_char b = letter b || digit b

unfoldable pub all_chars : List ℕ → Bool
all_chars [] = true
all_chars (b ∷ s) = wave_char b && all_chars s

-- has one of these signals a waveform for one of these characters
unfoldable pub taken : List ℕ → List ℕ → List Wave → Bool
taken sigs cs [] = false
taken sigs cs (w ∷ ws) = has w.signal sigs && has w.char cs || taken sigs cs ws

unfoldable pub blanks : List ℕ → List (List Event)
blanks [] = []
blanks (b ∷ s) = [] ∷ blanks s

unfoldable pub waves_of : ℕ → List ℕ → List (List Event) → List Wave
waves_of s [] es = []
waves_of s (c ∷ cs) [] = []
waves_of s (c ∷ cs) (e ∷ es) = record { signal = s; char = c; events = e } ∷ waves_of s cs es

unfoldable pub waves_for : List ℕ → List ℕ → List (List Event) → List Wave
waves_for [] cs es = []
waves_for (s ∷ ss) cs es = waves_of s cs es ++ waves_for ss cs es

unfoldable pub entry : List ℕ → List Wave → Reader (List Wave)
entry sigs ws = do
  t ← word
  let cs = t.word
  refuse_if (leb (suc entry_most) (length cs)) too_many t.at
  refuse_if (repeats cs || taken sigs cs ws) bad_waveform t.at
  refuse_if (not (all_chars cs)) bad_data t.at
  due "{"
  e ← event (length cs) (blanks cs, 0)
  es ← until "}" (event (length cs)) e
  give (ws ++ waves_for sigs cs es.0)

-- ---- tables

-- a signal, or a group for each of its signals
unfoldable pub waveforms : Names → List Wave → Reader (List Wave)
waveforms ns ws = do
  x ← old_name ns
  due "{"
  until "}" (entry x.1) ws

unfoldable pub table : Names → Tables → Reader Tables
table ns tabs = do
  p ← due "WaveformTable"
  refuse_if (leb tables_most (length tabs)) too_many p
  t ← new_name tabs
  due "{"
  due "Period"
  n ← quoted 1
  due ";"
  due "Waveforms"
  due "{"
  ws ← until "}" (waveforms ns) []
  due "}"
  give (tabs ++ (t, record { period = n; waves = ws }) ∷ [])

unfoldable pub timing : Names → Reader Tables
timing ns = do
  due "Timing"
  due "{"
  tabs ← table ns []
  until "}" (table ns) tabs

-- ---- a table by its number, a waveform by its signal and character

-- the waveforms of the table of a number
unfoldable pub table_at : Tables → ℕ → List Wave
table_at [] k = []
table_at (x ∷ xs) zero = x.1.waves
table_at (x ∷ xs) (suc k) = table_at xs k

unfoldable pub wave_of : ℕ → ℕ → List Wave → Option (List Event)
wave_of s c [] = none
wave_of s c (w ∷ ws) = elim (eqb w.signal s && eqb w.char c) [ true ↦ some w.events | false ↦ wave_of s c ws ]
