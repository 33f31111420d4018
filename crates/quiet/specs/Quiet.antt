-- Events within their own cycle: from its start on, and before its end. The code reads again what was read before, and stops at the first one outside.
use Rattle.std.specs.Prelude.{ℕ, ◌+◌, ◌≤◌, ◌<◌, ◌≡◌, List, [], ◌∷◌, length, Option, IfSome}
use Rattle.tokens.specs.Tokens.{Tok, Toks}
use Rattle.meaning.specs.Bounds.{time_most}
use Rattle.meaning.specs.Reader.{Reader}
use Rattle.meaning.specs.Timing.{Event, Events, Wave, Table, Tables}
use Rattle.words.specs.declared.Cursor.{Cursor}
use Rattle.spots.specs.Answers.{Answers, Behind}

-- the time of a cycle's start, as times are counted
abbrev pub earliest : ℕ
earliest = time_most

-- a time in the cycle from a start on
pub record Inside (start period t : ℕ) : Type 0 where
  pub from : start ≤ t
  pub below : t < start + period

unfoldable pub Each : {A : Type 0} → (A → Type 0) → List A → Type 0
Each P [] = Unit {0}
Each P (x ∷ l) = P x × Each P l

abbrev pub EventsIn : ℕ → List Event → Type 0
EventsIn period es = Each (λ (e : Event). Inside earliest period e.time) es

-- an entry's events so far, of n characters
pub record Lined (period n : ℕ) (s : Events) : Type 0 where
  pub count : length s.0 ≡ n
  pub all : Each (EventsIn period) s.0

abbrev pub WavesIn : ℕ → List Wave → Type 0
WavesIn period ws = Each (λ (w : Wave). EventsIn period w.events) ws

-- each table's by its own period
abbrev pub TablesIn : Tables → Type 0
TablesIn tabs = Each (λ (x : Tok × Table). WavesIn x.1.period x.1.waves) tabs

-- from a cursor, behind some state with P, the definition's reader m answers
pub record Coming {S : Type 0} (text : List ℕ) (c : Cursor) (m : S → Reader S) (P : S → Type 0) : Type 0 where
  pub state : S
  pub kept : P state
  pub answer : S
  pub rest : Toks
  pub read : Answers text c (m state) answer rest

-- what m adds to a state with P has P too, if the code saw nothing outside; it then stands behind it
abbrev pub Keeps : {S : Type 0} (text : List ℕ) (c : Cursor) (m : S → Reader S) (P : S → Type 0) → Option Cursor → Type 0
Keeps {S} text c m P r = IfSome r (λ d. (s a : S) (us : Toks) → P s → Answers text c (m s) a us → Behind text d us × P a)
