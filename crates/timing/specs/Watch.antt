-- Where one waveform that is wanted stands: the place of the CHARS of the entry that gives it.
use Rattle.std.specs.Prelude.{ℕ, suc, ◌≤◌, ◌≡◌, Bool, true, false, cond, ◌&&◌, List, [], ◌∷◌, length, get_or, eqb, Option as Maybe, None, Some}
use Rattle.std.proofs.Math.Option.{none, some}
use Rattle.tokens.specs.Tokens.{Tok, Toks, toks}
use Rattle.meaning.specs.Bounds.{entry_most}
use Rattle.meaning.specs.Lists.{has}
use Rattle.meaning.specs.Reader.{Reader, ok, ◌>>=◌, ◌>>◌, give, due, word}
use Rattle.meaning.specs.Timing.{Wave, Tables, Events}
use Rattle.meaning.specs.Meaning.{table_at}
use Rattle.meaning.specs.Services.{wave_of}
use Rattle.words.specs.declared.Cursor.{Cursor}
use Rattle.words.specs.Cursor.{alive, stream}
use Rattle.timing.specs.Events.{events}
use Rattle.timing.specs.Marks.{Marks}
use Rattle.timing.specs.Held.{Held}
use Rattle.timing.specs.declared.Watch.{Watch}

-- CHARS and their events
unfoldable pub chars_events : Reader (Tok × Events)
chars_events = do
  t ← word
  due "{"
  es ← events t.word
  give (t, es)

-- the number of a character among some
unfoldable pub number_of : ℕ → List ℕ → ℕ
number_of b [] = 0
number_of b (x ∷ cs) = elim (eqb x b) [ true ↦ 0 | false ↦ suc (number_of b cs) ]

-- at a place stand CHARS, the wanted one among them, and its events are the waveform
pub record Found (text : List ℕ) (w : Watch) (place : ℕ) (ws : List Wave) : Type 0 where
  pub chars : List ℕ
  pub events : Events
  pub behind : Toks
  pub there : chars_events (toks text place) ≡ ok (record { at = place; word = chars }, events) behind
  pub few : length chars ≤ entry_most
  pub among : has w.char chars ≡ true
  pub wave : wave_of w.signal w.char ws ≡ some (get_or events.0 (number_of w.char chars) [])

-- THE PROMISE beside the marks, of the waveforms of the watched table: there is none, or it is found at the place
pub record Watched (text : List ℕ) (w : Watch) (sight : Maybe ℕ) (ws : List Wave) : Type 0 where
  pub no : sight ≡ None → wave_of w.signal w.char ws ≡ none
  pub yes : (place : ℕ) → sight ≡ Some place → Found text w place ws

-- what the code has of all tables
pub record Kept (text tplaces waves : List ℕ) (count : ℕ) (w : Watch) (sight : Maybe ℕ) (it : Tables) : Type 0 where
  pub held : Held text tplaces waves count it
  pub watched : Watched text w sight (table_at it w.table)

-- ---- in a table

-- what the code has of its waveforms: the marks, and where it is the watched table (`here`) the sight
pub record Noted (text : List ℕ) (here : Bool) (w : Watch) (table : List ℕ) (sight : Maybe ℕ) (ws : List Wave) : Type 0 where
  pub marks : Marks table ws
  pub watched : here ≡ true → Watched text w sight ws

-- the sight behind an entry at a place, with these characters for these signals
abbrev pub looked : Watch → Maybe ℕ → List ℕ → List ℕ → ℕ → Maybe ℕ
looked w (Some seen) sigs cs place = Some seen
looked w None sigs cs place = cond (has w.char cs && has w.signal sigs) (Some place) None

-- the tokens from a cursor on are those of the text from some place on
pub record Placed (text : List ℕ) (c : Cursor) : Type 0 where
  pub from : ℕ
  pub there : alive c ≡ true → stream text c ≡ toks text from
