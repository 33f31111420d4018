-- The events of one character, read again where its entry stands.
use Rattle.std.specs.Prelude.{ℕ, ◌≤◌, ◌<◌, ◌≡◌, true, List, [], ◌∷◌, ◌++◌, length, get_or}
use Rattle.tokens.specs.Tokens.{Toks, toks}
use Rattle.meaning.specs.Bounds.{entry_most}
use Rattle.meaning.specs.Lists.{has}
use Rattle.meaning.specs.Reader.{ok}
use Rattle.meaning.specs.Timing.{Event, Events, event}
use Rattle.meaning.specs.Services.{letters_of}
use Rattle.words.specs.Cursor.{alive, stream}
use Rattle.words.specs.declared.Cursor.{Cursor}
use Rattle.data.specs.Filled.{over}
use Rattle.timing.specs.Watch.{chars_events, number_of}
use Rattle.waves.specs.declared.EventRead.{EventRead}

-- at a place stands an entry, and the events of character b in it are es
pub record EntryAt (text : List ℕ) (place b : ℕ) (es : List Event) : Type 0 where
  pub chars : List ℕ
  pub events : Events
  pub behind : Toks
  pub there : chars_events (toks text place) ≡ ok (record { at = place; word = chars }, events) behind
  pub few : length chars ≤ entry_most
  pub among : has b chars ≡ true
  pub is : es ≡ get_or events.0 (number_of b chars) []

-- their times, as they are counted
unfoldable pub counts_of : List Event → List ℕ
counts_of [] = []
counts_of (e ∷ es) = e.time ∷ counts_of es

-- THE PROMISE: they stand at the front of two arrays, times and letters, which have room for all that an entry may have
pub record Reads (es : List Event) (n : ℕ) (times times' letters letters' : List ℕ) : Type 0 where
  pub count : n ≡ length es
  pub few : length es ≤ entry_most
  pub times_are : times' ≡ over (counts_of es) times
  pub letters_are : letters' ≡ over (letters_of es) letters

-- ---- one event

-- r is behind it, and has what it adds to the events of character i
pub record Adds (text : List ℕ) (i : ℕ) (s s' : Events) (us : Toks) (r : EventRead) : Type 0 where
  pub on : alive r.cursor ≡ true
  pub behind : stream text r.cursor ≡ us
  pub is : get_or s'.0 i [] ≡ get_or s.0 i [] ++ record { time = r.time; letter = r.letter } ∷ []

-- wherever the definition reads an event of n characters
pub record OneEvent (text : List ℕ) (c : Cursor) (i : ℕ) (r : EventRead) : Type 0 where
  pub adds : alive c ≡ true → (n : ℕ) (s s' : Events) (us : Toks) → n ≤ entry_most → i < n → length s.0 ≡ n → event n s (stream text c) ≡ ok s' us
      → Adds text i s s' us r
