-- Where the entries of a table stand: for each signal and character one more than the place of its CHARS, 0 where it has no waveform.
use Rattle.std.specs.Prelude.{ℕ, zero, suc, ◌+◌, ◌*◌, ◌<◌, ◌≡◌, cond, ◌&&◌, List, length, get_or, Option as Maybe, None, Some}
use Rattle.tokens.specs.Tokens.{Tok}
use Rattle.meaning.specs.Bounds.{signals_most}
use Rattle.meaning.specs.Lists.{has}
use Rattle.meaning.specs.Signals.{Names}
use Rattle.meaning.specs.Timing.{Wave}
use Rattle.meaning.specs.Meaning.{firsts}
use Rattle.words.specs.Table.{names}
use Rattle.signals.specs.Names.{names_most, row_length, list_at, names_of}
use Rattle.timing.specs.Watch.{Watched}
use Rattle.timing.specs.declared.Watch.{Watch}
use Rattle.timing.specs.Marks.{Below}
use Rattle.spots.specs.declared.Scope.{Scope}

-- bytes that a character can be
abbrev pub bytes_most : ℕ
bytes_most = 256

abbrev pub spots_most : ℕ
spots_most = signals_most * bytes_most

-- what stands there for signal s and character b
abbrev pub spot_at : List ℕ → ℕ → ℕ → ℕ
spot_at spots s b = get_or spots (s * bytes_most + b) 0

abbrev pub watch_of : ℕ → ℕ → Watch
watch_of s b = record { table = 0; signal = s; char = b }

-- the sight that a spot tells
abbrev pub sight_of : ℕ → Maybe ℕ
sight_of zero = None
sight_of (suc place) = Some place

-- of these waveforms each is found where its spot says, and none where that is 0
pub record Spots (text spots : List ℕ) (ws : List Wave) : Type 0 where
  pub each : (s b : ℕ) → b < bytes_most → Watched text (watch_of s b) (sight_of (spot_at spots s b)) ws

-- v for each of these signals and characters, and nothing else changed
pub record Stored (before sigs w : List ℕ) (v : ℕ) (after : List ℕ) : Type 0 where
  pub each : (s b : ℕ) → b < bytes_most → spot_at after s b ≡ cond (has s sigs && has b w) v (spot_at before s b)

-- rows of signals, of which each of the first names has its own
pub record Listed (lists : List ℕ) (names : ℕ) : Type 0 where
  pub sized : length lists ≡ names_most * row_length
  pub below : (i : ℕ) → i < names → Below (list_at lists i)

-- the names that waveforms are read with
abbrev pub names_in : Scope → Names
names_in s = names_of s.text.now s.places.now s.lists.now s.names

-- the signals of a text, of which the code has the names
abbrev pub signals_in : List ℕ → List ℕ → ℕ → List Tok
signals_in text places count = firsts (names text places count)
