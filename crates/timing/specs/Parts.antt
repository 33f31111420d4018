-- Parts of the definition's readers, as the code's functions read them.
use Rattle.std.specs.Prelude.{ℕ, suc, ◌≤◌, ◌≡◌, true, not, ◌||◌, List, length, leb}
use Rattle.tokens.specs.Tokens.{Tok}
use Rattle.meaning.specs.Bounds.{entry_most}
use Rattle.meaning.specs.Refusals.{too_many, bad_waveform, bad_data}
use Rattle.meaning.specs.Lists.{repeats}
use Rattle.meaning.specs.Reader.{Reader, ◌>>=◌, ◌>>◌, refuse_if, due, word, until}
use Rattle.meaning.specs.Timing.{Wave, Tables, quoted, all_chars, taken, entry, waveforms}
use Rattle.meaning.specs.Signals.{Names}
use Rattle.words.specs.declared.Cursor.{Cursor}
use Rattle.words.specs.Cursor.{alive, ahead, Goes}
use Rattle.timing.specs.Makes.{Brings}
use Rattle.timing.specs.Marks.{Marks}

-- CHARS, and what follows them
unfoldable pub chars_then : List ℕ → List Wave → (Tok → Reader (List Wave)) → Reader (List Wave)
chars_then sigs ws k = do
  t ← word
  refuse_if (leb (suc entry_most) (length t.word)) too_many t.at
  refuse_if (repeats t.word || taken sigs t.word ws) bad_waveform t.at
  refuse_if (not (all_chars t.word)) bad_data t.at
  k t

-- they are read, and where reading goes on they are the word ahead, not too many, and letters and digits
pub record Chars (text : List ℕ) (c : Cursor) (sigs table : List ℕ) (r : Cursor) : Type 0 where
  pub brings : (ws : List Wave) → Marks table ws → (k : Tok → Reader (List Wave)) → Brings text c (chars_then sigs ws k) r (k (ahead text c))
  pub token : alive r ≡ true → Goes text c word r (ahead text c)
  pub few : alive r ≡ true → length (ahead text c).word ≤ entry_most
  pub good : alive r ≡ true → all_chars (ahead text c).word ≡ true

-- the entries of a name, up to its closing brace
abbrev pub entries : List ℕ → List Wave → Reader (List Wave)
entries sigs ws = until "}" (entry sigs) ws

-- all names of a table, up to their closing brace
abbrev pub block : Names → List Wave → Reader (List Wave)
block ns ws = until "}" (waveforms ns) ws

-- what stands between a table's name and its waveforms, and what follows
unfoldable pub head_then : (ℕ → Reader Tables) → Reader Tables
head_then k = do
  due "{"
  due "Period"
  n ← quoted 1
  due ";"
  due "Waveforms"
  due "{"
  k n
