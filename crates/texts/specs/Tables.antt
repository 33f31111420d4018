-- What the code's tables hold of a text that was read, and what is promised of the readers of whole texts.
use Rattle.std.specs.Prelude.{ℕ, ◌*◌, ◌≤◌, ◌≡◌, List, length, None, Result, Ok, Err}
use Rattle.tokens.specs.Tokens.{Toks, toks}
use Rattle.tokens.specs.declared.Refusal.{Refusal}
use Rattle.meaning.specs.Bounds.{signals_most, tables_most, patterns_most, list_most}
use Rattle.meaning.specs.Reader.{ok, refuse}
use Rattle.meaning.specs.Document.{Read, document}
use Rattle.meaning.specs.Meaning.{given, refused, table_at}
use Rattle.held.proofs.Parts.{Parts as PartsOf}
use Rattle.words.specs.Cursor.{stream}
use Rattle.words.specs.declared.Cursor.{Cursor}
use Rattle.signals.specs.Names.{names_of, AllTidy}
use Rattle.timing.specs.Marks.{table_size}
use Rattle.timing.specs.Held.{Held}
use Rattle.timing.specs.Watch.{Watched}
use Rattle.timing.specs.declared.Watch.{Watch}
use Rattle.measures.specs.Measures.{Measures}
use Rattle.measures.specs.Book.{first_pattern, Entry, Listed}
use Rattle.noted.specs.Known.{AllNoted}
use Rattle.heads.specs.declared.Known.{Known}
use Rattle.heads.specs.Known.{Describes}
use Rattle.bursts.specs.Listed.{listed_in}
use Rattle.texts.specs.Texts.{Sound, sound}
use Rattle.texts.specs.declared.Parts.{Parts}
use Rattle.texts.specs.declared.Verdict.{Verdict}

-- the tables hold the text d
pub record Tabled (text places lists tplaces waves book rows list : List ℕ) (r : Parts) (d : Read) : Type 0 where
  pub rest : Toks
  pub parts : PartsOf (toks text 0) d rest
  pub describes : Describes text places lists tplaces book rows r.known parts.env
  pub held : Held text tplaces waves r.known.tables d.tables
  pub waves_long : length waves ≡ tables_most * table_size
  pub signals_are : d.signals ≡ names_of text places lists r.signals
  pub few_signals : r.signals ≤ signals_most
  pub some_signal : 1 ≤ r.signals
  -- every name stands for signals that differ, and are the text's
  pub tidy : AllTidy r.signals parts.env.names
  pub listed_are : d.listed ≡ listed_in text list r.listed
  pub few_listed : r.listed ≤ list_most
  pub patterns_are : Listed (Entry text book) first_pattern d.patterns
  pub patterns_counted : length d.patterns ≡ r.patterns
  pub few_patterns : r.patterns ≤ patterns_most

-- nothing of it was read
abbrev pub stopped_at : Cursor → Known → Parts
stopped_at c known = record { cursor = c; signals = 0; known = known; listed = 0; patterns = 0; sight = None }

-- THE PROMISE of the function that reads a whole text: it was refused, or the tables hold it, and the watched waveform is where it is said to be
pub record Reads (text : List ℕ) (w : Watch) (places lists tplaces waves book rows list : List ℕ) (r : Parts) : Type 0 where
  pub refuses : (r.cursor.no ≡ 0 → ⊥) → document (toks text 0) ≡ refuse r.cursor.no r.cursor.at
  pub reads : r.cursor.no ≡ 0
      → (d : Read)
      × (document (toks text 0) ≡ ok d (stream text r.cursor))
      × Tabled text places lists tplaces waves book rows list r d
      × Watched text w r.sight (table_at d.tables w.table)

-- beside it: all that the patterns of a text assign is noted
pub record NotesRead (text used : List ℕ) (r : Parts) : Type 0 where
  pub noted : r.cursor.no ≡ 0 → (d : Read) (us : Toks) → document (toks text 0) ≡ ok d us → AllNoted r.known.tables used d.patterns

-- a text that 1 to 16 leave, with the tables that hold it and the measure of its run
pub record Found (text : List ℕ) (w : Watch) (places lists tplaces waves book rows list : List ℕ) (r : Verdict) : Type 0 where
  pub it : Sound
  pub is : sound text ≡ given it
  pub tabled : Tabled text places lists tplaces waves book rows list r.parts it.read
  pub measured : Measures it.run r.total
  pub watched : Watched text w r.parts.sight (table_at it.read.tables w.table)

-- all that its patterns assign is noted
pub record NotesSound (text used : List ℕ) (r : Verdict) : Type 0 where
  pub noted : (x : Sound) → sound text ≡ given x → AllNoted r.parts.known.tables used x.read.patterns

-- THE PROMISE of the function that decides 1 to 16 and fills the tables
abbrev pub Decides : (text : List ℕ) → Watch → (places lists tplaces waves book rows list used : List ℕ) → Result Verdict Refusal → Type 0
Decides text w places lists tplaces waves book rows list used (Ok v) = Found text w places lists tplaces waves book rows list v × NotesSound text used v
Decides text w places lists tplaces waves book rows list used (Err r) = sound text ≡ refused r.no r.place
