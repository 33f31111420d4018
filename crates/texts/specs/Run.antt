-- What the code says of the run: a refusal, or the run's measure.
use Rattle.std.specs.Prelude.{ℕ, ◌≡◌, List, length, Result, Ok, Err}
use Rattle.tokens.specs.Tokens.{toks}
use Rattle.tokens.specs.declared.Refusal.{Refusal}
use Rattle.meaning.specs.Reader.{ok, refuse}
use Rattle.meaning.specs.Body.{Body}
use Rattle.meaning.specs.Document.{Read, document}
use Rattle.meaning.specs.Meaning.{Answer, given, refused}
use Rattle.words.specs.Cursor.{stream}
use Rattle.measures.specs.declared.Measure.{Measure}
use Rattle.measures.specs.Measures.{Measures}
use Rattle.measures.specs.Book.{first_pattern, Entry, Listed}
use Rattle.bursts.specs.Listed.{listed_in}
use Rattle.texts.specs.Texts.{Sound}
use Rattle.texts.specs.declared.Parts.{Parts}

-- an answer of which the code has the measure of a run, or the refusal
abbrev pub Tells : {A : Type 0} → Answer A → (Body → A) → Result Measure Refusal → Type 0
Tells a f (Ok m) = (b : Body) × (a ≡ given (f b)) × Measures b m
Tells a f (Err r) = a ≡ refused r.no r.place

-- a text that was read, with its run
abbrev pub sound_of : Read → Body → Sound
sound_of d b = record { read = d; run = b }

-- the text d was read to the cursor; the list has its listed names, and the book its patterns
pub record Recorded (text book list : List ℕ) (r : Parts) (d : Read) : Type 0 where
  pub read : document (toks text 0) ≡ ok d (stream text r.cursor)
  pub listed_are : d.listed ≡ listed_in text list r.listed
  pub patterns_are : Listed (Entry text book) first_pattern d.patterns
  pub patterns_counted : length d.patterns ≡ r.patterns

-- it was, or reading was refused
pub record ReadAs (text book list : List ℕ) (r : Parts) (d : Read) : Type 0 where
  pub refuses : (r.cursor.no ≡ 0 → ⊥) → document (toks text 0) ≡ refuse r.cursor.no r.cursor.at
  pub reads : r.cursor.no ≡ 0 → Recorded text book list r d
