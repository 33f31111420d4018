-- What a folded text has in common with the text that it was folded from (request 11): "the same rows and waveforms".
use Rattle.std.specs.Prelude.{ℕ, ◌≡◌, List, [], ◌∷◌, length}
use Rattle.tokens.specs.Tokens.{Tok}
use Rattle.meaning.specs.Timing.{Tables}
use Rattle.meaning.specs.Run.{Cycle, cycles_of}
use Rattle.meaning.specs.Meaning.{Answer, given, answering, Meaning, meaning, firsts}
use Rattle.meaning.specs.Services.{Window, window, waveform}
use Rattle.folded.specs.Flat.{directed}

-- the names of some tokens, without their places
unfoldable pub words_of : List Tok → List (List ℕ)
words_of [] = []
words_of (t ∷ ts) = t.word ∷ words_of ts

unfoldable pub periods_of : Tables → List ℕ
periods_of [] = []
periods_of (x ∷ xs) = x.1.period ∷ periods_of xs

-- cycles without the places of their V's: the table and each pin
unfoldable pub placeless : List Cycle → List Cycle
placeless [] = []
placeless (c ∷ cs) = record { at = 0; table = c.table; pins = c.pins } ∷ placeless cs

-- a window without its visits: how many rows, and every byte of the buffer; or its refusal
unfoldable pub shown : Answer Window → Answer (ℕ × List ℕ)
shown a = answering a λ w. given (w.count, w.buffer)

-- THE PROMISE: the bytes `folded` are a text too, with the same names in the same order, and the same answers of Waveform and Window
pub record Same (text folded : List ℕ) : Type 0 where
  pub from : Meaning
  pub to : Meaning
  -- both are accepted
  pub was : meaning text ≡ given from
  pub is : meaning folded ≡ given to
  -- the same signals and tables, with their directions and periods
  pub signals : words_of to.signals ≡ words_of from.signals
  pub directions : directed folded to.signals ≡ directed text from.signals
  pub tables : words_of (firsts to.tables) ≡ words_of (firsts from.tables)
  pub periods : periods_of to.tables ≡ periods_of from.tables
  -- the same cycles in run order
  pub cycles : placeless (cycles_of (length to.signals) to.run) ≡ placeless (cycles_of (length from.signals) from.run)
  -- whatever is asked for: the same events or the same refusal, and the same rows or the same refusal, in any buffers
  pub waveforms : (table signal character : ℕ) (times letters : List ℕ) → waveform folded table signal character times letters ≡ waveform text table signal character times letters
  pub windows : (first wanted mark : ℕ) (buffer : List ℕ) → shown (window folded first wanted mark buffer) ≡ shown (window text first wanted mark buffer)
