-- What serving waveforms of an accepted text promises: one, and a list of them.
use Rattle.std.specs.Prelude.{ℕ, ◌≡◌, List, [], ◌∷◌, Option as Maybe, None, Some, Result, Ok, Err}
use Rattle.std.proofs.Math.Option.{Option, none, some}
use Rattle.meaning.specs.Meaning.{Answer, given, refused, table_at, Meaning, meaning}
use Rattle.meaning.specs.Timing.{uncounted}
use Rattle.meaning.specs.Services.{bits_of, Waveform}
use Rattle.meaning.specs.Charts.{Chart}
use Rattle.timing.specs.Watch.{Watched}
use Rattle.timing.specs.declared.Watch.{Watch}
use Rattle.charts.specs.declared.Served.{Served}

-- times that were counted, as they are told
unfoldable pub told_all : List ℕ → List ℕ
told_all [] = []
told_all (t ∷ ts) = bits_of (uncounted t) ∷ told_all ts

-- a text that no refusal of 1 to 17 or 25 meets
pub record Accepted (text : List ℕ) : Type 0 where
  pub meant : Meaning
  pub is : meaning text ≡ given meant

-- of an accepted text, the watched waveform is where it is said to be
pub record Sights (text : List ℕ) (w : Watch) (sight : Maybe ℕ) : Type 0 where
  pub watched : (m : Meaning) → meaning text ≡ given m → Watched text w sight (table_at m.tables w.table)

-- THE PROMISE of one call, whose answer is a: it is refused, and both buffers are as they were; or they are those of the answer
pub record Outlines (a : Answer Waveform) (times times' letters letters' : List ℕ) (r : Result ℕ ℕ) : Type 0 where
  pub refuses : (n : ℕ) → r ≡ Err n → (a ≡ refused n 0) × (times' ≡ times) × (letters' ≡ letters)
  pub gives : (n : ℕ) → r ≡ Ok n → a ≡ given (record { count = n; times = times'; letters = letters' })

-- the refusal that stopped the calls, if one did
abbrev pub stopped_by : Maybe ℕ → Option (ℕ × ℕ)
stopped_by None = none
stopped_by (Some n) = some (n, 0)

-- THE PROMISE of a list's calls, which leave x: the answer and all buffers are those of x
pub record Serves (x : Chart) (times' letters' counts' : List ℕ) (r : Served) : Type 0 where
  pub is : x ≡ record {
    stopped = stopped_by r.stopped;
    served = r.served;
    events = r.events;
    times = times';
    letters = letters';
    counts = counts';
  }
