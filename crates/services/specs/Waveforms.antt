-- The events of a waveform by its numbers, and what the service promises of its answer and its two buffers.
use Rattle.std.specs.Prelude.{ℕ, ◌≤◌, ◌≡◌, List, length, take, Result, Ok, Err}
use Rattle.std.proofs.Math.Option.{none, some}
use Rattle.tokens.specs.declared.Refusal.{Refusal}
use Rattle.meaning.specs.Refusals.{no_such}
use Rattle.meaning.specs.Bounds.{entry_most}
use Rattle.meaning.specs.Timing.{Event}
use Rattle.meaning.specs.Meaning.{Answer, given, refused, answering, table_at, meaning}
use Rattle.meaning.specs.Services.{wave_of, letters_of, Waveform}
use Rattle.waves.specs.Waves.{counts_of}
use Rattle.verdicts.specs.Buffers.{afterwards}
use Rattle.services.specs.Answers.{shaped_of}

-- 1 to 18
unfoldable pub events_of : List ℕ → ℕ → ℕ → ℕ → Answer (List Event)
events_of text k s c = answering (meaning text) λ m. elim (wave_of s c (table_at m.tables k)) [ none ↦ refused no_such 0 | some es ↦ given es ]

-- they stand at the front of two arrays, the times as they are counted
pub record Shows (ts ls : List ℕ) (n : ℕ) (es : List Event) : Type 0 where
  pub count_is : n ≡ length es
  pub few : n ≤ entry_most
  pub times_are : take n ts ≡ counts_of es
  pub letters_are : take n ls ≡ letters_of es

abbrev pub Outlines : List ℕ → (k s c : ℕ) → (ts ls : List ℕ) → Result ℕ Refusal → Type 0
Outlines text k s c ts ls (Ok n) = (es : List Event) × (events_of text k s c ≡ given es) × Shows ts ls n es
Outlines text k s c ts ls (Err r) = events_of text k s c ≡ refused r.no r.place

-- THE PROMISE of the service, whose answer is a: the two buffers are those of the answer, or as they were
pub record Shapes (a : Answer Waveform) (times times' letters letters' : List ℕ) (r : Result ℕ Refusal) : Type 0 where
  pub answers : shaped_of r times' letters' ≡ a
  pub times_are : times' ≡ afterwards (λ w. w.times) a times
  pub letters_are : letters' ≡ afterwards (λ w. w.letters) a letters
