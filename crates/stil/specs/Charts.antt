-- Waveforms by the list: what callers in C get.
use Rattle.std.specs.Prelude.{ℕ, ◌≡◌, List, [], ◌∷◌, Result, Ok, Err}
use Rattle.meaning.specs.Meaning.{Answer}
use Rattle.meaning.specs.Charts.{Chart}
use Rattle.texts.specs.Told.{packed_refusal}
use Rattle.verdicts.specs.Buffers.{afterwards}
use Rattle.services.specs.Charts.{charted_of}
use Rattle.services.specs.declared.Undrawn.{Undrawn}
use Rattle.services.specs.declared.Undrawn.TheVariants.{Stopped, Refused}
use Rattle.stil.specs.Interface.{with_room, fronted}

-- the returned number: 0 where all were served, or a refusal, also that of the first refused
abbrev pub chart_number : Result ℕ Undrawn → ℕ
chart_number (Ok e) = 0
chart_number (Err (Stopped r s)) = packed_refusal r.no r.place
chart_number (Err (Refused r)) = packed_refusal r.no r.place

-- and one number beside it: all events, or how many were served
abbrev pub chart_told : Result ℕ Undrawn → List ℕ → List ℕ
chart_told (Ok e) numbers = fronted (e ∷ []) numbers
chart_told (Err (Stopped r s)) numbers = fronted (s ∷ []) numbers
chart_told (Err (Refused r)) numbers = numbers

pub record Sketches (a : Answer Chart) (times times' letters letters' counts counts' numbers : List ℕ) (r : ℕ) (numbers' : List ℕ) : Type 0 where
  pub number : r ≡ chart_number (charted_of (with_room 1 numbers a))
  pub told : numbers' ≡ chart_told (charted_of (with_room 1 numbers a)) numbers
  pub times_are : times' ≡ afterwards (λ x. x.times) (with_room 1 numbers a) times
  pub letters_are : letters' ≡ afterwards (λ x. x.letters) (with_room 1 numbers a) letters
  pub counts_are : counts' ≡ afterwards (λ x. x.counts) (with_room 1 numbers a) counts
