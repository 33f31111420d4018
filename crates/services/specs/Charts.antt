-- Waveforms by the list: what the service promises of its answer and its three buffers.
use Rattle.std.specs.Prelude.{ℕ, ◌≡◌, List, Result, Ok, Err}
use Rattle.std.proofs.Math.Option.{none, some}
use Rattle.meaning.specs.Meaning.{Answer, given, refused}
use Rattle.meaning.specs.Charts.{Chart}
use Rattle.verdicts.specs.Buffers.{afterwards}
use Rattle.services.specs.declared.Undrawn.{Undrawn}
use Rattle.services.specs.declared.Undrawn.TheVariants.{Stopped, Refused}

-- what is told of it: all events; the first refusal and how many were served before; or a refusal before any of them
abbrev pub charted_of : Answer Chart → Result ℕ Undrawn
charted_of (given x) = elim x.stopped [ none ↦ Ok x.events | some q ↦ Err (Stopped (record { no = q.0; place = q.1 }) x.served) ]
charted_of (refused n p) = Err (Refused (record { no = n; place = p }))

-- THE PROMISE of the service, whose answer is a: what served calls wrote is in the three buffers; refused before any, they are as they were
pub record Plots (a : Answer Chart) (times times' letters letters' counts counts' : List ℕ) (r : Result ℕ Undrawn) : Type 0 where
  pub answers : r ≡ charted_of a
  pub times_are : times' ≡ afterwards (λ x. x.times) a times
  pub letters_are : letters' ≡ afterwards (λ x. x.letters) a letters
  pub counts_are : counts' ≡ afterwards (λ x. x.counts) a counts
