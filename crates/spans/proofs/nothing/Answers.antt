-- `nothing` meets its contract: no events.
use mathlib.Core.Path.{refl}
use Rattle.meaning.specs.Edges.{times_in, first_of, last_behind, first_time, last_time}
use Rattle.spans.proofs.nothing.Goals as goal

pub returns : goal.returns
unfolding first_time last_time times_in first_of last_behind
returns c = record { drives = record { first = refl; last = refl }; compares = record { first = refl; last = refl } }
