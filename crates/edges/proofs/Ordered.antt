-- What acceptance tells of neighbouring cycles: each pair is in order.
use Prim.Native.Nat.{ℕ}
use mathlib.Core.Path.{◌≡◌}
use mathlib.Core.Option.{Option, none}
use mathlib.Core.List.{List}
use lib.ListN.{length}
use Rattle.meaning.specs.Meaning.{given, Meaning, meaning}
use Rattle.meaning.specs.Edges.{first_in_run}
use Rattle.meaning.proofs.Accepted.{accepted}

-- the first failing pair of a meaning
abbrev pub failing : Meaning → Option ℕ
failing m = first_in_run m.tables (length m.signals) m.run

pub accepted_in_order : (text : List ℕ) (m : Meaning) → meaning text ≡ given m → failing m ≡ none
accepted_in_order text m e = (accepted text m e).pairs
