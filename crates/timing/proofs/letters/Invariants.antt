use Prim.Native.Nat.{ℕ}
use mathlib.Core.List.{List}
use Rattle.meaning.specs.Reader.{ahead, while}
use Rattle.meaning.specs.Timing.{alternative}
use Rattle.words.proofs.Loops.{room}
use Rattle.timing.specs.Events.{Lettered}
use Rattle.timing.proofs.Making.{Looping}
use Rattle.timing.proofs.letters.Given as goal

abbrev pub invariant-loop-d : goal.invariant-loop-d
invariant-loop-d l = (es₀ : List ℕ) → Lettered l.initial.a.n l.initial.a.l es₀ → Looping l.text l.initial.cursor (while (ahead "/") alternative es₀) (ahead "/") alternative l.cursor (Lettered l.a.n l.a.l)

abbrev pub decreases-loop-d : goal.decreases-loop-d
decreases-loop-d l = room l.text l.cursor
