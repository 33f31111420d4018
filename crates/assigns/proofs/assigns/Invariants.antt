use Rattle.words.proofs.Loops.{room}
use Rattle.signals.specs.Names.{names_of}
use Rattle.assigns.proofs.Turns.{Reading}
use Rattle.assigns.proofs.assigns.Given as goal

abbrev pub invariant-loop-given : goal.invariant-loop-given
invariant-loop-given l = Reading l.text l.initial.cursor (names_of l.text l.places l.lists l.names) l.may l.cursor l.given

abbrev pub decreases-loop-given : goal.decreases-loop-given
decreases-loop-given l = room l.text l.cursor
