use Rattle.pens.specs.Pens.{Writes}
use Rattle.timings.proofs.Writing.{events_to}
use Rattle.timings.proofs.entry.Given as goal

abbrev pub invariant-loop-i : goal.invariant-loop-i
invariant-loop-i l = Writes l.initial.page l.initial.p (events_to l.times l.letters l.i) l.page l.p
