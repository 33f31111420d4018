use Rattle.shifts.proofs.Turning.{After}
use Rattle.shifts.proofs.turns.Given as goal

abbrev pub invariant-loop : goal.invariant-loop
invariant-loop l = After l.text l.given l.initial.values l.initial.feeds l.level l.signals l.table l.t l.initial.counter l.initial.w l.initial.buffer l.counter l.values l.feeds l.w l.buffer
