use Rattle.crossings.specs.Rows.{clock_of}
use Rattle.crossings.proofs.Turning.{After}
use Rattle.crossings.proofs.vectors.Given as goal

abbrev pub invariant-loop : goal.invariant-loop
invariant-loop l = After l.text l.given (clock_of l.times) l.signals l.level l.table l.place l.t l.used l.initial.values l.initial.feeds l.initial.seen l.counter l.values l.feeds l.seen
