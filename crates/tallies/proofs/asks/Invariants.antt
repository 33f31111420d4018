use Rattle.tallies.proofs.Fitting.{Asking}
use Rattle.tallies.proofs.asks.Given as goal

abbrev pub invariant-loop-s : goal.invariant-loop-s
invariant-loop-s l = Asking l.text l.waves l.given l.args l.pins l.table l.s l.row l.left
