use Rattle.pins.proofs.Advancing.{Least}
use Rattle.pins.proofs.ahead.Given as goal

abbrev pub invariant-loop-s : goal.invariant-loop-s
invariant-loop-s l = Least l.text l.given l.feeds l.waves l.level l.signals l.table l.most l.s l.k
