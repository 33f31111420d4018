use Rattle.pins.proofs.Turns.{Done}
use Rattle.pins.proofs.Rows.{Back}
use Rattle.pins.proofs.come_back.Given as goal

abbrev pub invariant-loop-s : goal.invariant-loop-s
invariant-loop-s l = Done (Back l.initial.values l.at) l.s l.initial.values l.values
