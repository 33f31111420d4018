use Rattle.pins.proofs.Turns.{Refilled}
use Rattle.pins.proofs.Supplying.{Begun}
use Rattle.pins.proofs.supply.Given as goal

abbrev pub invariant-loop-s : goal.invariant-loop-s
invariant-loop-s l = Refilled (Begun l.given l.args) l.level l.s l.initial.feeds l.feeds
