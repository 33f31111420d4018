use Rattle.pins.proofs.Skipping.{Skipped}
use Rattle.pins.proofs.skip.Given as goal

abbrev pub invariant-loop-s : goal.invariant-loop-s
invariant-loop-s l = Skipped l.text l.given l.initial.feeds l.level l.n l.s l.feeds
