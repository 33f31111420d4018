use lib.ListN.{length}
use Rattle.stretches.specs.Rows.{words_in}
use Rattle.stretches.specs.Folding.{Onward}
use Rattle.stretches.proofs.Writing.{values_from}
use Rattle.stretches.proofs.vector.Given as goal

abbrev pub invariant-loop-s : goal.invariant-loop-s
invariant-loop-s l = Onward l.initial.page l.initial.p (values_from (words_in l.text l.places (length l.pins)) 0 l.pins) l.page l.p (values_from (words_in l.text l.places (length l.pins)) l.s l.pins)
