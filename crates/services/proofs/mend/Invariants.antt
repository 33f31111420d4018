use Rattle.saving.proofs.Spaces.{inked}
use Rattle.saving.proofs.Mending.{Mending}
use Rattle.services.proofs.mend.Given as goal

abbrev pub invariant-loop-hurt : goal.invariant-loop-hurt
invariant-loop-hurt l = Mending l.initial.text l.text l.initial.spans l.spans l.count

abbrev pub decreases-loop-hurt : goal.decreases-loop-hurt
decreases-loop-hurt l = inked l.text
