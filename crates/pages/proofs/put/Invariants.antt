use Rattle.pages.proofs.Turns.{Copied}
use Rattle.pages.proofs.put.Given as goal

abbrev pub invariant-loop-i : goal.invariant-loop-i
invariant-loop-i l = Copied l.initial.page l.at l.bytes l.i l.page
