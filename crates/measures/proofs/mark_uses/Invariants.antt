use lib.ListN.{get_or}
use Rattle.meaning.specs.Bounds.{signals_most}
use Rattle.measures.proofs.Changed.{Changed}
use Rattle.measures.proofs.Counted.{shown}
use Rattle.measures.proofs.mark_uses.Given as goal

abbrev pub invariant-loop-s : goal.invariant-loop-s
invariant-loop-s l = Changed (λ k n. shown (get_or l.given k 0) n) signals_most l.s l.initial.row l.row
