use lib.ListN.{get_or}
use Rattle.measures.proofs.Changed.{Changed}
use Rattle.measures.proofs.Counted.{counted}
use Rattle.measures.proofs.count_uses.Given as goal

abbrev pub invariant-loop-s : goal.invariant-loop-s
invariant-loop-s l = Changed (λ k n. counted (get_or l.given k 0) n) 0 l.s l.initial.row l.row
