use Rattle.rows.proofs.Showing.{Showed}
use Rattle.rows.proofs.put_row.Given as goal

abbrev pub invariant-loop-s : goal.invariant-loop-s
invariant-loop-s l = Showed l.mark l.values l.initial.part l.s l.part
