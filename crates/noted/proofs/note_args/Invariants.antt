use Rattle.noted.proofs.Marking.{NotingArgs}
use Rattle.noted.proofs.note_args.Given as goal

abbrev pub invariant-loop-s : goal.invariant-loop-s
invariant-loop-s l = NotingArgs l.text l.given l.args l.s l.initial.used l.used
