use Rattle.meaning.specs.Body.{Body}
use Rattle.meaning.specs.Statements.{Decls}
use Rattle.index.specs.Lines.{Lists}
use Rattle.index.proofs.Writing.{Unheld}
use Rattle.index.proofs.holder.Given as goal

abbrev pub invariant-loop-number : goal.invariant-loop-number
invariant-loop-number l = (ps : Decls) (run : Body) (h : Lists l.text l.book l.list l.listed l.patterns ps run) → Unheld h l.n l.reached l.number
