use Rattle.meaning.specs.Body.{Body}
use Rattle.meaning.specs.Statements.{Decls}
use Rattle.index.specs.Lines.{Lists}
use Rattle.index.proofs.Writing.{Wrote}
use Rattle.index.proofs.lines.Given as goal

abbrev pub invariant-loop-k : goal.invariant-loop-k
invariant-loop-k l = (ps : Decls) (run : Body) (h : Lists l.text l.book l.list l.listed l.patterns ps run) → Wrote h l.initial.page l.at l.first l.k l.end l.page
