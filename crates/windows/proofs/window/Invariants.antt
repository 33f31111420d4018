use Rattle.plays.specs.Plays.{arrays}
use Rattle.windows.proofs.Texts.{Unseen}
use Rattle.windows.proofs.window.Given as goal

abbrev pub invariant-loop-k : goal.invariant-loop-k
invariant-loop-k l =
    Unseen l.ground.declared.text.now l.ground.declared.places.now l.ground.declared.lists.now l.ground.declared.tplaces.now l.ground.waves.now l.ground.declared.book.now l.ground.declared.rows.now l.list l.ground.declared.known l.ground.signals l.listed l.patterns l.size l.first l.due l.budget l.mark l.initial.buffer l.k (arrays l.values l.feeds l.args) l.w l.buffer
