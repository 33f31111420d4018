use Rattle.grants.proofs.Texts.{Ungranted}
use Rattle.grants.proofs.granted.Given as goal

abbrev pub invariant-loop-k : goal.invariant-loop-k
invariant-loop-k l =
    Ungranted l.ground.declared.text.now l.ground.declared.places.now l.ground.declared.lists.now l.ground.declared.tplaces.now l.ground.waves.now l.ground.declared.book.now l.ground.declared.rows.now l.list l.ground.declared.known l.ground.signals l.listed l.patterns l.k l.marks l.sums l.all
