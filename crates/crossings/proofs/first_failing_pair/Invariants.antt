use Rattle.plays.specs.Plays.{arrays}
use Rattle.crossings.specs.Rows.{clock_of}
use Rattle.crossings.proofs.Running.{Unplayed}
use Rattle.crossings.proofs.first_failing_pair.Given as goal

abbrev pub invariant-loop-k : goal.invariant-loop-k
invariant-loop-k l = Unplayed l.ground.declared.text.now l.ground.declared.places.now l.ground.declared.lists.now l.ground.declared.tplaces.now l.ground.waves.now l.ground.declared.book.now l.ground.declared.rows.now l.list l.ground.declared.known l.ground.signals l.listed l.patterns (clock_of l.times) l.k (arrays l.values l.feeds l.args) l.seen
