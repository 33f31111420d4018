use mathlib.Core.Path.{◌≡◌}
use lib.ListN.{length}
use Rattle.memos.specs.Memo.{memo_length}
use Rattle.plays.specs.Plays.{arrays}
use Rattle.plays.proofs.Texts.{Unplayed}
use Rattle.plays.proofs.first_failing.Given as goal

abbrev pub invariant-loop-k : goal.invariant-loop-k
invariant-loop-k l = (memo_length ≡ length l.memo) × Unplayed l.ground.declared.text.now l.ground.declared.places.now l.ground.declared.lists.now l.ground.declared.tplaces.now l.ground.waves.now l.ground.declared.book.now l.ground.declared.rows.now l.list l.ground.declared.known l.ground.signals l.listed l.patterns l.marks l.sums l.memo l.k (arrays l.values l.feeds l.args)
