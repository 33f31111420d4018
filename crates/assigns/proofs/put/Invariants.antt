use mathlib.Core.Path.{◌≡◌}
use lib.ListN.{length}
use Rattle.meaning.specs.Bounds.{signals_most}
use Rattle.sets.proofs.Tidy.{TidyBelow}
use Rattle.signals.specs.Names.{list_at}
use Rattle.assigns.specs.Given.{placed}
use Rattle.assigns.proofs.put.Given as goal

abbrev pub invariant-loop-s : goal.invariant-loop-s
invariant-loop-s l = record {
  long : length l.given ≡ signals_most;
  tidy : TidyBelow signals_most l.s-iterator.a.rest.now;
  left : placed (list_at l.lists l.i) l.buffer l.initial.given ≡ placed l.s-iterator.a.rest.now l.s-iterator.b.rest.now l.given;
}
