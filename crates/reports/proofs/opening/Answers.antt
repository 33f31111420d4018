-- `opening` meets its contract: seven tokens one behind the other, and behind the last of them the report from there on.
use Rattle.tokens.specs.Written.{bytes}
use Rattle.words.proofs.Flow.{then, given, behind_due}
use Rattle.reports.specs.Report.{opening as opening_due}
use Rattle.reports.proofs.opening.Goals as goal

pub returns : goal.returns
unfolding opening_due bytes
returns c =
    record {
      goes =
          then _ c.due-a.ensures
          (then _ c.due-b.ensures
          (then _ c.due-d.ensures
          (then _ c.name-e.ensures
          (then _ c.due-f.ensures
          (then _ c.due-g.ensures
          (then _ c.due-cursor.ensures given))))));
      there = behind_due _ c.due-cursor.ensures;
    }
