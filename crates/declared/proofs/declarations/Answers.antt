-- `declarations` meets its contract: the parts one after the other, and the marks are over signals that have them.
use Rattle.words.proofs.Flow.{then, given, alive_before}
use Rattle.declared.specs.Declarations.{declarations}
use Rattle.declared.proofs.Below.{names_below}
use Rattle.declared.proofs.declarations.Goals as goal

pub timing-t-requires : goal.timing-t-requires
timing-t-requires c =
    let names = c.front-f.ensures in
    let blank = c.requires in
    record {
      tplaces_len = (blank.tables, blank.marks, names.sized);
      by_index = blank.unset;
      all_below = λ on. (names_below names on, names.chained on);
    }

pub returns : goal.returns
unfolding declarations
returns c =
    let tables = c.timing-t.ensures in
    let names = c.front-f.ensures in
    record {
      it = tables.it;
      goes = then _ c.version-v.ensures (then _ names.goes (then _ tables.goes given));
      held = λ h. (tables.held h).held;
      watched = λ h. (tables.held h).watched;
      sized = names.sized;
      chained = λ h. names.chained (alive_before tables.goes h);
    }
