-- `shown` meets its contract: 17 or 25, or the sections of the text that the tables hold.
use Rattle.index.proofs.Names.{tables_short}
use Rattle.listing.proofs.Beginning.{begins_refused, begins_sections, signals_short}
use native.Mathlib.Omega.{arith}
use Rattle.listing.proofs.shown.Goals as goal

pub returns-in-Err : goal.returns-in-Err
returns-in-Err c = begins_refused c.requires.0 (c.in-Err.ensures _ c.requires.1.found) c.refused.ensures

pub sections-requires : goal.sections-requires
sections-requires c =
    let pre = c.requires in
    let found = pre.1.found in
    (pre.0, found.tabled.few_signals, omega (arith, found.tabled.held), signals_short found, tables_short found)

pub returns-in-Ok : goal.returns-in-Ok
returns-in-Ok c =
    let found = c.requires.1.found in
    begins_sections found c.requires.0 (c.in-Ok.ensures _ found) c.sections.ensures
