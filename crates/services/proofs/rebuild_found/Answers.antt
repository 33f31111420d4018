-- `rebuild_found` meets its contract: 17 or 25, or the index and its holder from the tables.
use Rattle.tokens.proofs.Results.{handed_on}
use Rattle.index.proofs.Names.{tables_short}
use Rattle.index.proofs.Lists.{lists_are}
use Rattle.services.proofs.Indexing.{rebuild_stands}
use Rattle.services.proofs.rebuild_found.Goals as goal

pub returns-in_err-failing : goal.returns-in_err-failing
returns-in_err-failing c = rw (handed_on c.from_residual.result _ c.from_residual.ensures.1) (c.in_err-failing.ensures _ c.requires.0.found)

pub holder-holder-requires : goal.holder-holder-requires
holder-holder-requires c = record { decls = _; run = _; lists = lists_are c.requires.0.found }

pub write-length-requires : goal.write-length-requires
write-length-requires c =
    let found = c.requires.0.found in
    (record { decls = _; run = _; lists = lists_are found }, c.requires.1, found.tabled.held.few, tables_short found)

pub returns : goal.returns
returns c =
    let found = c.requires.0.found in
    let lists = lists_are found in
    rebuild_stands found (c.in_ok-failing.ensures _ found) (c.write-length.ensures _ _ lists) (c.holder-holder.ensures _ _ lists)
