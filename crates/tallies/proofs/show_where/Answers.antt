-- Under each table, and then under the one in force where its slot is marked.
use Rattle.tallies.proofs.Grown.{more_then}
use Rattle.tallies.proofs.Showing.{shown_all_lem, shown_tables}
use Rattle.tallies.proofs.show_where.Goals as goal

pub returns-then-byte-ne0 : goal.returns-then-byte-ne0
returns-then-byte-ne0 c =
    let y = c.show_tables.ensures in
    let z = c.show_in_force.ensures in
    (more_then y.0 z.0, shown_all_lem c.requires.2 c.requires.3 y.0 y.1 z.0 z.1)

pub returns-else-byte-ne0 : goal.returns-else-byte-ne0
returns-else-byte-ne0 c =
    let y = c.show_tables.ensures in
    (y.0, shown_tables c.requires.2 c.requires.3 y.0 y.1 c.byte.ensures c.if-byte-ne0.false)
