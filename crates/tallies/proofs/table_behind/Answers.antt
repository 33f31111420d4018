-- By the two kinds of byte: a table's number, and any other.
use native.Mathlib.Omega.{arith}
use Rattle.pins.specs.Shown.{table_of}
use Rattle.tallies.proofs.Entering.{table_chosen, table_before}
use Rattle.tallies.proofs.table_behind.Goals as goal

pub returns-then-k-lt-TABLES : goal.returns-then-k-lt-TABLES
returns-then-k-lt-TABLES c = let a = c.args in (table_chosen a.sums.now a.r c.byte-k.ensures (table_of a.table) c.if-k-lt-TABLES.true, λ h. omega arith)

pub returns : goal.returns
returns c = let a = c.args in (table_before a.sums.now a.r c.byte-k.ensures (table_of a.table) c.if-k-lt-TABLES.false, λ h. h)
