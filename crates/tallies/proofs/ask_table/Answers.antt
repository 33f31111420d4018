-- By the table in force: none yet, one that is not fine for the body, or one that is.
use mathlib.Core.Path.{sym, ◌∙◌}
use mathlib.Core.Bool.{true≢false}
use Rattle.tallies.proofs.Grown.{fine_read, more_none, more_then}
use Rattle.tallies.proofs.Others.{other_sum}
use Rattle.tallies.proofs.Asking.{tabled_before, tabled_by}
use Rattle.tallies.proofs.ask_table.Goals as goal

pub returns-then-t-ge-TABLES : goal.returns-then-t-ge-TABLES
returns-then-t-ge-TABLES c =
    let t = c.need_table-t.ensures in
    (more_then t.0 c.narrow.ensures.0, tabled_before t.1 c.narrow.ensures.0 c.if-t-ge-TABLES.true (λ j e. sym ((other_sum t.0.only _ c.requires.2).fine j) ∙ c.narrow.ensures.1 j e))

pub returns-then-byte-eq0 : goal.returns-then-byte-eq0
returns-then-byte-eq0 c =
    let t = c.need_table-t.ensures in
    (more_then t.0 c.spoil.ensures.0, tabled_by t.1 c.spoil.ensures.0 c.if-t-ge-TABLES.false (λ b. absurd (true≢false (sym c.spoil.ensures.1 ∙ b))))

pub returns-else-byte-eq0 : goal.returns-else-byte-eq0
returns-else-byte-eq0 c =
    let t = c.need_table-t.ensures in
    (t.0, tabled_by t.1 more_none c.if-t-ge-TABLES.false (λ b. fine_read t.0.only _ c.need_table-t.result c.requires.2 c.if-t-ge-TABLES.false c.byte.ensures c.if-byte-eq0.false))
