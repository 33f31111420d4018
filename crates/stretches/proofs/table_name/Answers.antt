-- `table_name` meets its contract: a name of the text, or none.
use native.Mathlib.Omega.{arith}
use mathlib.Core.Path.{sym, ◌∙◌}
use Rattle.stretches.proofs.Laws.{word_is, word_none}
use Rattle.stretches.proofs.table_name.Goals as goal

pub returns-then-k-tables : goal.returns-then-k-tables
returns-then-k-tables c = c.name_bytes.ensures ∙ sym (word_is c.args.text.now c.args.tplaces.now c.args.tables c.args.k c.if-k-tables.true)

pub returns : goal.returns
returns c = sym (word_none c.args.text.now c.args.tplaces.now c.args.tables c.args.k (omega arith))
