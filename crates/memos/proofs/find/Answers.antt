-- A row is taken only where it is for this use and this table.
use native.Mathlib.Omega.{arith}
use mathlib.Core.Path.{sym, ◌∙◌}
use Rattle.memos.proofs.find.Goals as goal

pub returns : goal.returns
returns c =
    record {
      row = (c.memo_row-o.ensures.0, c.memo_row-o.ensures.1);
      room = omega arith;
      noted = c.is_noted.ensures c.if-not-is_noted.false;
      before = sym c.from.ensures ∙ c.if-from-table.false;
    }
