-- `counted` meets its contract: its four pieces are a section's first line.
use native.Mathlib.Omega.{arith}
use Rattle.pages.proofs.Laws.{decimal_short}
use Rattle.sections.proofs.Laws.{counted_adds}
use Rattle.sections.proofs.counted.Goals as goal

pub put-requires : goal.put-requires
put-requires c =
    omega (arith, decimal_short c.args.n, c.put_number-end, c.put-end-2, c.put-end, c.requires)

pub returns : goal.returns
returns c =
    counted_adds c.args.word.now c.args.n c.put-end.ensures c.put-end-2.ensures c.put_number-end.ensures c.put.ensures
