-- `count` meets its contract: three tests, each counted as a byte.
use mathlib.Core.Bool.{not, ◌&&◌}
use lib.Dec.{eqb}
use Rattle.intake.proofs.Bytes.{two_small, three_small, counted_adds}
use Rattle.intake.proofs.count.Goals as goal

pub overflow_add-result : goal.overflow_add-result
overflow_add-result c =
    let args = c.args in
    record { fits = two_small (args.c.mark && not (eqb args.run 0)) args.c.slash }

pub overflow_add-result-2 : goal.overflow_add-result-2
overflow_add-result-2 c =
    let args = c.args in
    record { fits = three_small (args.c.mark && not (eqb args.run 0)) args.c.slash args.c.kept }

pub returns : goal.returns
returns c = λ b. counted_adds _ b c.args.c
