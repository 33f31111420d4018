-- Three stores.
use native.Mathlib.Omega.{arith}
use lib.ListN.{length-set}
use Rattle.crossings.proofs.Storing.{marked}
use Rattle.crossings.proofs.put_marks.Goals as goal

pub bounds-marks-at-2 : goal.bounds-marks-at-2
bounds-marks-at-2 c = simp length-set (omega arith)

pub bounds-marks-at-3 : goal.bounds-marks-at-3
bounds-marks-at-3 c = simp length-set (omega arith)

pub returns : goal.returns
returns c = marked 1 (omega arith)
