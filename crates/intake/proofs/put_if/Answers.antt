-- `put_if` meets its contract: a byte is stored, or none is.
use native.Mathlib.Omega.{arith}
use Rattle.intake.proofs.Stores.{put_none, put_one}
use Rattle.intake.proofs.put_if.Goals as goal

pub bounds-store-at : goal.bounds-store-at
bounds-store-at c = c.requires c.if-due.true

pub overflow_add-result : goal.overflow_add-result
overflow_add-result c = omega (arith, c.requires c.if-due.true)

pub returns-then-due : goal.returns-then-due
returns-then-due c = put_one _ _ _ _ c.if-due.true (c.requires c.if-due.true)

pub returns : goal.returns
returns c = put_none _ _ _ _ c.if-due.false
