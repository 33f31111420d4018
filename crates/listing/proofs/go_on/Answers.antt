-- `go_on` meets its contract: the rows that the service Window gives.
use native.Mathlib.Omega.{arith}
use Rattle.listing.proofs.Going.{rows_few, bytes_few, goes_on_rows, goes_on_none}
use Rattle.listing.proofs.go_on.Goals as goal

pub overflow_mul-result : goal.overflow_mul-result
overflow_mul-result c =
    let few = rows_few c.args.text.now c.args.p.first _ _ c.window.ensures c.in-Ok.is in
    omega (arith, bytes_few c.args.p _ c.fitting-n.ensures few.0, c.well_formed)

pub overflow_add-result : goal.overflow_add-result
overflow_add-result c =
    let few = rows_few c.args.text.now c.args.p.first _ _ c.window.ensures c.in-Ok.is in
    omega (arith, few.1)

pub overflow_sub-result : goal.overflow_sub-result
overflow_sub-result c =
    let few = rows_few c.args.text.now c.args.p.first _ _ c.window.ensures c.in-Ok.is in
    omega (arith, c.fitting-n.ensures)

pub returns-in-Err : goal.returns-in-Err
returns-in-Err c =
    let a = c.args in
    goes_on_none a.text.now a.p a.page.now c.fitting-n.ensures c.window.ensures c.in-Err.is c.last.ensures

pub returns-in-Ok : goal.returns-in-Ok
returns-in-Ok c =
    let a = c.args in
    goes_on_rows a.text.now a.p a.page.now c.fitting-n.ensures c.window.ensures c.in-Ok.is
