-- `data` meets its contract: one character alone is read at once, and all else piece by piece.
use native.Mathlib.Omega.{arith}
use mathlib.Core.Bool.{not}
use lib.ListN.{length}
use borrow.Author.Tests.{ltb-true, not-true}
use Rattle.tokens.specs.Written.{bytes}
use Rattle.tokens.proofs.Bools.{both}
use Rattle.data.proofs.Single.{single_fills}
use Rattle.data.proofs.data.Goals as goal

pub bounds-text-at : goal.bounds-text-at
bounds-text-at c =
    let s = c.is_single.ensures c.if-is_single.true in
    let one = s.one in
    omega (arith, s.inside)

pub bounds-buffer-0 : goal.bounds-buffer-0
bounds-buffer-0 c =
    omega (arith, ltb-true 0 (length c.args.buffer.now) (both (not c.until.result) _ c.if-until-buffer.true).1)

pub returns-then-until-buffer : goal.returns-then-until-buffer
unfolding bytes
returns-then-until-buffer c =
    let tests = both _ _ c.if-until-buffer.true in
    single_fills (c.is_single.ensures c.if-is_single.true) c.args.may c.args.buffer.now (ltb-true _ _ tests.1)
    (omega (arith, c.well_formed))
    c.step-d.ensures
    c.until.ensures
    (not-true _ tests.0)
    c.due-cursor.ensures
