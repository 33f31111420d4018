-- `find_any` meets its contract. The invariant: what is found among all names is what is found from number i on.
use mathlib.Core.Path.{sym, ◌∙◌}
use native.Mathlib.Omega.{arith}
use borrow.Author.Tests.{lt-ltb, le-ltb}
use Rattle.words.proofs.Tables.{found_all, found_here, found_later, found_nowhere}
use Rattle.words.proofs.find_any.Goals as goal

pub loop-i-init : goal.loop-i-init
loop-i-init c = found_all _ _ _ _

pub returns-then-equal : goal.returns-then-equal
returns-then-equal c =
    let here = found_here c.args.text.now c.args.places.now c.args.w.now c.args.count c.loop-i.i in
    rw (lt-ltb _ _ c.loop-i-test.true) (sym (c.loop-i.invariant ∙ here c.loop-i-test.true (cc)))

pub loop-i-preserved : goal.loop-i-preserved
loop-i-preserved c =
    let later = found_later c.args.text.now c.args.places.now c.args.w.now c.args.count c.loop-i.i in
    c.loop-i.invariant ∙ later c.loop-i-test.true (cc)

pub returns : goal.returns
returns c =
    let count = c.args.count in
    rw (le-ltb count count (omega arith)) (sym (c.loop-i.invariant ∙ found_nowhere _ _ _ _ _ c.loop-i-test.false))
