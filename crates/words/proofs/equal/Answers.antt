-- `equal` meets its contract. The invariant: the words are equal if their fronts of i bytes are.
use Prim.Native.Nat.{◌-◌}
use mathlib.Core.Path.{sym, ◌∙◌}
use native.Mathlib.Omega.{arith}
use lib.ListN.{length}
use Rattle.words.proofs.Words.{same_long, same_all, same_less, same_differ_there, same_none}
use Rattle.words.proofs.equal.Goals as goal

pub returns-then-n-v : goal.returns-then-n-v
returns-then-n-v c = sym (same_long _ _ c.if-n-v.true)

pub loop-i-init : goal.loop-i-init
loop-i-init c =
    let w = c.args.w.now in
    (omega arith, same_all w c.args.v.now (length w) (omega arith) (omega arith))

pub returns-then-w-i : goal.returns-then-w-i
returns-then-w-i c =
    let w = c.args.w.now in
    let v = c.args.v.now in
    let i = c.loop-i.i in
    sym (c.loop-i.invariant.1 ∙ same_differ_there w v i (i - 1) (omega arith) (omega arith) (omega arith) c.if-w-i.true)

pub loop-i-preserved : goal.loop-i-preserved
loop-i-preserved c =
    let w = c.args.w.now in
    let v = c.args.v.now in
    let i = c.loop-i.i in
    (omega arith, c.loop-i.invariant.1 ∙ same_less w v i (i - 1) (omega arith) (omega arith) (omega arith) c.if-w-i.false)

pub returns : goal.returns
returns c =
    let w = c.args.w.now in
    let v = c.args.v.now in
    sym (c.loop-i.invariant.1 ∙ same_none w v c.loop-i.i c.loop-i-test.false)
