-- `chain` meets its contract: as many bytes of each end are looked at as the definition looks at.
use native.Mathlib.Omega.{arith}
use Rattle.words.proofs.Chains.{by_eight, by_four, by_two, by_one, by_none}
use Rattle.words.proofs.chain.Goals as goal

pub returns-then-n-ge8 : goal.returns-then-n-ge8
returns-then-n-ge8 c =
    let w = c.args.w.now in
    by_eight w (omega arith) c.eight.ensures c.eight-then-n-ge8.ensures c.mixed.ensures

pub returns-then-n-ge4 : goal.returns-then-n-ge4
returns-then-n-ge4 c =
    let w = c.args.w.now in
    by_four w (omega arith) (omega arith) c.four.ensures c.four-then-n-ge4.ensures c.mixed-then-n-ge4.ensures

pub returns-then-n-ge2 : goal.returns-then-n-ge2
returns-then-n-ge2 c =
    let w = c.args.w.now in
    by_two w (omega arith) (omega arith) c.two.ensures c.two-then-n-ge2.ensures c.mixed-then-n-ge2.ensures

pub returns-then-n-eq0 : goal.returns-then-n-eq0
returns-then-n-eq0 c = by_none _ c.if-n-eq0.true

pub returns : goal.returns
returns c =
    let w = c.args.w.now in
    by_one w (omega arith) c.from-b.ensures c.mixed-2.ensures
