-- `times_listed` meets its contract. The invariant: those of the name up to number k are counted.
use native.Mathlib.Omega.{arith}
use Rattle.index.proofs.Left.{next_named, next_fits}
use Rattle.fails.proofs.Listing.{seen_none, seen_next, seen_all}
use Rattle.fails.proofs.times_listed.Goals as goal

-- src/lib.rt:103:5
pub loop-k-init : goal.loop-k-init
loop-k-init c = λ ps run h. seen_none h _

-- src/lib.rt:104:13
pub listed_at-s-requires : goal.listed_at-s-requires
listed_at-s-requires c =
    let h = c.requires.lists in
    record { decls = _; decl = _; named = next_named h c.loop-k-test.true (c.loop-k.invariant _ _ h).left }

-- src/lib.rt:107:9
pub overflow_add-reached : goal.overflow_add-reached
overflow_add-reached c =
    let h = c.requires.lists in
    record { fits = omega (arith, next_fits h c.loop-k-test.true (c.loop-k.invariant _ _ h).left c.listed_at-s.ensures) }

-- src/lib.rt:108:9
pub overflow_add-k : goal.overflow_add-k
overflow_add-k c = record { fits = omega (arith, c.loop-k-test.true, c.requires.lists.few_listed) }

-- src/lib.rt:103:5
pub loop-k-smaller : goal.loop-k-smaller
loop-k-smaller c = omega (arith, c.loop-k-test.true)

-- src/lib.rt:103:5
pub loop-k-preserved : goal.loop-k-preserved
loop-k-preserved c = λ ps run h. seen_next h _ (c.loop-k.invariant ps run h) c.loop-k-test.true c.listed_at-s.ensures c.name_bytes.ensures c.equal-here.ensures c.more_times-t.ensures

-- src/lib.rt:85:1
pub returns : goal.returns
returns c = λ ps run h. seen_all h _ (c.loop-k.invariant ps run h) c.loop-k-test.false
