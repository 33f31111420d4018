-- `keywords` meets its contract. The invariant: those up to number i are stored, and the others are looked for from here on.
use native.Mathlib.Omega.{arith}
use Rattle.index.proofs.Scanning.{keys_begin, keys_next, keys_all}
use Rattle.index.proofs.keywords.Goals as goal

pub loop-i-init : goal.loop-i-init
loop-i-init c = keys_begin _ _ c.args.keys.now _ _ c.cursor_at-c.ensures

pub overflow_mul-i : goal.overflow_mul-i
overflow_mul-i c = omega (arith, c.loop-i-test.true, c.requires.1)

pub bounds-keys-i : goal.bounds-keys-i
bounds-keys-i c = omega (arith, c.loop-i.auto.keys, c.loop-i-test.true, c.requires.0, c.requires.1)

pub loop-i-preserved : goal.loop-i-preserved
loop-i-preserved c = keys_next _ _ c.loop-i.keys _ _ c.loop-i.c _ c.loop-i-test.true (omega (arith, c.loop-i.auto.keys, c.loop-i-test.true, c.requires.0, c.requires.1)) c.loop-i.invariant (rw c.number_at.ensures at c.keyword_before-k.ensures)

pub returns : goal.returns
returns c = keys_all _ _ c.loop-i.keys c.args.patterns c.loop-i.i c.loop-i.c (omega arith) c.loop-i.invariant
