-- Each turn looks at the next signal.
use native.Mathlib.Omega.{arith}
use mathlib.Core.Path.{sym, ap}
use mathlib.Core.Bool.{not}
use Rattle.crossings.proofs.Ordering.{first_none, second_none, looked_none, looked_next, looked_fails, looked_all}
use Rattle.crossings.proofs.in_order.Goals as goal

pub returns-then-j-ge-TABLES : goal.returns-then-j-ge-TABLES
returns-then-j-ge-TABLES c = λ tabs h p q. sym (first_none tabs c.args.signals p c.args.j c.args.first.now c.args.a q c.args.k c.args.second.now c.args.b (omega arith))

pub returns-then-k-ge-TABLES : goal.returns-then-k-ge-TABLES
returns-then-k-ge-TABLES c = λ tabs h p q. sym (second_none tabs c.args.signals p c.args.j c.args.first.now c.args.a q c.args.k c.args.second.now c.args.b (omega arith))

pub loop-s-init : goal.loop-s-init
loop-s-init c = λ tabs h p q. looked_none tabs c.args.signals p c.args.j c.args.first.now c.args.a q c.args.k c.args.second.now c.args.b (omega arith) (omega arith)

pub fine-requires : goal.fine-requires
fine-requires c = (c.requires.0, omega arith, omega arith, omega arith)

pub returns-then-not-fine : goal.returns-then-not-fine
returns-then-not-fine c = λ tabs h p q. sym (looked_fails (c.loop-s.invariant tabs h p q) (omega arith) (omega arith) (omega arith) (c.fine.ensures tabs h) (ap not c.if-not-fine.true))

pub loop-s-preserved : goal.loop-s-preserved
loop-s-preserved c = λ tabs h p q. looked_next (c.loop-s.invariant tabs h p q) (omega arith) (omega arith) (omega arith) (c.fine.ensures tabs h) (ap not c.if-not-fine.false)

pub returns : goal.returns
returns c = λ tabs h p q. sym (looked_all (c.loop-s.invariant tabs h p q) (omega arith) (omega arith) (omega arith))
