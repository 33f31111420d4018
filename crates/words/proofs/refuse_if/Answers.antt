-- `refuse_if` meets its contract: its test is the one that `refusing` makes.
use Rattle.words.proofs.refuse_if.Goals as goal

pub returns-then-c-test : goal.returns-then-c-test
returns-then-c-test c = record { is = rw c.if-c-test.true }

pub returns : goal.returns
returns c = record { is = rw c.if-c-test.false }
