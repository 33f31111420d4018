-- `more` meets its contract: there is room for the letter, or there are too many already.
use Rattle.timing.proofs.EventLetters.{lettered_more, lettered_full}
use Rattle.timing.proofs.more.Goals as goal

pub returns-then-n-lt-ENTRY : goal.returns-then-n-lt-ENTRY
returns-then-n-lt-ENTRY c = λ es a. lettered_more _ c.if-n-lt-ENTRY.true a

pub returns-else-n-lt-ENTRY : goal.returns-else-n-lt-ENTRY
returns-else-n-lt-ENTRY c = λ es a. lettered_full _ c.if-n-lt-ENTRY.false a
