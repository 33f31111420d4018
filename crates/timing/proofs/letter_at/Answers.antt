-- `letter_at` meets its contract: one letter is spread over all characters, and as many as there are characters stay as they are.
use Rattle.timing.proofs.EventLetters.{letter_all, letter_own}
use Rattle.timing.proofs.letter_at.Goals as goal

pub returns-then-a-eq1 : goal.returns-then-a-eq1
returns-then-a-eq1 c = λ n es h a p r. letter_all h a r c.if-a-eq1.true

pub returns-else-a-eq1 : goal.returns-else-a-eq1
returns-else-a-eq1 c = λ n es h a p r. letter_own h a r c.if-a-eq1.false p
