-- `is_wordy` meets its contract: above the capitals there are only the small letters.
use Rattle.tokens.proofs.Allowed.{small, capital}
use Rattle.tokens.proofs.is_wordy.Goals as goal

pub returns-then-b-ge97 : goal.returns-then-b-ge97
returns-then-b-ge97 c = small _ c.if-b-ge97.true

pub returns-else-b-ge97 : goal.returns-else-b-ge97
returns-else-b-ge97 c = capital _ c.if-b-ge97.false
