-- `unlisted` meets its contract.
use Rattle.tokens.specs.Written.{bytes}
use Rattle.sections.proofs.Laws.{not_listed_lem, not_replaced}
use Rattle.sections.proofs.unlisted.Goals as goal

pub returns-then-cycles-gt-LISTED : goal.returns-then-cycles-gt-LISTED
unfolding bytes
returns-then-cycles-gt-LISTED c = not_listed_lem c.if-cycles-gt-LISTED.true c.put.ensures

pub returns : goal.returns
returns c = not_replaced c.if-cycles-gt-LISTED.false _ _
