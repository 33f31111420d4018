-- `hand_back` meets its contract: mended once more, or from the copy and the log.
use Rattle.saving.proofs.Mending.{mends_given}
use Rattle.services.proofs.Mending.{span_fits, handed_back}
use Rattle.services.proofs.hand_back.Goals as goal

pub returns-then-log-count : goal.returns-then-log-count
returns-then-log-count c = λ x e. mends_given c.mend.ensures x e

pub put-requires : goal.put-requires
put-requires c = span_fits c.args.copy.now c.args.text.now c.bytes_of.ensures

pub returns : goal.returns
returns c = handed_back c.requires c.if-log-count.false c.bytes_of.ensures c.put.ensures c.hand_out.ensures
