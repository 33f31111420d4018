-- `save_text` meets its contract: refused as the last turn was; 19; or the saved text and its spans.
use Rattle.services.proofs.Mending.{save_too_long, save_beyond, save_roomless, some_copy, save_told}
use Rattle.services.proofs.save_text.Goals as goal

pub returns-then-text-gt-TEXT_MOST : goal.returns-then-text-gt-TEXT_MOST
returns-then-text-gt-TEXT_MOST c = save_too_long c.args.text.now c.args.spans.now c.args.spare c.if-text-gt-TEXT_MOST.true

pub returns-in-Err : goal.returns-in-Err
returns-in-Err c = save_beyond c.args.text.now c.args.spans.now c.args.spare c.mend_copy-mended.new.copy c.mend_copy-mended.ensures c.in-Err.is

pub returns-then-spare-spans : goal.returns-then-spare-spans
returns-then-spare-spans c = save_roomless c.args.text.now c.args.spans.now c.args.spare c.mend_copy-mended.new.copy c.mend_copy-mended.ensures c.in_default.is c.if-spare-spans.true

pub hand_back-requires : goal.hand_back-requires
hand_back-requires c = some_copy c.args.text.now c.args.spans.now c.args.spare c.mend_copy-mended.new.copy c.mend_copy-mended.ensures c.in_default.is c.if-spare-spans.false c.if-text-gt-TEXT_MOST.false

pub returns : goal.returns
returns c = save_told c.args.text.now c.args.spans.now c.args.spare c.mend_copy-mended.new.copy c.mend_copy-mended.ensures c.in_default.is c.if-spare-spans.false c.hand_back.ensures
