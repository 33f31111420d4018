-- `fold_text` meets its contract: refused as the text is; 19; or the folded text at the buffer's front.
use mathlib.Core.Path.{refl}
use Rattle.tokens.proofs.Results.{handed_on}
use Rattle.flats.proofs.Folding.{fold_refused, fold_full, fold_fits, fold_given}
use Rattle.flats.proofs.fold_text.Goals as goal

pub returns-in_err-n : goal.returns-in_err-n
returns-in_err-n c = rw (handed_on c.from_residual.result _ c.from_residual.ensures.1) (fold_refused c.args.text.now c.args.spare c.args.buffer.now c.in_err-n.ensures)

pub returns-then-spare-buffer : goal.returns-then-spare-buffer
returns-then-spare-buffer c = fold_full c.args.text.now _ c.in_ok-n.ensures c.args.spare c.args.buffer.now c.if-spare-buffer.true refl

pub put-requires : goal.put-requires
put-requires c = fold_fits c.args.text.now _ c.in_ok-n.ensures c.args.spare c.args.buffer.now c.if-spare-buffer.false refl c.bytes_of.ensures

pub returns : goal.returns
returns c = fold_given c.args.text.now _ c.in_ok-n.ensures c.args.spare c.args.buffer.now c.if-spare-buffer.false refl c.bytes_of.ensures c.put.ensures
