-- `write_index` meets its contract: refused as the text is; 19; or the index at the buffer's front.
use mathlib.Core.Path.{refl}
use Rattle.tokens.proofs.Results.{handed_on}
use Rattle.services.proofs.Indexing.{index_refused, index_full, index_given, span_front, front_fits}
use Rattle.services.proofs.write_index.Goals as goal

pub returns-in_err-x : goal.returns-in_err-x
returns-in_err-x c = rw (handed_on c.from_residual.result _ c.from_residual.ensures.1) (index_refused _ c.args.spare c.args.buffer.now c.in_err-x.ensures)

pub returns-then-spare-buffer : goal.returns-then-spare-buffer
returns-then-spare-buffer c = index_full c.in_ok-x.ensures c.args.spare c.args.buffer.now c.if-spare-buffer.true refl

pub put-requires : goal.put-requires
put-requires c = front_fits _ c.args.buffer.now c.in_ok-x.x.length c.args.spare c.bytes_of.ensures c.if-spare-buffer.false

pub returns : goal.returns
returns c = index_given c.in_ok-x.ensures c.args.spare c.args.buffer.now c.if-spare-buffer.false refl (span_front _ c.in_ok-x.x.length c.bytes_of.ensures) c.put.ensures
