-- `note` meets its contract: no X is ahead; nothing stands behind it; its name is no label; or its place has a number already, or has none yet.
use Rattle.tokens.specs.Written.{bytes}
use Rattle.references.proofs.Filling.{tested, note_none, note_ended, note_unknown, note_again, note_first}
use Rattle.references.proofs.note.Goals as goal

pub returns-then-not-is : goal.returns-then-not-is
unfolding bytes
returns-then-not-is c = note_none _ _ _ _ _ _ (tested c.requires.0 c.is.ensures c.if-not-is.true)

pub returns-then-end-at : goal.returns-then-end-at
unfolding bytes
returns-then-end-at c =
    let start = c.requires in
    note_ended _ _ _ _ _ _ _ start.0 (tested start.0 c.is.ensures c.if-not-is.false) c.step-n.ensures c.if-end-at.true

pub returns-then-count-k : goal.returns-then-count-k
unfolding bytes
returns-then-count-k c =
    let start = c.requires in
    let is_x = tested start.0 c.is.ensures c.if-not-is.false in
    note_unknown _ _ _ _ _ _ _ start.0 is_x c.step-n.ensures _ _ c.if-end-at.false c.bytes_of.ensures c.find-k.ensures c.if-count-k.true

pub returns-then-table-k-ne0 : goal.returns-then-table-k-ne0
unfolding bytes
returns-then-table-k-ne0 c =
    let start = c.requires in
    let is_x = tested start.0 c.is.ensures c.if-not-is.false in
    note_again _ _ _ _ _ _ _ start.0 is_x c.step-n.ensures _ _ c.if-end-at.false c.bytes_of.ensures c.find-k.ensures c.if-count-k.false c.if-table-k-ne0.true

pub returns : goal.returns
unfolding bytes
returns c =
    let start = c.requires in
    let is_x = tested start.0 c.is.ensures c.if-not-is.false in
    note_first _ _ _ _ _ _ _ start.0 is_x c.step-n.ensures _ _ c.if-end-at.false c.bytes_of.ensures c.find-k.ensures c.if-count-k.false c.if-table-k-ne0.false start.2
