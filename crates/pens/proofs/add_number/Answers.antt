-- `add_number` meets its contract: the digits at the front of a row of their own, and then these.
use Rattle.pens.proofs.Laws.{writes_same, put_front, put_within, put_counts}
use Rattle.pens.proofs.add_number.Goals as goal

pub slice_bounds-digits-end : goal.slice_bounds-digits-end
slice_bounds-digits-end c = put_within c.put_number-end.ensures

pub slice_bounds-add-end : goal.slice_bounds-add-end
slice_bounds-add-end c = put_counts c.put_number-end.ensures

pub returns : goal.returns
returns c = writes_same (put_front c.put_number-end.ensures) c.add.ensures
