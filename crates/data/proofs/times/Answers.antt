-- The word is taken; then it is `r` and a number, or not allowed here.
use mathlib.Core.Path.{refl}
use Rattle.words.proofs.Flow.{then, refused_by}
use Rattle.data.proofs.Pieces.{repeat_some, repeat_other, repeat_end, times_some, times_none}
use Rattle.data.proofs.times.Goals as goal
use Rattle.data.proofs.times.Goals.{then-w-gt0+else-w-eq114, else-w-gt0}

pub returns-then-w-eq114 : goal.returns-then-w-eq114
returns-then-w-eq114 c =
    let e = c.bytes_of-w.ensures in
    let here = repeat_some _ c.if-w-gt0.true c.if-w-eq114.true in
    then _ c.step-d.ensures (times_some _ e here (c.within.ensures _ _ c.number-v.ensures))

pub returns : goal.returns
returns c =
    let w = c.bytes_of-w.result.now in
    let no = refused_by c.refuse_if-cursor.ensures refl in
    elim c.if-w-gt0.branch [
      | then-w-gt0+else-w-eq114 z ↦ then _ c.step-d.ensures (times_none _ c.bytes_of-w.ensures (repeat_other w z.if-w-eq114.false) no)
      | else-w-gt0 z ↦ then _ c.step-d.ensures (times_none _ c.bytes_of-w.ensures (repeat_end w z.if-w-gt0.false) no)
    ]
