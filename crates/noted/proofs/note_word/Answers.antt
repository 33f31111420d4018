-- Each turn takes the next byte.
use native.Mathlib.Omega.{arith}
use Rattle.noted.proofs.Marking.{grows_none, grows_then, word_none, word_more}
use Rattle.noted.proofs.note_word.Goals as goal

pub loop-c-init : goal.loop-c-init
loop-c-init c = (grows_none, word_none)

pub loop-c-preserved : goal.loop-c-preserved
loop-c-preserved c =
    let one = c.note_char.ensures in
    let inv = c.loop-c.invariant in
    (grows_then inv.0 one.0, word_more _ c.loop-c.c-index inv.1 (omega arith) one.0 one.1)
