-- Each turn takes the next word.
use native.Mathlib.Omega.{arith}
use Rattle.noted.proofs.Marking.{feeding_none, feeding_word, feeding_all}
use Rattle.noted.proofs.note_data.Goals as goal

pub loop-word-init : goal.loop-word-init
loop-word-init c = feeding_none

pub shape_of-used-then-word : goal.shape_of-used-then-word
shape_of-used-then-word c = c.loop-word.invariant.grows.long

pub returns-then-word : goal.returns-then-word
returns-then-word c = let y = c.loop-word.invariant in (y.grows, feeding_all y c.next_word-word.ensures c.if-word.true)

pub note_word-requires : goal.note_word-requires
note_word-requires c =
    let p = c.requires in
    (omega (arith, p.0, c.loop-word.invariant.grows.long), p.1)

pub loop-word-smaller : goal.loop-word-smaller
loop-word-smaller c = c.next_word-word.ensures.fewer c.if-word.false

pub loop-word-preserved : goal.loop-word-preserved
loop-word-preserved c =
    let word = c.note_word.ensures in
    feeding_word c.loop-word.invariant c.next_word-word.ensures c.bytes_of.ensures word.0 word.1
