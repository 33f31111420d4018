-- `mark_chars` meets its contract. The invariant: the characters so far have their marks, and no other mark is changed.
use native.Mathlib.Omega.{arith}
use mathlib.Core.Path.{◌∙◌}
use mathlib.Core.List.{[], ◌∷◌}
use Rattle.timing.proofs.Marking.{chars_below, marked_no_chars, marked_char, marked_word}
use Rattle.timing.proofs.mark_chars.Goals as goal

pub loop-b-init : goal.loop-b-init
loop-b-init c = marked_no_chars _ _

pub bounds-table-s : goal.bounds-table-s
bounds-table-s c = omega (arith, chars_below c.args.w.now c.loop-b.b-index c.requires.2 c.loop-b-test.true, c.loop-b.auto.table)

pub loop-b-preserved : goal.loop-b-preserved
loop-b-preserved c = marked_char c.args.w.now c.args.s c.loop-b.b-index (c.loop-b.auto.table ∙ c.requires.0) c.requires.1 c.loop-b-test.true (chars_below c.args.w.now c.loop-b.b-index c.requires.2 c.loop-b-test.true) c.loop-b.invariant

pub returns : goal.returns
returns c = marked_word (c.args.s ∷ []) c.args.w.now c.loop-b-test.false c.loop-b.invariant
