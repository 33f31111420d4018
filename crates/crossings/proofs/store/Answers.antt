-- Pins, and numbers.
use native.Mathlib.Omega.{arith}
use Rattle.crossings.proofs.Storing.{stored}
use Rattle.crossings.proofs.store.Goals as goal

pub copy_pins-requires : goal.copy_pins-requires
copy_pins-requires c = (omega arith, omega (arith, c.requires.2.pins_long))

pub put_marks-requires : goal.put_marks-requires
put_marks-requires c = omega (arith, c.requires.2.marks_long)

pub returns : goal.returns
returns c = stored c.requires.0 c.requires.1 c.requires.2 c.requires.3 c.copy_pins.ensures c.put_marks.ensures
