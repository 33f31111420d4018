-- One mark is stored.
use native.Mathlib.Omega.{arith}
use Rattle.noted.proofs.Marking.{char_noted}
use Rattle.noted.proofs.note_char.Goals as goal

pub returns : goal.returns
returns c = char_noted c.args.used.now _ c.args.s c.args.c (omega arith) (λ h. omega arith)
