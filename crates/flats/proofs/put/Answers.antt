-- `put` meets its contract: 22, or the lines before the Patterns and then these.
use native.Mathlib.Omega.{arith}
use Rattle.flats.proofs.Whole.{few_signals}
use Rattle.flats.proofs.Pages.{puts_many, puts_joined}
use Rattle.flats.proofs.put.Goals as goal

pub all_patterns-part-requires : goal.all_patterns-part-requires
all_patterns-part-requires c = record { it = c.requires.0.it; is_meant = c.requires.0.is_meant; long = omega (arith, few_signals c.requires.0.is_meant); room = omega (arith, few_signals c.requires.0.is_meant, c.window_room-buffer.ensures) }

pub returns-then-part-gt-PATTERNS : goal.returns-then-part-gt-PATTERNS
returns-then-part-gt-PATTERNS c = puts_many c.all_patterns-part.ensures c.if-part-gt-PATTERNS.true

pub head-pen-requires : goal.head-pen-requires
head-pen-requires c = record { it = c.requires.0.it; meant = c.requires.0.is_meant.meant; few = few_signals c.requires.0.is_meant }

pub returns : goal.returns
returns c = puts_joined c.all_patterns-part.ensures (omega (arith, c.if-part-gt-PATTERNS.false)) c.requires.1 c.room-body.ensures c.head-pen.ensures c.join.ensures
