-- `all_patterns` meets its contract: the one that is written where none is listed, or those of the run.
use native.Mathlib.Omega.{arith}
use mathlib.Core.Path.{refl}
use Rattle.tokens.specs.Written.{bytes}
use Rattle.flats.proofs.Whole.{bodied_some, bodied_none}
use Rattle.flats.proofs.all_patterns.Goals as goal

pub returns-then-listed-eq0 : goal.returns-then-listed-eq0
unfolding bytes
returns-then-listed-eq0 c = bodied_none c.if-listed-eq0.true refl c.add-p.ensures

pub returns : goal.returns
returns c = bodied_some (omega (arith, c.if-listed-eq0.false)) c.patterns_of.ensures
