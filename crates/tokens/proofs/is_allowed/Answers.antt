-- `is_allowed` meets its contract: a blank, or from 32 to 126.
use mathlib.Core.Path.{ap}
use mathlib.Core.Bool.{Bool, ◌&&◌, ◌||◌}
use lib.Dec.{leb}
use Rattle.tokens.specs.Bytes.{between, allowed}
use Rattle.tokens.proofs.is_allowed.Goals as goal

pub returns : goal.returns
unfolding allowed between
returns c = ap (λ (k : Bool). k || leb 32 c.args.b && leb c.args.b 126) c.is_blank.ensures
