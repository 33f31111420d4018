-- `is_no_mark` meets its contract: the code's tests are the definition's, in its order.
use mathlib.Core.Path.{refl}
use Rattle.tokens.specs.Bytes.{between, letter, digit}
use Rattle.meaning.specs.Services.{bad_mark}
use Rattle.views.proofs.is_no_mark.Goals as goal

pub returns : goal.returns
unfolding bad_mark letter digit between
returns c = refl
