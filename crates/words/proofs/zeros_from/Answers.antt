-- `zeros_from` meets its contract: from the place on all bytes are 0, and so are the eight before it where their number is 0.
use native.Mathlib.Omega.{arith}
use mathlib.Core.Path.{sym, ◌∙◌}
use Rattle.words.proofs.Packed.{zeros_none, zeros_more}
use Rattle.words.proofs.zeros_from.Goals as goal

pub loop-n-init : goal.loop-n-init
loop-n-init c = zeros_none _

pub eight-requires : goal.eight-requires
eight-requires c = omega (arith, c.loop-n.invariant.within)

pub returns-then-eight-ne0 : goal.returns-then-eight-ne0
returns-then-eight-ne0 c = c.loop-n.invariant

pub loop-n-preserved : goal.loop-n-preserved
loop-n-preserved c = zeros_more c.loop-n.invariant _ (omega arith) (sym c.eight.ensures ∙ c.if-eight-ne0.false)

pub returns : goal.returns
returns c = c.loop-n.invariant
