-- `repeat` meets its contract: a V and LF, or a Loop around it.
use native.Mathlib.Omega.{arith}
use Rattle.tokens.specs.Written.{bytes}
use Rattle.pens.proofs.Laws.{writes_both, writes_same}
use Rattle.stretches.proofs.Writing.{line_once, line_loop}
use Rattle.stretches.proofs.repeat.Goals as goal

pub returns-then-times-lt2 : goal.returns-then-times-lt2
returns-then-times-lt2 c = writes_same (line_once _ _ c.args.times _ c.if-times-lt2.true) (writes_both c.vector-v.ensures c.add.ensures)

pub returns : goal.returns
unfolding bytes
returns c = writes_same (line_loop _ _ c.args.times _ (omega (arith, c.if-times-lt2.false))) (writes_both (writes_both (writes_both (writes_both c.add-p.ensures c.add_number-q.ensures) c.add-s.ensures) c.vector-v-2.ensures) c.add-2.ensures)
