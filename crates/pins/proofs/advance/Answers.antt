-- No turn; or the characters of all but the last are passed, and that one is played.
use native.Mathlib.Omega.{arith}
use mathlib.Core.Path.{◌∙◌}
use Rattle.pins.proofs.Callers.{roomy_kept}
use Rattle.pins.proofs.Advancing.{advances_none, advances_some}
use Rattle.pins.proofs.advance.Goals as goal

pub ahead-k-requires : goal.ahead-k-requires
ahead-k-requires c =
    let pre = c.requires in
    (pre.0.few, pre.0.feeds_long, pre.0.inside_levels, pre.1, pre.2, pre.3)

pub returns-then-k-eq0 : goal.returns-then-k-eq0
returns-then-k-eq0 c = advances_none c.ahead-k.ensures c.if-k-eq0.true

pub overflow_sub-k : goal.overflow_sub-k
overflow_sub-k c = omega (arith, c.if-k-eq0.false)

pub skip-requires : goal.skip-requires
skip-requires c = (let pre = c.requires in (pre.0, pre.1))

pub put-requires : goal.put-requires
put-requires c = (let pre = c.requires in (roomy_kept pre.0 c.skip.ensures.0, pre.1))

pub shape_of-values : goal.shape_of-values
shape_of-values c = c.put.ensures.0.values_long

pub shape_of-feeds : goal.shape_of-feeds
shape_of-feeds c = c.put.ensures.0.feeds_long ∙ c.skip.ensures.0.feeds_long

pub returns : goal.returns
returns c =
    let skip = c.skip.ensures in
    let put = c.put.ensures in
    advances_some c.ahead-k.ensures c.if-k-eq0.false skip.0 skip.1 put.0 put.1
