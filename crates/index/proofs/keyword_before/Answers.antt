-- `keyword_before` meets its contract. The invariant: what is looked for is found from here as from the start.
use mathlib.Core.Path.{refl, ◌∙◌}
use Rattle.index.proofs.Scanning.{fewer, keyword_here, keyword_later, keyword_none}
use Rattle.index.proofs.keyword_before.Goals as goal

pub loop-here-init : goal.loop-here-init
loop-here-init c = refl

pub returns-then-next-p : goal.returns-then-next-p
returns-then-next-p c = c.loop-here.invariant ∙ keyword_here _ c.loop-here.here _ c.loop-here-test.true c.cursor_at-next.ensures c.args.p c.if-next-p.true

pub loop-here-smaller : goal.loop-here-smaller
loop-here-smaller c = fewer _ c.loop-here.here _ c.loop-here-test.true c.cursor_at-next.ensures

pub loop-here-preserved : goal.loop-here-preserved
loop-here-preserved c = c.loop-here.invariant ∙ keyword_later _ c.loop-here.here _ c.loop-here-test.true c.cursor_at-next.ensures c.args.p c.if-next-p.false

pub returns : goal.returns
returns c = c.loop-here.invariant ∙ keyword_none _ c.loop-here.here c.args.p c.loop-here-test.false
