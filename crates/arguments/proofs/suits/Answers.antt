-- A name suits where its list is one signal, and that has `#` in the body.
use mathlib.Core.Path.{sym, ap, ◌∙◌}
use mathlib.Core.List.{◌++◌}
use lib.ListN.{length}
use Rattle.meaning.specs.Body.{outside, shifting}
use Rattle.signals.specs.Names.{list_at}
use Rattle.arguments.proofs.Named.{single, not_one, one_inside}
use Rattle.arguments.proofs.suits.Goals as goal

pub returns-then-signals-ne1 : goal.returns-then-signals-ne1
returns-then-signals-ne1 c =
    λ b uses.
    not_one (list_at c.args.lists.now c.args.i) (outside b ++ shifting b)
    (λ e. c.if-signals-ne1.true (ap length c.signals_of-signals.ensures ∙ e))

pub returns : goal.returns
returns c =
    let one = sym c.signals_of-signals.ensures ∙ single _ c.if-signals-ne1.false in
    λ b uses. c.needed.ensures b uses ∙ one_inside (list_at c.args.lists.now c.args.i) (outside b ++ shifting b) one
