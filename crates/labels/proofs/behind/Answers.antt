-- `behind` meets its contract: the token's word tells what it begins.
use mathlib.Core.Path.{sym, ◌∙◌}
use Rattle.tokens.specs.Written.{cases}
use Rattle.labels.proofs.Scanning.{behind_parting, behind_other, behind_word, not_beginning, is_beginning}
use Rattle.labels.proofs.behind.Goals as goal

pub returns-then-is_parting : goal.returns-then-is_parting
returns-then-is_parting c = behind_parting _ _ (sym c.is_parting.ensures ∙ c.if-is_parting.true)

pub returns-then-here-ne-BEGINS : goal.returns-then-here-ne-BEGINS
returns-then-here-ne-BEGINS c =
    let is-parting = c.is_parting in
    behind_other _ _ (sym is-parting.ensures ∙ c.if-is_parting.false) (not_beginning _ c.if-here-ne-BEGINS.true)

pub returns-then-is_labelling : goal.returns-then-is_labelling
unfolding cases
returns-then-is_labelling c =
    let is-parting = c.is_parting in
    let if1 = c.if-is_parting in
    let if2 = c.if-here-ne-BEGINS in
    behind_word _ _ (sym is-parting.ensures ∙ if1.false) (is_beginning _ if2.false) (sym c.is_labelling.ensures ∙ c.if-is_labelling.true)

pub returns-else-is_labelling : goal.returns-else-is_labelling
unfolding cases
returns-else-is_labelling c =
    let is-parting = c.is_parting in
    let if1 = c.if-is_parting in
    let if2 = c.if-here-ne-BEGINS in
    behind_word _ _ (sym is-parting.ensures ∙ if1.false) (is_beginning _ if2.false) (sym c.is_labelling.ensures ∙ c.if-is_labelling.false)
