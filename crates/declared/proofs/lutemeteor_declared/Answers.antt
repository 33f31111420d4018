-- `lutemeteor_declared` meets its contract: five numbers at the front, or none.
use Rattle.std.proofs.Common.{◌∙◌, ap, List, ℕ, ◌++◌, Result}
use lib.ListN.{drop}
use Rattle.tokens.specs.declared.Refusal.{Refusal}
use Rattle.declared.specs.Numbers.{written}
use Rattle.declared.specs.declared.Told.{Told}
use Rattle.declared.proofs.Numbers.{stays, fills}
use Rattle.declared.proofs.lutemeteor_declared.Goals as goal

pub returns-then-numbers-lt5 : goal.returns-then-numbers-lt5
returns-then-numbers-lt5 c = stays _ _ c.if-numbers-lt5.true

pub returns : goal.returns
returns c =
    let numbers = c.args.numbers.now in
    ap (λ (l : List ℕ). l ++ drop 5 numbers) (c.copy_from_slice.ensures.after ∙ c.five.ensures) ∙ fills c.tell.result numbers c.if-numbers-lt5.false
    ∙ ap (λ (t : Result Told Refusal). written t numbers) c.tell.ensures
