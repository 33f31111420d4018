-- `count` meets its contract: where the V is the body's own, its uses are counted; else the row stays.
use mathlib.Core.Path.{refl}
use Rattle.tokens.proofs.Bools.{true_false}
use Rattle.bodies.proofs.count.Goals as goal

pub returns-then-own : goal.returns-then-own
returns-then-own c =
    let if1' = c.if-own in
    let count-uses' = c.count_uses in
    λ p a g. record { counts = λ o b. count-uses'.ensures p a b g; stays = λ o. true_false if1'.true o }

pub returns-else-own : goal.returns-else-own
returns-else-own c = λ p a g. record { counts = λ o. true_false o c.if-own.false; stays = λ o. refl }
