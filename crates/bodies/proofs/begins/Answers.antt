-- `begins` meets its contract.
use Rattle.tokens.specs.Written.{bytes}
use Rattle.bodies.proofs.begins.Goals as goal

pub returns-then-macros : goal.returns-then-macros
unfolding bytes
returns-then-macros c =
    let if1' = c.if-macros in
    rw if1'.true c.is.ensures

pub returns : goal.returns
unfolding bytes
returns c =
    let if1' = c.if-macros in
    rw if1'.false c.is-2.ensures
