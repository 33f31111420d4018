-- `look` meets its contract. The invariant: the bytes from here on answer what the whole chunk answers.
use mathlib.Core.Path.{refl, ◌∙◌}
use borrow.Author.Rules.{rules}
use Rattle.tokens.proofs.Results.{handed_on}
use Rattle.intake.proofs.Bytes.{free, free_fits}
use Rattle.intake.proofs.Turns.{looked_on, looked_refused, looked_all}
use Rattle.intake.proofs.look.Goals as goal

pub loop-b-init : goal.loop-b-init
loop-b-init c = refl

pub returns-in_err-refusal : goal.returns-in_err-refusal
returns-in_err-refusal c =
    let args = c.args in
    let loop = c.loop-b in
    let told = c.in_err-refusal.ensures in
    handed_on _ _ c.from_residual.ensures.1
    ∙ looked_refused args.room args.chunk.now args.it loop.here loop.b-index _ _ loop.invariant
    c.loop-b-test.true c.changes-c.ensures
    (c.count-n.ensures _) told.0 told.1

pub overflow_add-here : goal.overflow_add-here
overflow_add-here c =
    let args = c.args in
    let loop = c.loop-b in
    free_fits args.room loop.here _ _ (search rules) (search rules)
    (free args.room loop.here _ _ (c.in_ok-refusal.ensures))

pub moved-here-requires : goal.moved-here-requires
moved-here-requires c =
    let args = c.args in
    let loop = c.loop-b in
    (free args.room loop.here _ _ (c.in_ok-refusal.ensures)).short

pub loop-b-preserved : goal.loop-b-preserved
loop-b-preserved c =
    let args = c.args in
    let loop = c.loop-b in
    looked_on args.room args.chunk.now args.it loop.here loop.b-index _ _ loop.invariant
    c.loop-b-test.true c.changes-c.ensures
    (c.count-n.ensures _) _ (c.in_ok-refusal.ensures)
    c.moved-here.ensures

pub returns : goal.returns
returns c =
    let args = c.args in
    let loop = c.loop-b in
    looked_all _ args.chunk.now args.it loop.here loop.b-index loop.invariant c.loop-b-test.false
