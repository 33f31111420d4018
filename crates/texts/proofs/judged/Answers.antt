-- `judged` meets its contract: the fault where the tokens stop, the run, its measure.
use Rattle.tokens.proofs.Results.{handed_on}
use Rattle.texts.proofs.Judging.{judged_fault, judged_undefined, judged_large, judged_sound}
use Rattle.texts.proofs.judged.Goals as goal

pub returns-then-no-ne-NOT_HERE : goal.returns-then-no-ne-NOT_HERE
returns-then-no-ne-NOT_HERE c = λ short d h. judged_fault short h c.stop_no-no.ensures c.if-no-ne-NOT_HERE.true

pub returns-in_err-total : goal.returns-in_err-total
returns-in_err-total c = λ short d h. rw (handed_on c.from_residual.result _ c.from_residual.ensures.1) (judged_undefined short h c.stop_no-no.ensures c.if-no-ne-NOT_HERE.false (c.in_err-total.ensures _ h.patterns_are h.patterns_counted))

pub returns-then-total : goal.returns-then-total
returns-then-total c = λ short d h.
    let run = c.in_ok-total.ensures _ h.patterns_are h.patterns_counted in
    (run.0, judged_sound short h c.stop_no-no.ensures c.if-no-ne-NOT_HERE.false run.1 run.2 c.if-total.true, run.2)

pub returns : goal.returns
returns c = λ short d h.
    let run = c.in_ok-total.ensures _ h.patterns_are h.patterns_counted in
    judged_large short h c.stop_no-no.ensures c.if-no-ne-NOT_HERE.false run.1 run.2 c.if-total.false
