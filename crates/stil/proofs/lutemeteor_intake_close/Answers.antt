-- `lutemeteor_intake_close` meets its contract: too short a state, or one call of the intake between two codes.
use mathlib.Core.Path.{◌∙◌}
use Rattle.stil.proofs.Carrying.{carries_none, carries_all}
use Rattle.stil.proofs.lutemeteor_intake_close.Goals as goal

pub returns-then-state-lt-STATE : goal.returns-then-state-lt-STATE
returns-then-state-lt-STATE c =
    let args = c.args in
    carries_none _ args.state.now args.store.now c.if-state-lt-STATE.true c.pack.ensures

pub returns : goal.returns
returns c =
    let args = c.args in
    carries_all _ args.state.now args.store.now c.if-state-lt-STATE.false
    c.progress_of-p.ensures (c.at_close-answer.ensures ∙ c.close.ensures.value, c.close.ensures.store_after) c.put_progress.ensures
