-- `answer_found` meets its contract: 17 or 25; the report's own faults; 24 for a pattern that isn't listed once; or what is answered to its records.
use Rattle.std.proofs.lemmas.Result.{err_from_is_err_and}
use Rattle.fails.proofs.Reporting.{often_at, fails_refused, fails_faulty, fails_unlisted, listed_pattern, fails_listed}
use Rattle.index.proofs.Lists.{lists_are}
use Rattle.fails.proofs.answer_found.Goals as goal

pub failing-requires : goal.failing-requires
failing-requires c = c.requires

pub returns-in_err-failing : goal.returns-in_err-failing
returns-in_err-failing c =
    let e = err_from_is_err_and c.from_residual.result c.from_residual.ensures.1 in
    rw (e.1, e.2) (fails_refused _ _ c.args.spare (c.in_err-failing.ensures _ c.requires.found))

pub times_listed-t-requires : goal.times_listed-t-requires
times_listed-t-requires c = record { decls = _; run = _; lists = lists_are c.requires.found }

pub returns-then-t-ne1 : goal.returns-then-t-ne1
returns-then-t-ne1 c = fails_unlisted c.requires.found (c.in_ok-failing.ensures _ c.requires.found) _ _ _ _ _ c.in-Ok.ensures (often_at _ c.bytes_of-name.ensures (c.times_listed-t.ensures _ _ (lists_are c.requires.found))) c.if-t-ne1.true

pub answer-requires : goal.answer-requires
answer-requires c =
    record {
      env = _;
      decls = _;
      decl = _;
      pattern = listed_pattern c.requires.found (c.in_ok-failing.ensures _ c.requires.found) c.args.report.now c.args.spare c.args.cycles.now c.args.signals.now c.args.letters.now c.in-Ok.ensures (often_at _ c.bytes_of-name.ensures (c.times_listed-t.ensures _ _ (lists_are c.requires.found))) c.if-t-ne1.false;
    }

pub returns-in-Err : goal.returns-in-Err
returns-in-Err c = fails_faulty c.requires.found (c.in_ok-failing.ensures _ c.requires.found) _ _ _ _ _ c.in-Err.ensures

pub returns : goal.returns
returns c = fails_listed c.requires.found (c.in_ok-failing.ensures _ c.requires.found) _ _ _ _ _ c.in-Ok.ensures (often_at _ c.bytes_of-name.ensures (c.times_listed-t.ensures _ _ (lists_are c.requires.found))) c.if-t-ne1.false c.answer.ensures
