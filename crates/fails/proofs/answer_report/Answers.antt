-- `answer_report` meets its contract: arrays of zeros are blank; a text is refused as it is decided, or the report is answered.
use mathlib.Core.Path.{refl}
use Rattle.declared.proofs.Numbers.{blank_chains, blank_waves}
use Rattle.std.proofs.lemmas.Result.{err_from_is_err_and}
use Rattle.verdicts.proofs.Found.{meaning_refused}
use Rattle.fails.proofs.Reporting.{fails_refused}
use borrow.Author.Rules.{rules}
use Rattle.fails.proofs.answer_report.Goals as goal

pub decide-requires : goal.decide-requires
decide-requires c = (record { sized = record { all = refl; rows = refl }; unchained = blank_chains; tables = refl; marks = refl; unset = blank_waves }, refl, refl, refl, refl)

pub returns-in_err-v : goal.returns-in_err-v
returns-in_err-v c =
    let e = err_from_is_err_and c.from_residual.result c.from_residual.ensures.1 in
    rw (e.1, e.2) (fails_refused c.args.text.now c.args.report.now c.args.spare (meaning_refused _ c.in_err-v.ensures))

pub answer_found-requires : goal.answer_found-requires
answer_found-requires c = record { watch = _; found = c.in_ok-v.ensures.0; notes = c.in_ok-v.ensures.1; long = search rules }

pub returns : goal.returns
returns c = c.answer_found.ensures
