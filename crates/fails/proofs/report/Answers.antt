-- `report` meets its contract.
use Rattle.fails.proofs.Reporting.{reports_all}
use Rattle.fails.proofs.report.Goals as goal

pub returns : goal.returns
returns c = reports_all c.answer_report.ensures
