-- `is_state` meets its contract: four words are compared.
use Rattle.tokens.specs.Written.{bytes}
use Rattle.words.proofs.Words.{or_both}
use Rattle.reports.specs.Report.{is_state}
use Rattle.reports.proofs.is_state.Goals as goal

pub returns : goal.returns
unfolding is_state bytes
returns c =
    or_both (or_both (or_both c.equal.ensures c.equal-2.ensures) c.equal-3.ensures) c.equal-4.ensures
