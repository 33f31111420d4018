-- `decided` meets its contract: arrays of zeros are blank, and what is decided is told.
use mathlib.Core.Path.{refl, ap, ◌∙◌}
use Rattle.meaning.specs.Meaning.{given}
use Rattle.tokens.proofs.Results.{handed_on}
use Rattle.declared.proofs.Numbers.{blank_chains, blank_waves}
use Rattle.texts.specs.Texts.{counts_of}
use Rattle.texts.proofs.Deciding.{counted, answered_given, answered_refused}
use Rattle.texts.proofs.decided.Goals as goal

pub decide-requires : goal.decide-requires
decide-requires c = (record { sized = record { all = refl; rows = refl }; unchained = blank_chains; tables = refl; marks = refl; unset = blank_waves }, refl, refl, refl, refl)

pub returns-in_err-v : goal.returns-in_err-v
returns-in_err-v c = rw (handed_on c.from_residual.result _ c.from_residual.ensures.1) (answered_refused _ c.in_err-v.ensures)

pub returns : goal.returns
returns c =
    let found = c.in_ok-v.ensures.0 in ap given (counted found) ∙ answered_given counts_of found.is
