-- `viewed` meets its contract: arrays of zeros are blank; a text is refused as it is decided, or its run is viewed.
use mathlib.Core.Path.{refl}
use borrow.Author.Rules.{rules}
use Rattle.tokens.proofs.Results.{handed_on}
use Rattle.declared.proofs.Numbers.{blank_chains, blank_waves}
use Rattle.verdicts.proofs.Found.{meaning_refused}
use Rattle.views.proofs.Viewing.{view_refused}
use Rattle.views.proofs.viewed.Goals as goal

pub decide-requires : goal.decide-requires
decide-requires c = (record { sized = record { all = refl; rows = refl }; unchained = blank_chains; tables = refl; marks = refl; unset = blank_waves }, refl, refl, refl, refl)

pub returns-in_err-v : goal.returns-in_err-v
returns-in_err-v c =
    rw (handed_on c.from_residual.result _ c.from_residual.ensures.1) (view_refused _ _ _ _ _ c.args.spare (meaning_refused _ c.in_err-v.ensures))

pub view-requires : goal.view-requires
view-requires c = record { watch = _; found = c.in_ok-v.ensures.0; notes = c.in_ok-v.ensures.1; long = search rules }
