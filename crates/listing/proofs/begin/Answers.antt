-- `begin` meets its contract: a small page stays; arrays of zeros are blank; a text is refused as it is decided, or shown.
use mathlib.Core.Path.{refl}
use Rattle.declared.proofs.Numbers.{blank_chains, blank_waves}
use Rattle.verdicts.proofs.Found.{meaning_refused}
use Rattle.listing.proofs.Beginning.{begins_refused, begins_small}
use borrow.Author.Rules.{rules}
use Rattle.listing.proofs.begin.Goals as goal

pub returns-then-page-lt-FRONT : goal.returns-then-page-lt-FRONT
returns-then-page-lt-FRONT c = begins_small c.if-page-lt-FRONT.true

pub decide-requires : goal.decide-requires
decide-requires c = (record { sized = record { all = refl; rows = refl }; unchained = blank_chains; tables = refl; marks = refl; unset = blank_waves }, refl, refl, refl, refl)

pub refused-requires : goal.refused-requires
refused-requires c = c.if-page-lt-FRONT.false

pub returns-in-Err : goal.returns-in-Err
returns-in-Err c = begins_refused c.if-page-lt-FRONT.false (meaning_refused _ c.in-Err.ensures) c.refused.ensures

pub shown-requires : goal.shown-requires
shown-requires c =
    (c.if-page-lt-FRONT.false, record { watch = _; found = c.in-Ok.ensures.0; notes = c.in-Ok.ensures.1; long = search rules })
