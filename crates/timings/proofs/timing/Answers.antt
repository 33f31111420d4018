-- `timing` meets its contract: an accepted text is read again up to its Timing.
use mathlib.Core.Path.{refl}
use Rattle.declared.proofs.Numbers.{blank_chains}
use Rattle.spots.proofs.Accepting.{timing_at}
use Rattle.timings.proofs.Flats.{flat_writes}
use Rattle.timings.proofs.timing.Goals as goal

pub front-f-requires : goal.front-f-requires
front-f-requires c = (record { all = refl; rows = refl }, blank_chains)

pub tables-requires : goal.tables-requires
tables-requires c =
    let t = timing_at c.requires.0 c.requires.1 c.opening-c.ensures c.front-f.ensures in
    record { listed = (t.listed, t.few); answers = (c.requires.0.tables, t.rest, t.answers) }

pub returns : goal.returns
returns c = λ m e. let t = timing_at m e c.opening-c.ensures c.front-f.ensures in flat_writes c.args.text.now m t.signals_are (c.tables.ensures m.tables t.rest t.answers)
