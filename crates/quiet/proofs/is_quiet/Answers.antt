-- `is_quiet` meets its contract: a text that was read is read again up to its Timing, and its tables have a border.
use mathlib.Core.Path.{refl, sym, ◌∙◌}
use Rattle.declared.proofs.Numbers.{blank_chains}
use Rattle.spots.proofs.Accepting.{timing_read}
use Rattle.quiet.proofs.Bordering.{inside_runs}
use Rattle.quiet.proofs.Keeping.{when_some}
use Rattle.quiet.proofs.is_quiet.Goals as goal

pub front-f-requires : goal.front-f-requires
front-f-requires c = (record { all = refl; rows = refl }, blank_chains)

pub tables-requires : goal.tables-requires
tables-requires c =
    let p = c.requires in
    let t = timing_read p.0 p.1 p.2 c.opening-c.ensures c.front-f.ensures in
    (_, p.0.tables, t.rest, t.answers)

pub returns : goal.returns
returns c =
    λ e d ts q n run.
    let t = timing_read d ts q c.opening-c.ensures c.front-f.ensures in
    inside_runs d.tables (when_some c.tables.result (sym c.is_some.ensures ∙ e) c.tables.ensures _ d.tables t.rest t.answers) n run
