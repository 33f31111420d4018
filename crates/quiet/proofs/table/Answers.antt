-- `table` meets its contract: its name and period, its waveforms, and its last brace.
use mathlib.Core.List.{[]}
use Rattle.tokens.specs.Written.{bytes}
use Rattle.spots.proofs.Tabling.{table_parts, table_ends}
use Rattle.quiet.proofs.Keeping.{no_waves}
use Rattle.quiet.proofs.Reading.{one_more_lem}
use Rattle.quiet.proofs.table.Goals as goal

pub waveforms-requires : goal.waveforms-requires
unfolding bytes
waveforms-requires c =
    let p = c.requires in
    let x = table_parts p.0 p.1.state p.1.read c.due-a.ensures c.name-d.ensures c.head-h.ensures in
    (p.0, record { state = []; kept = no_waves _; answer = x.waves; rest = x.rest; read = x.read })

pub returns : goal.returns
unfolding bytes
returns c =
    λ ns tabs it us h y.
    let x = table_parts ns tabs y c.due-a.ensures c.name-d.ensures c.head-h.ensures in
    let w = c.in_ok-e.ensures ns [] x.waves x.rest (no_waves _) x.read in
    let end = table_ends ns tabs x w.0 c.due.ensures in
    (end.1, one_more_lem tabs _ _ x.waves end.0 h w.1)
