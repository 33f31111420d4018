-- `table` meets its contract: its name and period, its waveforms, and its last brace.
use Rattle.tokens.specs.Written.{bytes}
use Rattle.folded.specs.Flat.{charts_from}
use Rattle.spots.specs.Spots.{names_in, signals_in}
use Rattle.spots.proofs.Tabling.{table_parts, table_ends}
use Rattle.timings.proofs.Tabling.{sheet_writes}
use Rattle.timings.proofs.table.Goals as goal

pub waveforms-x-requires : goal.waveforms-x-requires
unfolding bytes
waveforms-x-requires c =
    let ns = names_in c.args.scope in
    let x = table_parts ns c.requires.answers.0 c.requires.answers.3 c.due-a.ensures c.name-d.ensures c.head-h.ensures in
    record { listed = c.requires.listed; answers = (x.waves, x.rest, x.read) }

pub returns : goal.returns
unfolding bytes
returns c =
    λ tabs it us y.
    let ns = names_in c.args.scope in
    let x = table_parts ns tabs y c.due-a.ensures c.name-d.ensures c.head-h.ensures in
    let w = c.waveforms-x.ensures x.waves x.rest x.read in
    let e = table_ends ns tabs x w.0 c.due-cursor.ensures in
    (e.1, record { table = _; is = e.0; writes = sheet_writes c.head-h.result.n (charts_from 0 (signals_in c.args.scope.text.now c.args.scope.places.now c.args.count) x.waves) c.bytes_of.ensures c.title-p.ensures w.1 })
