-- `table` meets its contract: its head, its waveforms, its period and its last brace.
use native.Mathlib.Omega.{arith}
use Rattle.tokens.specs.Written.{bytes}
use Rattle.spots.specs.Spots.{names_in}
use Rattle.spots.proofs.Tabling.{table_parts, table_ends}
use Rattle.spans.proofs.Fitting.{waves_fit}
use Rattle.spans.proofs.Tables.{table_few, held_more, held_clear}
use Rattle.spans.proofs.table.Goals as goal

pub waveforms-e-requires : goal.waveforms-e-requires
unfolding bytes
waveforms-e-requires c =
    let ns = names_in c.args.scope in
    let x = table_parts ns c.requires.held.0 c.requires.held.4 c.due-a.ensures c.name-d.ensures c.head-h.ensures in
    record { firsts_len = (c.requires.sized.0.first, c.requires.sized.0.last, omega (arith, x.few, c.requires.held.3.count), c.requires.sized.1); answers = (x.waves, x.rest, x.read) }

pub offset_bounds-periods-j : goal.offset_bounds-periods-j
unfolding bytes
offset_bounds-periods-j c = omega (arith, table_few _ c.requires.held.0 c.requires.held.4, c.requires.held.3.count)

pub bounds-periods-j : goal.bounds-periods-j
unfolding bytes
bounds-periods-j c = omega (arith, table_few _ c.requires.held.0 c.requires.held.4, c.requires.held.3.count, c.requires.sized.0.each)

pub returns : goal.returns
unfolding bytes
returns c =
    let ns = names_in c.args.scope in
    λ tabs it us h y. (
    let x = table_parts ns tabs y c.due-a.ensures c.name-d.ensures c.head-h.ensures in
    let z = held_clear h (omega (arith, x.few, h.count)) in
    let w = c.waveforms-e.ensures x.waves x.rest x.read z.0 z.1 in
    let e = table_ends ns tabs x w.0 c.due.ensures in
    (e.1, held_more _ c.head-h.result.n x.waves h e.0 ((waves_fit ns).all _ x.waves x.rest x.read.gives) x.few c.requires.sized.0.each w.1.0 w.1.1))
