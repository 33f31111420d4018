-- `waveforms` meets its contract: the spots of the whole table, and then its signals' lines.
use Prim.Native.Nat.{ℕ}
use mathlib.Core.Path.{refl, sym}
use mathlib.Core.List.{[]}
use lib.ListN.{length-replicate}
use Rattle.tokens.specs.Written.{bytes}
use Rattle.folded.specs.Flat.{up_from, characters, charts_from}
use Rattle.spots.specs.Spots.{spots_most, signals_in}
use Rattle.spots.proofs.Spotting.{blank_spots}
use Rattle.timings.proofs.Tabling.{charted_writes}
use Rattle.timings.proofs.waveforms.Goals as goal

pub slice_bounds-table_spots-end : goal.slice_bounds-table_spots-end
slice_bounds-table_spots-end c = sym (length-replicate {A = ℕ} spots_most 0)

pub table_spots-cursor-requires : goal.table_spots-cursor-requires
table_spots-cursor-requires c =
    let p = c.requires in
    record { spots_len = (length-replicate {A = ℕ} spots_most 0, p.listed.0); spots = ([], p.answers.0, p.answers.1, blank_spots _, p.answers.2) }

pub charts-p-requires : goal.charts-p-requires
unfolding bytes characters up_from
charts-p-requires c =
    let p = c.requires in
    record { spots_len = (c.table_spots-cursor.auto.spots, p.listed.1, refl); spots = (p.answers.0, (c.table_spots-cursor.ensures [] p.answers.0 p.answers.1 (blank_spots _) p.answers.2).1) }

pub returns : goal.returns
unfolding bytes
returns c =
    let a = c.args in
    λ ws us x.
    let k = c.table_spots-cursor.ensures [] ws us (blank_spots _) x in
    (k.0, charted_writes (charts_from 0 (signals_in a.scope.text.now a.scope.places.now a.count) ws) (c.charts-p.ensures ws k.1) c.add-pen.ensures)
