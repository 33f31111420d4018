-- `waveforms` meets its contract: the spots of the whole table, and then the times of each.
use Prim.Native.Nat.{ℕ}
use mathlib.Core.Path.{sym}
use mathlib.Core.List.{[]}
use lib.ListN.{length-replicate}
use Rattle.spots.specs.Spots.{spots_most}
use Rattle.spots.proofs.Spotting.{blank_spots}
use Rattle.spans.proofs.Fitting.{waves_fit}
use Rattle.spans.proofs.waveforms.Goals as goal

pub slice_bounds-table_spots-end : goal.slice_bounds-table_spots-end
slice_bounds-table_spots-end c = sym (length-replicate {A = ℕ} spots_most 0)

pub table_spots-cursor-requires : goal.table_spots-cursor-requires
table_spots-cursor-requires c =
    let p = c.requires in
    record { spots_len = (length-replicate {A = ℕ} spots_most 0, p.firsts_len.3); spots = ([], p.answers.0, p.answers.1, blank_spots _, p.answers.2) }

pub table_times-requires : goal.table_times-requires
table_times-requires c =
    let p = c.requires in
    record { spots_len = (c.table_spots-cursor.auto.spots, p.firsts_len.0, p.firsts_len.1, p.firsts_len.2); spots = (p.answers.0, (c.table_spots-cursor.ensures [] p.answers.0 p.answers.1 (blank_spots _) p.answers.2).1) }

pub returns : goal.returns
returns c =
    λ ws us x y z. (
    let k = c.table_spots-cursor.ensures [] ws us (blank_spots _) x in
    let fit = (waves_fit _).all _ ws us x.gives in
    (k.0, c.table_times.ensures ws k.1 fit y z))
