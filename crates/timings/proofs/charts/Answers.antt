-- `charts` meets its contract. The invariant: what is written, and the lines of the signals from i on, are all lines.
use mathlib.Core.Path.{refl, ◌∙◌}
use mathlib.Core.List.{[], ◌++◌}
use Rattle.folded.specs.Pieces.{laid, each}
use Rattle.folds.proofs.Laws.{writes_nothing}
use Rattle.timings.proofs.Writing.{charts_more, charts_next, charts_done, charts_whole, chart_named, few_characters, charts_written}
use native.Mathlib.Omega.{arith}
use Rattle.timings.proofs.charts.Goals as goal

pub loop-i-init : goal.loop-i-init
unfolding laid each
loop-i-init c = λ ws a. ([], writes_nothing _ _, refl)

pub chart-p-requires : goal.chart-p-requires
chart-p-requires c = record { spots_len = (c.requires.spots_len.0, omega (arith, c.requires.spots_len.1), few_characters c.requires.spots_len.2); spots = c.requires.spots }

pub loop-i-preserved : goal.loop-i-preserved
loop-i-preserved c =
    λ ws a.
    let f = c.loop-i.invariant ws a in
    let k = chart_named c.args.text.now c.args.places.now ws c.loop-i.i c.name_bytes-name.ensures c.requires.spots_len.2 (c.chart-p.ensures ws a) in
    (f.0 ++ _, charts_more f.0 _ f.1 k, charts_next c.args.text.now c.args.places.now c.args.count ws c.loop-i.i f.0 (omega arith) f.2)

pub shape_of-page : goal.shape_of-page
shape_of-page c = (c.loop-i.invariant c.requires.spots.0 c.requires.spots.1).1.kept

pub returns : goal.returns
returns c = λ ws a. let f = c.loop-i.invariant ws a in charts_written (charts_done c.args.text.now c.args.places.now c.args.count ws c.loop-i.i f.0 (omega arith) f.2 ∙ charts_whole c.args.text.now c.args.places.now c.args.count ws) f.1
