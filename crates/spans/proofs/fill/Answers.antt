-- `fill` meets its contract: the first table, and then the others.
use mathlib.Core.Path.{refl}
use mathlib.Core.List.{[]}
use Rattle.tokens.specs.Written.{bytes}
use Rattle.meaning.specs.Reader.{until}
use Rattle.meaning.specs.Timing.{table}
use Rattle.held.proofs.Rest.{moves_leaves}
use Rattle.held.proofs.Grammar.{moves_table}
use Rattle.spots.specs.Spots.{names_in}
use Rattle.spots.proofs.Following.{behind}
use Rattle.spots.proofs.Tabling.{timing_first}
use Rattle.spans.proofs.Tables.{spans_none, still_sized}
use Rattle.spans.proofs.fill.Goals as goal

pub table-d-requires : goal.table-d-requires
unfolding bytes
table-d-requires c =
    let ns = names_in c.args.scope in
    let t = timing_first ns c.requires.answers.2 c.due-a.ensures c.due-b.ensures in
    record { sized = c.requires.sized; held = ([], t.0, t.1, record { count = refl; spans = spans_none c.requires.by_index }, t.2) }

pub others-requires : goal.others-requires
unfolding bytes
others-requires c =
    let ns = names_in c.args.scope in
    let t = timing_first ns c.requires.answers.2 c.due-a.ensures c.due-b.ensures in
    let w = c.table-d.ensures [] t.0 t.1 (record { count = refl; spans = spans_none c.requires.by_index }) t.2 in
    let k = c.table-d.auto in record { sized = (still_sized c.requires.sized.0 (k.firsts, k.lasts, k.periods), c.requires.sized.1); held = (t.0, c.requires.answers.0, c.requires.answers.1, w.1, behind (table ns []) (until "}" (table ns)) (moves_leaves (moves_table ns [])) t.2 t.3 w.0) }

pub returns : goal.returns
unfolding bytes
returns c =
    let ns = names_in c.args.scope in
    λ it us x. (
    let t = timing_first ns x c.due-a.ensures c.due-b.ensures in
    let w = c.table-d.ensures [] t.0 t.1 (record { count = refl; spans = spans_none c.requires.by_index }) t.2 in
    c.others.ensures t.0 it us w.1 (behind (table ns []) (until "}" (table ns)) (moves_leaves (moves_table ns [])) t.2 t.3 w.0))
