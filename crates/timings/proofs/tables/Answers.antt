-- `tables` meets its contract: the first table and the others, between the lines of Timing.
use mathlib.Core.List.{[]}
use Rattle.tokens.specs.Written.{bytes}
use Rattle.meaning.specs.Reader.{until}
use Rattle.meaning.specs.Timing.{table}
use Rattle.held.proofs.Rest.{moves_leaves}
use Rattle.held.proofs.Grammar.{moves_table}
use Rattle.spots.specs.Spots.{names_in}
use Rattle.spots.proofs.Following.{behind}
use Rattle.spots.proofs.Tabling.{timing_first}
use Rattle.timings.proofs.Tabling.{timing_writes}
use Rattle.timings.proofs.tables.Goals as goal

pub table-x-requires : goal.table-x-requires
unfolding bytes
table-x-requires c =
    let f = timing_first (names_in c.args.scope) c.requires.answers.2 c.due-a.ensures c.due-b.ensures in
    record { listed = c.requires.listed; answers = ([], f.0, f.1, f.2) }

pub others-q-requires : goal.others-q-requires
unfolding bytes
others-q-requires c =
    let ns = names_in c.args.scope in
    let f = timing_first ns c.requires.answers.2 c.due-a.ensures c.due-b.ensures in
    let w = c.table-x.ensures [] f.0 f.1 f.2 in
    record { listed = c.requires.listed; answers = (f.0, c.requires.answers.0, c.requires.answers.1, behind (table ns []) (until "}" (table ns)) (moves_leaves (moves_table ns [])) f.2 f.3 w.0) }

pub returns : goal.returns
unfolding bytes
returns c =
    λ it us x.
    let ns = names_in c.args.scope in
    let f = timing_first ns x c.due-a.ensures c.due-b.ensures in
    let w = c.table-x.ensures [] f.0 f.1 f.2 in
    let more = c.others-q.ensures f.0 it us (behind (table ns []) (until "}" (table ns)) (moves_leaves (moves_table ns [])) f.2 f.3 w.0) in
    timing_writes c.add-p.ensures w.1 more c.add.ensures
