-- `tables` meets its contract: the first table and the others.
use mathlib.Core.List.{[]}
use Rattle.tokens.specs.Written.{bytes}
use Rattle.meaning.specs.Reader.{until}
use Rattle.meaning.specs.Timing.{table}
use Rattle.held.proofs.Rest.{moves_leaves}
use Rattle.held.proofs.Grammar.{moves_table}
use Rattle.spots.proofs.Following.{behind}
use Rattle.spots.proofs.Tabling.{timing_first}
use Rattle.quiet.proofs.Keeping.{some_where, no_tables}
use Rattle.quiet.proofs.tables.Goals as goal

pub table-requires : goal.table-requires
unfolding bytes
table-requires c =
    let p = c.requires in
    let f = timing_first p.0 p.3 c.due-a.ensures c.due-b.ensures in
    (p.0, record { state = []; kept = no_tables; answer = f.0; rest = f.1; read = f.2 })

pub others-requires : goal.others-requires
unfolding bytes
others-requires c =
    let p = c.requires in
    let f = timing_first p.0 p.3 c.due-a.ensures c.due-b.ensures in
    let w = c.in_ok-d.ensures p.0 [] f.0 f.1 no_tables f.2 in
    (p.0, record { state = f.0; kept = w.1; answer = p.1; rest = p.2; read = behind (table p.0 []) (until "}" (table p.0)) (moves_leaves (moves_table p.0 [])) f.2 f.3 w.0 })

pub returns : goal.returns
unfolding bytes
returns c =
    some_where c.others.result (λ d e ns it us x.
    let f = timing_first ns x c.due-a.ensures c.due-b.ensures in
    let w = c.in_ok-d.ensures ns [] f.0 f.1 no_tables f.2 in
    ((rw e at (c.others.ensures ns)) f.0 it us w.1 (behind (table ns []) (until "}" (table ns)) (moves_leaves (moves_table ns [])) f.2 f.3 w.0)).1)
