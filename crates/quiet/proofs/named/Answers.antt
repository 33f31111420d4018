-- `named` meets its contract: a name, and its entries.
use Rattle.tokens.specs.Written.{bytes}
use Rattle.quiet.proofs.Keeping.{some_where}
use Rattle.quiet.proofs.Reading.{name_reads}
use Rattle.quiet.proofs.named.Goals as goal

pub entries-requires : goal.entries-requires
unfolding bytes
entries-requires c =
    let p = c.requires in
    let x = name_reads p.0 p.1.state p.1.read c.name-d.ensures c.due-e.ensures in
    (x.0, record { state = p.1.state; kept = p.1.kept; answer = p.1.answer; rest = p.1.rest; read = x.1 })

pub returns : goal.returns
unfolding bytes
returns c =
    λ ns. some_where c.entries.result (λ d e ws a us h y.
    let x = name_reads ns ws y c.name-d.ensures c.due-e.ensures in (rw e at (c.entries.ensures x.0)) ws a us h x.1)
