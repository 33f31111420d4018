-- `begin` meets its contract: the head, and what is behind it.
use Rattle.assigns.proofs.Table.{gave_zeros}
use Rattle.bodies.proofs.Telling.{head_is}
use Rattle.bodies.proofs.begin.Goals as goal

pub head-h-requires : goal.head-h-requires
head-h-requires c =
    let pre' = c.requires in
    (pre'.0, pre'.1, gave_zeros, pre'.3)

pub behind-requires : goal.behind-requires
behind-requires c =
    let pre' = c.requires in
    let args' = c.args in
    let head' = c.head-h in
    let s = pre'.0.describes in
    record {
      ready = (s.ready, pre'.2, head'.ensures.0, s.book_long, head'.ensures.1, pre'.4);
      by_index = (args'.c, _, args'.declared.now.known.tables, head_is args'.declared.now.rows.now (head'.ensures.2 pre'.0.env s));
    }

pub returns : goal.returns
returns c =
    let args' = c.args in
    let head' = c.head-h in
    let behind' = c.behind in
    (λ e s. behind'.ensures.0 e args'.d args'.c args'.declared.now.known.tables s.names_are (head_is args'.declared.now.rows.now (head'.ensures.2 e s)), behind'.ensures.1)
