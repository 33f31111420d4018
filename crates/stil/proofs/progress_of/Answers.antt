-- `progress_of` meets its contract: what the first number says.
use Rattle.stil.proofs.Carrying.{is_open_lem, is_closed_lem, is_refused_lem}
use Rattle.stil.proofs.progress_of.Goals as goal

pub returns-then-kind-eq-IS_OPEN : goal.returns-then-kind-eq-IS_OPEN
returns-then-kind-eq-IS_OPEN c =
    let args = c.args in
    is_open_lem args.kind args.a args.b args.c args.d args.e c.if-kind-eq-IS_OPEN.true c.byte_of-run.ensures c.byte_of-mode.ensures

pub returns-then-kind-eq-IS_CLOSED : goal.returns-then-kind-eq-IS_CLOSED
returns-then-kind-eq-IS_CLOSED c =
    let args = c.args in
    is_closed_lem args.kind args.a args.b args.c args.d args.e c.if-kind-eq-IS_OPEN.false c.if-kind-eq-IS_CLOSED.true

pub returns : goal.returns
returns c =
    let args = c.args in
    is_refused_lem args.kind args.a args.b args.c args.d args.e c.if-kind-eq-IS_OPEN.false c.if-kind-eq-IS_CLOSED.false c.byte_of-number.ensures
