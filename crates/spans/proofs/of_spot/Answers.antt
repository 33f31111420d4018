-- `of_spot` meets its contract: no waveform, or the entry that gives it.
use mathlib.Core.Path.{sym, subst}
use Rattle.spans.specs.Parts.{Spanned}
use Rattle.spans.proofs.Fitting.{spot_nothing, spot_entry}
use Rattle.spans.proofs.of_spot.Goals as goal

pub returns-then-spot-eq0 : goal.returns-then-spot-eq0
returns-then-spot-eq0 c = λ s ws x g k. (
    subst (Spanned _) (sym (spot_nothing s c.args.char c.args.spot ws x c.if-spot-eq0.true)) c.nothing.ensures)

pub read-requires : goal.read-requires
read-requires c =
    let e = spot_entry c.requires.0 c.args.char c.args.spot c.requires.1 c.requires.2 c.if-spot-eq0.false in
    (e.0, e.1)

pub returns : goal.returns
returns c = λ s ws x g k. (
    let e = spot_entry s c.args.char c.args.spot ws x c.if-spot-eq0.false in
    let y = e.2 g k in
    subst (Spanned _) (sym y.1) (c.read.ensures e.0 e.1 y.0))
