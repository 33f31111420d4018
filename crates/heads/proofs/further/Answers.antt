-- `further` meets its contract: the bodies of the word's kind, if it uses one, a label, or else the last heads.
use Rattle.tokens.specs.Written.{bytes}
use Rattle.heads.proofs.ByNumber.{of_part}
use Rattle.heads.proofs.Heads.{body_read, no_body_read, named_read, unnamed_read}
use Rattle.heads.proofs.further.Goals as goal

pub used-requires : goal.used-requires
used-requires c =
    let known = c.requires.0.describes in
    let these = of_part known c.equal-macros.result c.part_of-part.ensures in
    (known.ready, record { kind = _; decls = _; of_kind = these }, known.book_long, known.rows_long, c.requires.1, c.requires.2, c.requires.3)

pub returns-then-macros-equal : goal.returns-then-macros-equal
unfolding bytes
returns-then-macros-equal c =
    λ e h.
    body_read h c.args.d c.args.may _ c.equal-macros.ensures c.equal.ensures c.if-macros-equal.true c.part_of-part.ensures
    (λ kind ds o. c.used.ensures kind ds c.args.declared.now.known.tables o)

pub returns-then-equal : goal.returns-then-equal
unfolding bytes
returns-then-equal c =
    λ e h.
    no_body_read h c.args.d c.args.may _ c.equal-macros.ensures c.equal.ensures c.if-macros-equal.false
    (named_read h c.args.d c.args.may _ c.equal-2.ensures c.if-equal.true (c.labelling.ensures c.args.declared.now.known.tables _ _ _ _ c.requires.2))

pub returns : goal.returns
unfolding bytes
returns c =
    λ e h.
    no_body_read h c.args.d c.args.may _ c.equal-macros.ensures c.equal.ensures c.if-macros-equal.false
    (unnamed_read h c.args.d c.args.may _ c.equal-2.ensures c.if-equal.false (c.shift_or_end.ensures c.args.declared.now.known.tables _ _ _ _))
