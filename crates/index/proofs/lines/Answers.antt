-- `lines` meets its contract. The invariant: the patterns up to number k have their lines.
use native.Mathlib.Omega.{arith}
use mathlib.Core.Path.{ap}
use lib.ListN.{length}
use Rattle.sections.proofs.Laws.{name_short}
use Rattle.index.proofs.Left.{next_named, next_fits}
use Rattle.index.proofs.Writing.{wrote_none, wrote_all, wrote_next}
use Rattle.index.proofs.lines.Goals as goal

pub loop-k-init : goal.loop-k-init
loop-k-init c = λ ps run h. wrote_none h _ _

pub listed_at-s-requires : goal.listed_at-s-requires
listed_at-s-requires c =
    let h = c.requires.0.lists in
    record { decls = _; decl = _; named = next_named h c.loop-k-test.true (c.loop-k.invariant _ _ h).left }

pub line-end-requires : goal.line-end-requires
line-end-requires c =
    let h = c.requires.0.lists in
    let short = name_short c.args.text.now c.args.list.now c.loop-k.k h.short c.loop-k-test.true in
    (omega (arith, ap length c.name_bytes.ensures, short), omega (arith, c.loop-k.auto, c.loop-k-test.true, c.requires.1, (c.loop-k.invariant _ _ h).adds.within))

pub overflow_add-first : goal.overflow_add-first
overflow_add-first c =
    let h = c.requires.0.lists in
    record { fits = omega (arith, next_fits h c.loop-k-test.true (c.loop-k.invariant _ _ h).left c.listed_at-s.ensures) }

pub loop-k-preserved : goal.loop-k-preserved
loop-k-preserved c = λ ps run h. wrote_next h (c.loop-k.invariant ps run h) c.args.keys.now _ c.loop-k-test.true c.listed_at-s.ensures c.requires.2 c.name_bytes.ensures (rw c.number_at-keyword.ensures at c.line-end.ensures)

pub returns : goal.returns
returns c = λ ps run h. wrote_all h (c.loop-k.invariant ps run h) (omega arith)
