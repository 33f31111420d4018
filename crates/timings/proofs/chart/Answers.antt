-- `chart` meets its contract. The invariant: what is written, and the entries of the characters that are left, are the signal's entries.
use mathlib.Core.Path.{refl, sym, ap, ◌∙◌}
use mathlib.Core.List.{[], ◌∷◌, ◌++◌}
use Rattle.folded.specs.Pieces.{laid, each}
use Rattle.folded.specs.Flat.{Entries}
use Rattle.folds.proofs.Laws.{writes_nothing}
use Rattle.timings.proofs.Telling.{spot_none, spot_some, all_bare, some_there}
use Rattle.timings.proofs.Writing.{chart_nothing, chart_writes, all_put, entry_put_lem, entries_more}
use native.Mathlib.Omega.{arith}
use Rattle.timings.proofs.chart.Goals.{then-spot-ne0, else-spot-ne0}
use Rattle.timings.proofs.chart.Goals as goal

pub returns-then-is_bare : goal.returns-then-is_bare
returns-then-is_bare c =
    λ ws a. chart_nothing c.args.name.now c.args.s _ _ (all_bare c.args.s a c.args.chars.now (λ k. omega (arith, c.type_inv.chars k)) (sym c.is_bare.ensures ∙ c.if-is_bare.true))

pub loop-char-init : goal.loop-char-init
unfolding laid each
loop-char-init c = λ ws a. ([], writes_nothing _ _, refl)

pub entry-p-requires : goal.entry-p-requires
entry-p-requires c =
    let i = c.loop-char.char-index in
    let x = spot_some c.args.chars.now c.args.s i c.requires.spots.1 c.loop-char-test.true (omega (arith, c.type_inv.chars i)) c.if-spot-ne0.true in
    (x.0, x.1)

pub loop-char-preserved : goal.loop-char-preserved
loop-char-preserved c =
    λ ws a.
    let i = c.loop-char.char-index in
    let byte = c.type_inv.chars i in
    let f = c.loop-char.invariant ws a in
    elim c.if-spot-ne0.branch [
      | then-spot-ne0 w ↦
          let x = spot_some c.args.chars.now c.args.s i a c.loop-char-test.true (omega (arith, byte)) w.if-spot-ne0.true in
          rw (w.page-is, w.p-is) (f.0 ++ (_, x.0) ∷ [], entries_more f.0 (_, x.0) f.1 (w.entry-p.ensures x.0 x.1), entry_put_lem f.0 f.2 x.2 refl)
      | else-spot-ne0 w ↦
          rw (w.page-is, w.p-is) (f.0, f.1, ap (λ (l : Entries). f.0 ++ l) (sym (spot_none c.args.chars.now c.args.s i a c.loop-char-test.true (omega (arith, byte)) w.if-spot-ne0.false)) ∙ f.2)
    ]

pub shape_of-page : goal.shape_of-page
shape_of-page c = c.add.ensures.kept ∙ c.loop-char.auto.page ∙ c.add-p.ensures.kept ∙ c.add-q.ensures.kept

pub returns : goal.returns
returns c =
    λ ws a.
    let x = some_there c.args.s a c.args.chars.now (λ k. omega (arith, c.type_inv.chars k)) (sym c.is_bare.ensures ∙ c.if-is_bare.false) in
    let f = c.loop-char.invariant ws a in
    chart_writes c.args.s x.2 (all_put c.args.s ws c.args.chars.now c.loop-char.char-index f.0 f.2 (omega arith)) c.add-q.ensures c.add-p.ensures f.1 c.add.ensures
