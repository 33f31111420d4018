-- Every table has the waveforms, and each turn takes the next listed pattern.
use native.Mathlib.Omega.{arith}
use mathlib.Core.Path.{sym}
use mathlib.Core.Bool.{true≢false}
use borrow.Author.Count.{below_more}
use Rattle.grants.specs.Grants.{ListedFirst}
use Rattle.grants.proofs.Chosen.{plain_sound}
use Rattle.grants.proofs.plain.Goals as goal

pub returns-then-not-fine : goal.returns-then-not-fine
returns-then-not-fine c = λ e. absurd (true≢false (sym e))

pub loop-k-init : goal.loop-k-init
loop-k-init c = λ j h. absurd (omega arith)

pub returns-then-not-chooses : goal.returns-then-not-chooses
returns-then-not-chooses c = λ e. absurd (true≢false (sym e))

pub loop-k-preserved : goal.loop-k-preserved
loop-k-preserved c = below_more (λ j. ListedFirst _ _ _ _ j) _ c.loop-k.invariant (c.chooses.ensures c.if-not-chooses.false)

pub returns : goal.returns
returns c =
    let args' = c.args in
    let covered = c.fine.ensures c.if-not-fine.false in
    λ e places lists tplaces rows signals p d run h noted.
    plain_sound _ _ _ _ _ _ _ _ _ _ _ _ h args'.used.now noted
    (covered args'.text.now tplaces p.known.tables d.tables h.tabled.held)
    (λ k b. c.loop-k.invariant k (omega arith))
