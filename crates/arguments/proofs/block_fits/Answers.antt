-- `block_fits` meets its contract. The invariant: the first k signals of the block fit.
use Prim.Native.Nat.{ℕ, ◌+◌}
use native.Mathlib.Omega.{arith}
use mathlib.Core.Path.{◌≡◌, sym, ◌∙◌}
use mathlib.Core.Bool.{true}
use borrow.Author.Count.{below_more}
use Rattle.arguments.specs.Supplied.{fits_at}
use Rattle.arguments.proofs.Blocks.{block_idle, block_each, block_not}
use Rattle.arguments.proofs.block_fits.Goals as goal

pub returns-then-idle : goal.returns-then-idle
returns-then-idle c =
    let none = c.idle.ensures c.if-idle.true in
    λ text b xs uses sup. block_idle c.args.t c.args.from uses sup c.requires.3 none

pub returns-then-not-fitting : goal.returns-then-not-fitting
returns-then-not-fitting c =
    let k = c.loop-k.k in
    λ text b xs uses sup.
    block_not c.args.t c.args.from (c.args.from + k)
    (sym (c.fitting.ensures text b xs uses sup) ∙ c.if-not-fitting.true)

pub loop-k-preserved : goal.loop-k-preserved
loop-k-preserved c =
    let loop = c.loop-k in
    λ text b xs uses sup.
    below_more (λ (i : ℕ). fits_at b xs c.args.t (c.args.from + i) ≡ true) loop.k (loop.invariant text b xs uses sup)
    (sym (c.fitting.ensures text b xs uses sup) ∙ c.if-not-fitting.false)

pub returns : goal.returns
returns c =
    let loop = c.loop-k in
    λ text b xs uses sup. block_each c.args.t c.args.from (λ i l. loop.invariant text b xs uses sup i (omega arith))
