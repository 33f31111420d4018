-- Every signal of the blocks so far fits; the first block with one that doesn't settles it, and where no block is left all fit.
use Prim.Native.Nat.{ℕ, ◌*◌}
use native.Mathlib.Omega.{arith}
use mathlib.Core.Path.{◌≡◌}
use mathlib.Core.Bool.{true}
use Rattle.arguments.specs.Supplied.{block_size, fits_at}
use Rattle.arguments.proofs.Counted.{fits_not, fits_so}
use Rattle.arguments.proofs.Blocks.{blocks_more}
use Rattle.arguments.proofs.fitted.Goals as goal

pub returns-then-not-block_fits : goal.returns-then-not-block_fits
returns-then-not-block_fits c =
    let turns = c.turns-t in
    λ text b xs uses sup.
    let other = (c.block_fits.ensures text b xs uses sup).other c.if-not-block_fits.true in
    fits_not uses sup (turns.ensures text b xs uses sup) other.0 other.1

pub loop-block-preserved : goal.loop-block-preserved
loop-block-preserved c =
    let turns = c.turns-t in
    let n = c.loop-block.block in
    λ text b xs uses sup k l.
    blocks_more {P = λ (k : ℕ). fits_at b xs turns.result k ≡ true} (n * block_size) (c.loop-block.invariant text b xs uses sup)
    ((c.block_fits.ensures text b xs uses sup).each c.if-not-block_fits.false) k (omega arith)

pub returns : goal.returns
returns c =
    let turns = c.turns-t in
    let loop = c.loop-block in
    λ text b xs uses sup. fits_so uses sup (turns.ensures text b xs uses sup) (loop.block * block_size) (omega arith) (loop.invariant text b xs uses sup)
