-- Each turn looks at the next signal.
use native.Mathlib.Omega.{arith}
use mathlib.Core.Path.{◌≡◌, sym, ◌∙◌}
use mathlib.Core.Bool.{false, true≢false}
use mathlib.Core.Option.{none}
use borrow.Author.Count.{below_more}
use Rattle.tallies.specs.Rows.{sum_at}
use Rattle.tallies.proofs.Stored.{flag_off}
use Rattle.tallies.proofs.Grown.{under_off}
use Rattle.tallies.proofs.grants.Goals as goal

pub returns-then-byte-ne0 : goal.returns-then-byte-ne0
returns-then-byte-ne0 c = λ e. absurd (true≢false (sym e))

pub returns-then-byte-ne0-2 : goal.returns-then-byte-ne0-2
returns-then-byte-ne0-2 c = λ e. absurd (true≢false (sym e))

pub returns-then-byte-ne0-3 : goal.returns-then-byte-ne0-3
returns-then-byte-ne0-3 c = λ e. absurd (true≢false (sym e))

pub loop-s-preserved : goal.loop-s-preserved
loop-s-preserved c = below_more (λ i. (sum_at c.args.sums.now c.args.r).under i none ≡ false) _ c.loop-s.invariant (under_off c.args.sums.now c.args.r c.loop-s.s none (sym c.byte-in-loop-s.ensures ∙ c.if-byte-ne0-3.false))

pub returns : goal.returns
returns c = λ e. record { good = flag_off (sym c.byte.ensures ∙ c.if-byte-ne0.false); untabled = flag_off (sym c.byte-2.ensures ∙ c.if-byte-ne0-2.false); unshown = λ i h. c.loop-s.invariant i (omega arith) }
