-- By what the body leaves: nothing, a character, or its argument's last one.
use native.Mathlib.Omega.{arith}
use mathlib.Core.Path.{sym, ◌∙◌}
use mathlib.Core.Bool.{true≢false}
use Rattle.tallies.proofs.Grown.{more_none}
use Rattle.tallies.proofs.Entering.{passed_more, passed_stored, leaves_nothing, leaves_char, leaves_last}
use Rattle.tallies.proofs.leave.Goals as goal

pub returns-then-u-eq0 : goal.returns-then-u-eq0
returns-then-u-eq0 c = (passed_more more_none, λ cs e k b. leaves_nothing _ c.args.sums.now c.args.from c.args.s (omega arith) c.byte-u.ensures c.if-u-eq0.true cs)

pub returns-then-u-ne-MARK : goal.returns-then-u-ne-MARK
returns-then-u-ne-MARK c = (passed_stored c.store.ensures (omega arith), λ cs e k b. leaves_char _ c.args.sums.now c.args.from c.args.s (omega arith) c.byte-u.ensures c.if-u-eq0.false c.if-u-ne-MARK.true c.store.ensures cs)

pub returns-then-last-eq0 : goal.returns-then-last-eq0
returns-then-last-eq0 c = (passed_more c.spoil.ensures.0, λ cs e k b. absurd (true≢false (sym c.spoil.ensures.1 ∙ b)))

pub returns : goal.returns
returns c = (passed_stored c.store-2.ensures (omega arith), λ cs e k b. leaves_last _ c.args.sums.now c.args.from c.args.s (omega arith) c.byte-u.ensures c.if-u-ne-MARK.false c.if-last-eq0.false c.store-2.ensures cs e k)
