-- Word by word: a turn of the loop passes a word.
use native.Mathlib.Omega.{arith}
use Rattle.feeds.proofs.Passing.{skipping, skipping_from, skipped, skipped_none, skipping_more, skipping_less}
use Rattle.feeds.proofs.skip.Goals as goal

pub loop-more-init : goal.loop-more-init
loop-more-init c = skipping c.pass-first.ensures

pub returns-then-word : goal.returns-then-word
returns-then-word c =
    skipped_none (skipping_from c.pass-first.ensures c.loop-more.invariant) c.at_word-word.ensures c.if-word.true

pub loop-more-smaller : goal.loop-more-smaller
loop-more-smaller c =
    skipping_less c.loop-more.invariant c.at_word-word.ensures c.pass-p.ensures (omega arith) c.if-word.false

pub loop-more-preserved : goal.loop-more-preserved
loop-more-preserved c =
    skipping_more c.loop-more.invariant c.at_word-word.ensures c.pass-p.ensures

pub returns : goal.returns
returns c = skipped (skipping_from c.pass-first.ensures c.loop-more.invariant) (omega arith)
