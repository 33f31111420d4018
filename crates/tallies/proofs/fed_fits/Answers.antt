-- Each turn takes the next word, in which those that were seen fit already.
use Rattle.tallies.proofs.Reading.{reading_none, reading_all, seen_none, reading_seen}
use Rattle.tallies.proofs.fed_fits.Goals as goal

pub loop-seen-init : goal.loop-seen-init
loop-seen-init c = (reading_none, seen_none)

pub returns-then-word : goal.returns-then-word
returns-then-word c =
    λ cs d. let w = reading_all c.loop-seen.invariant.0 c.next_word-word.ensures c.if-word.true cs d in (w.0, λ tabs m. record { each = λ b k. w.1 b k tabs m })

pub loop-seen-preserved : goal.loop-seen-preserved
loop-seen-preserved c =
    let y = c.loop-seen.invariant in
    let fit = c.in_ok-last.ensures in
    reading_seen y.0 y.1 c.next_word-word.ensures c.bytes_of-w.ensures fit.0 fit.1
