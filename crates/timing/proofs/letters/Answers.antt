-- `letters` meets its contract. The invariant: reading on from here, with the letters so far, is reading all alternatives.
use mathlib.Core.List.{[]}
use Rattle.tokens.specs.Written.{bytes}
use Rattle.meaning.specs.Timing.{alternative, letters}
use Rattle.words.proofs.Flow.{then, given}
use Rattle.timing.specs.Events.{Lettered}
use Rattle.timing.proofs.Making.{again, fewer, leaves, made, makes_then}
use Rattle.timing.proofs.EventLetters.{takes_alternative}
use Rattle.timing.proofs.letters.Goals as goal

pub loop-d-smaller : goal.loop-d-smaller
unfolding alternative bytes
loop-d-smaller c = fewer takes_alternative (c.loop-d.invariant _ (c.more-a.ensures [] c.no_letters.ensures)) c.is.ensures c.loop-d-test.true
    (λ es k. made {P = Lettered c.more-a-in-loop-d.result.n c.more-a-in-loop-d.result.l} (then _ c.due-d.ensures (then _ c.letter-y.ensures given)) (λ a. c.more-a-in-loop-d.ensures es k))

pub loop-d-preserved : goal.loop-d-preserved
unfolding alternative bytes
loop-d-preserved c = λ es₀ h. again takes_alternative (c.loop-d.invariant es₀ h) c.is.ensures c.loop-d-test.true
    (λ es k. made (then _ c.due-d.ensures (then _ c.letter-y.ensures given)) (λ a. c.more-a-in-loop-d.ensures es k))

pub returns : goal.returns
unfolding letters bytes
returns c = makes_then _ c.letter-x.ensures (leaves takes_alternative (c.loop-d.invariant _ (c.more-a.ensures [] c.no_letters.ensures)) c.is.ensures c.loop-d-test.false)
