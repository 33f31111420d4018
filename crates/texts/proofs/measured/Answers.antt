-- `measured` meets its contract: a text too long, one that could not be read, and one that was read.
use Rattle.tokens.proofs.Faults.{fault_too_long}
use Rattle.texts.proofs.Sounds.{sound_fault}
use Rattle.texts.proofs.measured.Goals as goal

pub returns-then-text-gt-TEXT_MOST : goal.returns-then-text-gt-TEXT_MOST
returns-then-text-gt-TEXT_MOST c = λ d h. sound_fault _ (fault_too_long _ c.if-text-gt-TEXT_MOST.true)

pub returns-then-c-ne0 : goal.returns-then-c-ne0
returns-then-c-ne0 c = λ d h. c.unread.ensures ((h c.if-text-gt-TEXT_MOST.false).refuses c.if-c-ne0.true)

pub judged-requires : goal.judged-requires
judged-requires c =
    let few = c.requires.2 c.if-text-gt-TEXT_MOST.false c.if-c-ne0.false in (c.requires.0, c.requires.1, few.0, few.1)

pub returns : goal.returns
returns c = λ d h. c.judged.ensures c.if-text-gt-TEXT_MOST.false d ((h c.if-text-gt-TEXT_MOST.false).reads c.if-c-ne0.false)
