-- `lutemeteor_sound` meets its contract: the answer packed, case by case.
use Rattle.texts.proofs.Packing.{packs_refusal, packs_far, packs_none, packs_five}
use Rattle.texts.proofs.lutemeteor_sound.Goals as goal

pub returns-then-refusal-le-TEXT_MOST : goal.returns-then-refusal-le-TEXT_MOST
returns-then-refusal-le-TEXT_MOST c = packs_refusal _ c.in-Err.ensures c.if-refusal-le-TEXT_MOST.true

pub returns-then-numbers-lt5 : goal.returns-then-numbers-lt5
returns-then-numbers-lt5 c = packs_none _ c.in-Ok.ensures c.if-numbers-lt5.true

pub returns-else-refusal-le-TEXT_MOST : goal.returns-else-refusal-le-TEXT_MOST
returns-else-refusal-le-TEXT_MOST c = packs_far _ c.in-Err.ensures c.if-refusal-le-TEXT_MOST.false

pub returns-else-numbers-lt5 : goal.returns-else-numbers-lt5
returns-else-numbers-lt5 c = packs_five _ c.in-Ok.ensures c.if-numbers-lt5.false c.copy_from_slice.ensures.after
