-- Where nothing is remembered, the body is played.
use Rattle.words.proofs.Words.{zeros}
use Rattle.plays.proofs.Recalling.{heads_none, entered_all}
use Rattle.plays.proofs.enter.Goals as goal

pub play_body-requires : goal.play_body-requires
play_body-requires c = (c.requires, heads_none (zeros 0))

pub returns : goal.returns
returns c = entered_all c.play_body.ensures (zeros 0)
