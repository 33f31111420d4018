-- No turn is left out, whatever the body, and nothing is remembered.
use native.Mathlib.Omega.{arith}
use Rattle.words.proofs.Words.{zeros}
use Rattle.plays.proofs.Recalling.{heads_none, promised_all}
use Rattle.plays.proofs.turns.Goals as goal

pub needed_turns-requires : goal.needed_turns-requires
needed_turns-requires c = let p = c.requires in (p.0, p.1, p.2, p.3, heads_none (zeros 0))

pub returns : goal.returns
returns c = promised_all c.needed_turns.ensures (zeros 0) (omega arith)
