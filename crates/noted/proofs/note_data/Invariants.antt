use Rattle.tokens.specs.Tokens.{toks, left}
use Rattle.noted.proofs.Marking.{Feeding}
use Rattle.noted.proofs.note_data.Given as goal

abbrev pub invariant-loop-word : goal.invariant-loop-word
invariant-loop-word l = Feeding l.text l.place l.at l.s l.initial.used l.used

abbrev pub decreases-loop-word : goal.decreases-loop-word
decreases-loop-word l = left (toks l.text l.at)
