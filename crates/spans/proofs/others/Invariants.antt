use Rattle.tokens.specs.Tokens.{Toks, left}
use Rattle.meaning.specs.Reader.{until}
use Rattle.meaning.specs.Timing.{Tables, table}
use Rattle.words.specs.Cursor.{stream}
use Rattle.spots.specs.Spots.{names_in}
use Rattle.spots.specs.Answers.{Answers}
use Rattle.spots.proofs.Following.{Turns}
use Rattle.spans.specs.Parts.{Held}
use Rattle.spans.proofs.others.Given as goal

abbrev pub invariant-loop-cursor : goal.invariant-loop-cursor
invariant-loop-cursor l =
    (tabs it : Tables) (us : Toks) → Held l.initial.j tabs l.initial.firsts l.initial.lasts l.initial.periods → Answers l.scope.text.now l.initial.cursor (until "}" (table (names_in l.scope)) tabs) it us
    → Turns l.scope.text.now (table (names_in l.scope)) (λ x. Held l.j x l.firsts l.lasts l.periods) l.cursor it us

abbrev pub decreases-loop-cursor : goal.decreases-loop-cursor
decreases-loop-cursor l = left (stream l.scope.text.now l.cursor)
