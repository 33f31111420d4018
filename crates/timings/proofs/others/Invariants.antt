use Rattle.tokens.specs.Tokens.{Toks, left}
use Rattle.meaning.specs.Reader.{until}
use Rattle.meaning.specs.Timing.{Tables, table}
use Rattle.words.specs.Cursor.{stream}
use Rattle.spots.specs.Answers.{Answers}
use Rattle.spots.specs.Spots.{names_in, signals_in}
use Rattle.timings.specs.Lines.{MoreSheets}
use Rattle.spots.proofs.Following.{Turns}
use Rattle.timings.proofs.others.Given as goal

abbrev pub invariant-loop-cursor : goal.invariant-loop-cursor
invariant-loop-cursor l = (tabs it : Tables) (us : Toks) → Answers l.scope.text.now l.initial.cursor (until "}" (table (names_in l.scope)) tabs) it us → Turns l.scope.text.now (table (names_in l.scope)) (λ x. MoreSheets l.initial.page l.initial.p (signals_in l.scope.text.now l.scope.places.now l.count) tabs x l.page l.p) l.cursor it us

abbrev pub decreases-loop-cursor : goal.decreases-loop-cursor
decreases-loop-cursor l = left (stream l.scope.text.now l.cursor)
