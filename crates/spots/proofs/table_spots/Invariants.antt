use mathlib.Core.List.{List}
use Rattle.tokens.specs.Tokens.{Toks, left}
use Rattle.meaning.specs.Reader.{until}
use Rattle.meaning.specs.Timing.{Wave, waveforms}
use Rattle.words.specs.Cursor.{stream}
use Rattle.spots.specs.Answers.{Answers}
use Rattle.spots.specs.Spots.{names_in, Spots}
use Rattle.spots.proofs.Following.{Turns}
use Rattle.spots.proofs.table_spots.Given as goal

abbrev pub invariant-loop-scope : goal.invariant-loop-scope
invariant-loop-scope l = (ws a : List Wave) (us : Toks) → Spots l.scope.text.now l.initial.spots ws → Answers l.scope.text.now l.initial.cursor (until "}" (waveforms (names_in l.scope)) ws) a us → Turns l.scope.text.now (waveforms (names_in l.scope)) (Spots l.scope.text.now l.spots) l.cursor a us

abbrev pub decreases-loop-scope : goal.decreases-loop-scope
decreases-loop-scope l = left (stream l.scope.text.now l.cursor)
