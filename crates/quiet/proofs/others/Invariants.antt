use Rattle.tokens.specs.Tokens.{Toks, left}
use Rattle.meaning.specs.Reader.{until}
use Rattle.words.specs.Cursor.{stream}
use Rattle.spots.specs.Answers.{Answers}
use Rattle.spots.proofs.Following.{Turns}
use Rattle.meaning.specs.Signals.{Names}
use Rattle.meaning.specs.Timing.{Tables, table}
use Rattle.quiet.specs.Quiet.{TablesIn}
use Rattle.quiet.proofs.others.Given as goal

abbrev pub invariant-loop-cursor : goal.invariant-loop-cursor
invariant-loop-cursor l = (ns : Names) (s a : Tables) (us : Toks) → TablesIn s → Answers l.text l.initial.cursor (until "}" (table ns) s) a us → Turns l.text (table ns) (TablesIn) l.cursor a us

abbrev pub decreases-loop-cursor : goal.decreases-loop-cursor
decreases-loop-cursor l = left (stream l.text l.cursor)
