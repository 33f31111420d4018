use mathlib.Core.List.{List}
use Rattle.tokens.specs.Tokens.{Toks, left}
use Rattle.meaning.specs.Reader.{until}
use Rattle.meaning.specs.Timing.{Wave, entry}
use Rattle.sets.specs.Sets.{list_of}
use Rattle.words.specs.Cursor.{stream}
use Rattle.spots.specs.Answers.{Answers}
use Rattle.spots.specs.Spots.{Spots}
use Rattle.spots.proofs.Following.{Turns}
use Rattle.spots.proofs.entries_spots.Given as goal

abbrev pub invariant-loop-set : goal.invariant-loop-set
invariant-loop-set l = (ws a : List Wave) (us : Toks) → Spots l.text l.initial.spots ws → Answers l.text l.initial.cursor (until "}" (entry (list_of l.set)) ws) a us → Turns l.text (entry (list_of l.set)) (Spots l.text l.spots) l.cursor a us

abbrev pub decreases-loop-set : goal.decreases-loop-set
decreases-loop-set l = left (stream l.text l.cursor)
