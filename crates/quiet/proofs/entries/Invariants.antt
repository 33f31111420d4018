use Rattle.tokens.specs.Tokens.{Toks, left}
use Rattle.meaning.specs.Reader.{until}
use Rattle.words.specs.Cursor.{stream}
use Rattle.spots.specs.Answers.{Answers}
use Rattle.spots.proofs.Following.{Turns}
use Prim.Native.Nat.{ℕ}
use mathlib.Core.List.{List}
use Rattle.meaning.specs.Timing.{Wave, entry}
use Rattle.quiet.specs.Quiet.{WavesIn}
use Rattle.quiet.proofs.entries.Given as goal

abbrev pub invariant-loop-cursor : goal.invariant-loop-cursor
invariant-loop-cursor l = (sigs : List ℕ) (s a : List Wave) (us : Toks) → WavesIn l.period s → Answers l.text l.initial.cursor (until "}" (entry sigs) s) a us → Turns l.text (entry sigs) (WavesIn l.period) l.cursor a us

abbrev pub decreases-loop-cursor : goal.decreases-loop-cursor
decreases-loop-cursor l = left (stream l.text l.cursor)
