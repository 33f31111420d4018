use Rattle.tokens.specs.Tokens.{Toks, left}
use Rattle.meaning.specs.Reader.{until}
use Rattle.words.specs.Cursor.{stream}
use Rattle.spots.specs.Answers.{Answers}
use Rattle.spots.proofs.Following.{Turns}
use mathlib.Core.List.{List}
use Rattle.meaning.specs.Signals.{Names}
use Rattle.meaning.specs.Timing.{Wave, waveforms}
use Rattle.quiet.specs.Quiet.{WavesIn}
use Rattle.quiet.proofs.waveforms.Given as goal

abbrev pub invariant-loop-cursor : goal.invariant-loop-cursor
invariant-loop-cursor l = (ns : Names) (s a : List Wave) (us : Toks) → WavesIn l.period s → Answers l.text l.initial.cursor (until "}" (waveforms ns) s) a us → Turns l.text (waveforms ns) (WavesIn l.period) l.cursor a us

abbrev pub decreases-loop-cursor : goal.decreases-loop-cursor
decreases-loop-cursor l = left (stream l.text l.cursor)
