use mathlib.Core.Path.{◌≡◌}
use Rattle.tokens.specs.Tokens.{left}
use Rattle.words.specs.Cursor.{stream}
use Rattle.index.specs.Index.{keyword_before}
use Rattle.index.proofs.keyword_before.Given as goal

abbrev pub invariant-loop-here : goal.invariant-loop-here
invariant-loop-here l = keyword_before (stream l.text l.initial.here) l.p ≡ keyword_before (stream l.text l.here) l.p

abbrev pub decreases-loop-here : goal.decreases-loop-here
decreases-loop-here l = left (stream l.text l.here)
