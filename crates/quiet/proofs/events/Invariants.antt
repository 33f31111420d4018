use Prim.Native.Nat.{ℕ, ◌≤◌, ◌<◌}
use Rattle.tokens.specs.Tokens.{Toks, left}
use Rattle.meaning.specs.Reader.{until}
use Rattle.words.specs.Cursor.{stream}
use Rattle.spots.specs.Answers.{Answers}
use Rattle.spots.proofs.Following.{Turns}
use Rattle.meaning.specs.Bounds.{entry_most}
use Rattle.meaning.specs.Timing.{Events, event}
use Rattle.quiet.specs.Quiet.{Lined}
use Rattle.quiet.proofs.events.Given as goal

abbrev pub invariant-loop-e : goal.invariant-loop-e
invariant-loop-e l = (n : ℕ) → 0 < n → n ≤ entry_most → (s es : Events) (us : Toks) → Lined l.period n s → Answers l.text l.initial.cursor (until "}" (event n) s) es us → Turns l.text (event n) (Lined l.period n) l.cursor es us

abbrev pub decreases-loop-e : goal.decreases-loop-e
decreases-loop-e l = left (stream l.text l.cursor)
