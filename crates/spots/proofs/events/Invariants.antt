use Prim.Native.Nat.{ℕ, ◌≤◌, ◌<◌}
use mathlib.Core.Path.{◌≡◌}
use lib.ListN.{length}
use Rattle.tokens.specs.Tokens.{Toks, left}
use Rattle.meaning.specs.Bounds.{entry_most}
use Rattle.meaning.specs.Reader.{until}
use Rattle.meaning.specs.Timing.{Events, event}
use Rattle.words.specs.Cursor.{stream}
use Rattle.spots.specs.Answers.{Answers}
use Rattle.spots.proofs.Following.{Turns}
use Rattle.spots.proofs.events.Given as goal

abbrev pub invariant-loop-e : goal.invariant-loop-e
invariant-loop-e l = (n : ℕ) (s es : Events) (us : Toks) → 0 < n → n ≤ entry_most → length s.0 ≡ n → Answers l.text l.initial.cursor (until "}" (event n) s) es us → Turns l.text (event n) (λ x. length x.0 ≡ n) l.cursor es us

abbrev pub decreases-loop-e : goal.decreases-loop-e
decreases-loop-e l = left (stream l.text l.cursor)
