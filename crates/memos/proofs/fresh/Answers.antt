-- The signals' marks are set to none.
use native.Mathlib.Omega.{arith}
use Rattle.std.proofs.lemmas.List.{places}
use Rattle.memos.proofs.Rows.{writes_none}
use Rattle.memos.proofs.Marking.{freshened}
use Rattle.memos.proofs.fresh.Goals as goal

pub returns-then-memo-lt-TRACKS : goal.returns-then-memo-lt-TRACKS
returns-then-memo-lt-TRACKS c =
    (writes_none, λ long. absurd (omega (arith, c.if-memo-lt-TRACKS.true)))

pub returns : goal.returns
returns c =
    let w = freshened c.args.signals (omega arith) (grind (arith, places)) (omega (arith, c.requires.0, c.requires.1)) c.requires.1 (c.fill.ensures.after (λ y e. e)) in
    (w.0, λ long. w.1)
