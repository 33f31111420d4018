-- `rows` is safe and ends: what is done stays within what is due, and each window after the first brings a row at least.
use native.Mathlib.Omega.{arith}
use Rattle.reels.proofs.shown.rows.Goals as goal

pub loop-done-smaller : goal.loop-done-smaller
loop-done-smaller g c = omega (arith, c.fitting-n.ensures.2 (omega arith))
