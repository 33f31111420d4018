use mathlib.Core.Path.{◌≡◌}
use lib.ListN.{take}
use Rattle.sums.specs.Parts.{last_of}
use Rattle.tallies.specs.Rows.{More, SeenWord, ShownFed}
use Rattle.tallies.proofs.feed_word.Given as goal

abbrev pub invariant-loop-c : goal.invariant-loop-c
invariant-loop-c l = (l.last ≡ last_of (take l.c-index l.w) l.before) × More l.to l.initial.sums l.sums × SeenWord (take l.c-index l.w) l.initial.seen l.seen (ShownFed l.waves l.to l.from l.s l.initial.sums l.sums)
