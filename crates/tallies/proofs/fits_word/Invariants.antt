use mathlib.Core.Path.{◌≡◌}
use lib.ListN.{take}
use Rattle.pins.specs.Shown.{table_of}
use Rattle.sums.specs.Parts.{last_of}
use Rattle.tallies.specs.Rows.{SeenWord, FitsFed}
use Rattle.tallies.proofs.fits_word.Given as goal

abbrev pub invariant-loop-c : goal.invariant-loop-c
invariant-loop-c l = (l.last ≡ last_of (take l.c-index l.word) l.before) × SeenWord (take l.c-index l.word) l.initial.seen l.seen (FitsFed l.waves l.s (table_of l.table) l.row)
