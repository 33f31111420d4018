use Rattle.tokens.specs.Tokens.{toks, left}
use Rattle.pins.specs.Shown.{table_of}
use Rattle.tallies.specs.Rows.{FitsFed}
use Rattle.tallies.proofs.Reading.{Reading, Seen}
use Rattle.tallies.proofs.fed_fits.Given as goal

abbrev pub invariant-loop-seen : goal.invariant-loop-seen
invariant-loop-seen l = Reading l.text l.place l.at l.last (FitsFed l.waves l.s (table_of l.table) l.row) × Seen l.seen (FitsFed l.waves l.s (table_of l.table) l.row)

abbrev pub decreases-loop-seen : goal.decreases-loop-seen
decreases-loop-seen l = left (toks l.text l.at)
