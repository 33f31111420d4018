-- By the slot, and whether the signal is unassigned.
use Rattle.tallies.proofs.Fitting.{ok_none, ok_unassigned, ok_char}
use Rattle.tallies.proofs.fits.Goals as goal

pub returns-then-t-ge-TABLES : goal.returns-then-t-ge-TABLES
returns-then-t-ge-TABLES c = λ tabs m. ok_none tabs _ c.args.s c.args.x c.if-t-ge-TABLES.true

pub returns-then-x-eq0 : goal.returns-then-x-eq0
returns-then-x-eq0 c = λ tabs m. ok_unassigned tabs _ c.args.s _ c.if-t-ge-TABLES.false c.if-x-eq0.true

pub returns : goal.returns
returns c = λ tabs m. ok_char tabs _ _ _ c.if-t-ge-TABLES.false c.if-x-eq0.false (c.has.ensures tabs m)
