-- A pair that is not in order, or a cycle that is noted.
use native.Mathlib.Omega.{arith}
use mathlib.Core.Path.{refl, ap}
use mathlib.Core.Bool.{not}
use Rattle.crossings.proofs.Passing.{cycle_fails, cycle_noted}
use Rattle.crossings.proofs.cycle.Goals as goal

pub held-requires : goal.held-requires
held-requires c = (c.requires.0, c.requires.1, c.requires.3, omega (arith, c.requires.1, c.requires.2))

pub returns-then-not-held : goal.returns-then-not-held
returns-then-not-held c = (record { pins_long = refl; marks_long = refl }, λ tabs h. cycle_fails (c.held.ensures tabs h _) (ap not c.if-not-held.true))

pub note-requires : goal.note-requires
note-requires c = (c.requires.1, c.requires.2, c.requires.3, c.requires.4)

pub returns : goal.returns
returns c = (c.note.ensures.0, λ tabs h. cycle_noted (c.held.ensures tabs h c.args.place) (ap not c.if-not-held.false) c.note.ensures.1)
