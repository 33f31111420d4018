-- `pattern` meets its contract. The invariant: so many of the pattern's cycles were taken since its first Pattern began.
use Prim.Native.Nat.{◌+◌}
use native.Mathlib.Omega.{arith}
use mathlib.Core.Path.{refl, ◌∙◌}
use lib.ListN.{length}
use Rattle.flats.proofs.Showing.{shows_none, shows_more, shows_all}
use Rattle.flats.proofs.Parting.{some_fit, few_listed, next_window, parts_are}
use borrow.Author.Rules.{rules}
use Rattle.flats.proofs.pattern.Goals as goal

pub overflow_add-most : goal.overflow_add-most
overflow_add-most c = omega (arith, c.requires.long)

pub nonzero_div-most : goal.nonzero_div-most
nonzero_div-most c = omega arith

pub loop-done-init : goal.loop-done-init
loop-done-init c = (omega arith, shows_none _ _ _ _ _ _ _ _ _, refl)

pub overflow_sub-count : goal.overflow_sub-count
overflow_sub-count c = omega arith

pub overflow_add-first : goal.overflow_add-first
overflow_add-first c = omega (arith, c.requires.there, c.requires.is_meant.few, c.loop-done.invariant.0)

pub window-f-requires : goal.window-f-requires
window-f-requires c = next_window c.requires c.begin-f.ensures.number c.begin-f.ensures.no_row c.loop-done.invariant.1 refl c.loop-done.invariant.2 c.loop-done.invariant.0 refl c.least-due.ensures

pub overflow_add-done : goal.overflow_add-done
overflow_add-done c = omega (arith, c.requires.there, c.requires.is_meant.few, c.loop-done.invariant.0, c.least-due.ensures)

pub loop-done-smaller : goal.loop-done-smaller
loop-done-smaller c = omega (arith, c.least-due.ensures, c.loop-done-test.true, some_fit _ (c.args.ground.now.signals + 2) (length c.args.buffer.now) refl (omega arith) c.requires.room)

pub loop-done-preserved : goal.loop-done-preserved
loop-done-preserved c = (omega (arith, c.loop-done.invariant.0, c.least-due.ensures), shows_more c.loop-done.invariant.1 c.window-f.ensures, search rules)

pub finish-p-requires : goal.finish-p-requires
finish-p-requires c = omega (arith, c.loop-done.invariant.1.takes.hand_kept, c.requires.long)

pub overflow_add-result : goal.overflow_add-result
overflow_add-result c = omega (arith, c.loop-done.invariant.1.takes.few_patterns, c.loop-done.invariant.1.many, c.loop-done.invariant.0, c.begin-f.ensures.number, c.requires.few, c.requires.there, c.requires.is_meant.few, few_listed c.requires.is_meant)

pub shape_of-page : goal.shape_of-page
shape_of-page c = c.finish-p.ensures.kept ∙ c.loop-done.invariant.1.takes.kept ∙ c.begin-f.ensures.writes.kept

pub shape_of-hand : goal.shape_of-hand
shape_of-hand c = c.loop-done.invariant.1.takes.hand_kept

pub shape_of-buffer : goal.shape_of-buffer
shape_of-buffer c = c.loop-done.invariant.2

pub returns : goal.returns
returns c = parts_are c.begin-f.ensures (shows_all c.loop-done.invariant.1 (omega (arith, c.loop-done.invariant.0, c.loop-done-test.false))) c.finish-p.ensures refl refl
