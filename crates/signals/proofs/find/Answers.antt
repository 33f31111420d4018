-- `find` meets its contract. The invariant: what is found of all names is what is found among those that the chain still leads to, or else what was found.
use native.Mathlib.Omega.{arith}
use mathlib.Core.Path.{refl, sym, ◌∙◌}
use Rattle.signals.proofs.Chains.{walk_begins, walk_below, walk_falls, walk_turn, walk_ends}
use Rattle.signals.proofs.find.Goals.{then-is_named, else-is_named}
use Rattle.signals.proofs.find.Goals as goal

pub loop-k-init : goal.loop-k-init
loop-k-init c = walk_begins c.requires c.chain.ensures

pub overflow_mul-i : goal.overflow_mul-i
overflow_mul-i c = omega (arith, walk_below c.loop-k.invariant, c.requires.few)

pub is_named-requires : goal.is_named-requires
is_named-requires c = (omega (arith, walk_below c.loop-k.invariant, c.requires.few, c.requires.long), record { some = omega arith; last = refl })

pub overflow_add-k-in-loop-k : goal.overflow_add-k-in-loop-k
overflow_add-k-in-loop-k c = omega (arith, walk_below c.loop-k.invariant, c.requires.few)

pub offset_bounds-places-i : goal.offset_bounds-places-i
offset_bounds-places-i c = omega (arith, walk_below c.loop-k.invariant, c.requires.few)

pub bounds-places-i : goal.bounds-places-i
bounds-places-i c = omega (arith, walk_below c.loop-k.invariant, c.requires.few, c.requires.long)

pub loop-k-smaller : goal.loop-k-smaller
loop-k-smaller c = walk_falls c.loop-k.invariant c.loop-k-test.true

pub loop-k-preserved : goal.loop-k-preserved
loop-k-preserved c =
    elim c.if-is_named.branch [
      | then-is_named w ↦ walk_turn c.loop-k.invariant c.loop-k-test.true (sym w.if-is_named.true ∙ c.is_named.ensures) w.found-is
      | else-is_named w ↦ walk_turn c.loop-k.invariant c.loop-k-test.true (sym w.if-is_named.false ∙ c.is_named.ensures) w.found-is
    ]

pub returns : goal.returns
returns c = walk_ends c.loop-k.invariant (omega arith)
