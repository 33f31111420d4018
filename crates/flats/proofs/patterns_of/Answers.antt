-- `patterns_of` meets its contract. The invariant: whatever accepted text the tables hold, its listed patterns from number k on are left.
use native.Mathlib.Omega.{arith}
use mathlib.Core.Path.{refl, ◌∙◌}
use mathlib.Core.List.{[]}
use Rattle.flats.proofs.Parting.{few_listed}
use Rattle.flats.proofs.Running.{before_all, before_none, named, coming_there, before_next}
use borrow.Author.Rules.{rules}
use Rattle.flats.proofs.patterns_of.Goals as goal

pub loop-k-init : goal.loop-k-init
loop-k-init c = (omega arith, omega arith, refl, refl, refl, λ m h. before_all h _)

pub listed_at-share-requires : goal.listed_at-share-requires
listed_at-share-requires c = record { decls = _; decl = _; named = named c.requires.is_meant (c.loop-k.invariant.5 _ c.requires.is_meant) c.loop-k-test.true }

pub pattern-part-requires : goal.pattern-part-requires
pattern-part-requires c = record { it = c.requires.it; is_meant = c.requires.is_meant; there = coming_there c.requires.is_meant (c.loop-k.invariant.5 _ c.requires.is_meant) c.loop-k-test.true c.listed_at-share.ensures; few = omega (arith, c.loop-k.invariant.1, c.loop-k-test.true); long = omega (arith, c.loop-k.invariant.3, c.requires.long); room = omega (arith, c.loop-k.invariant.4, c.requires.room) }

pub overflow_add-first : goal.overflow_add-first
overflow_add-first c = omega (arith, coming_there c.requires.is_meant (c.loop-k.invariant.5 _ c.requires.is_meant) c.loop-k-test.true c.listed_at-share.ensures, c.requires.is_meant.few)

pub overflow_add-k : goal.overflow_add-k
overflow_add-k c = omega (arith, c.loop-k-test.true, few_listed c.requires.is_meant)

pub loop-k-smaller : goal.loop-k-smaller
loop-k-smaller c = omega (arith, c.loop-k-test.true)

pub loop-k-preserved : goal.loop-k-preserved
loop-k-preserved c = (omega (arith, c.loop-k-test.true), omega (arith, c.loop-k.invariant.1, c.pattern-part.ensures.few), (c.pattern-part.ensures.on (λ j. [])).writes.kept ∙ c.loop-k.invariant.2, search rules, search rules, λ m h. before_next h (c.loop-k.invariant.5 m h) c.loop-k-test.true c.listed_at-share.ensures c.pattern-part.ensures)

pub shape_of-page : goal.shape_of-page
shape_of-page c = c.loop-k.invariant.2

pub shape_of-hand : goal.shape_of-hand
shape_of-hand c = c.loop-k.invariant.3

pub shape_of-buffer : goal.shape_of-buffer
shape_of-buffer c = c.loop-k.invariant.4

pub returns : goal.returns
returns c = record { written = λ m h. (before_none h (c.loop-k.invariant.5 m h) (omega (arith, c.loop-k-test.false))).0; counts = λ m h. (before_none h (c.loop-k.invariant.5 m h) (omega (arith, c.loop-k-test.false))).1 }
