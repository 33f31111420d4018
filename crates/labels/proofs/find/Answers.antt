-- `find` meets its contract. The invariant: from here on the chain has every label that the word can be.
use Prim.Native.Nat.{◌-◌}
use native.Mathlib.Omega.{arith}
use mathlib.Core.Path.{sym, ◌∙◌}
use borrow.Author.Tests.{lt-ltb, le-ltb}
use Rattle.labels.proofs.Chains.{looks_start, looks_below, looks_found, looks_on, looks_less, looks_none}
use Rattle.labels.proofs.find.Goals as goal

pub bounds-heads-h : goal.bounds-heads-h
bounds-heads-h c =
    omega (arith, c.hash_of-h.ensures.1, c.requires.heads_long)

pub loop-i-init : goal.loop-i-init
loop-i-init c =
    let hash-of = c.hash_of-h in
    looks_start c.requires hash-of.ensures.0 hash-of.ensures.1 c.from-i.ensures

pub is_label-requires : goal.is_label-requires
is_label-requires c =
    omega (arith, looks_below c.requires {k = c.loop-i.i - 1} c.loop-i.invariant (omega (arith, c.loop-i-test.true)), c.requires.few, c.requires.places_long)

pub returns-then-is_label : goal.returns-then-is_label
returns-then-is_label c =
    let loop = c.loop-i in
    let loop-test = c.loop-i-test in
    let k = looks_below c.requires {k = loop.i - 1} loop.invariant (omega (arith, loop-test.true)) in
    rw (lt-ltb _ _ k) (sym (looks_found c.requires loop.invariant (omega (arith, loop-test.true)) (sym c.is_label.ensures ∙ c.if-is_label.true)))

pub offset_bounds-nexts-k : goal.offset_bounds-nexts-k
offset_bounds-nexts-k c =
    let loop = c.loop-i in
    let loop-test = c.loop-i-test in
    omega (arith, looks_below c.requires {k = loop.i - 1} loop.invariant (omega (arith, loop-test.true)), c.requires.few)

pub bounds-nexts-k : goal.bounds-nexts-k
bounds-nexts-k c =
    let loop = c.loop-i in
    let loop-test = c.loop-i-test in
    omega (arith, looks_below c.requires {k = loop.i - 1} loop.invariant (omega (arith, loop-test.true)), c.requires.few, c.requires.nexts_long)

pub loop-i-smaller : goal.loop-i-smaller
loop-i-smaller c =
    let loop = c.loop-i in
    let loop-test = c.loop-i-test in
    looks_less c.requires loop.invariant (omega (arith, loop-test.true)) c.from-i-in-loop-i.ensures

pub loop-i-preserved : goal.loop-i-preserved
loop-i-preserved c =
    let loop = c.loop-i in
    let loop-test = c.loop-i-test in
    let is-label = c.is_label in
    let if1 = c.if-is_label in
    looks_on c.requires loop.invariant (omega (arith, loop-test.true)) (sym is-label.ensures ∙ if1.false) c.from-i-in-loop-i.ensures

pub returns : goal.returns
returns c =
    rw (le-ltb c.args.count c.args.count (omega arith)) (sym (looks_none c.requires c.loop-i.invariant (omega (arith, c.loop-i-test.false))))
