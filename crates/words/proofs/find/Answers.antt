-- `find` meets its contract. The invariant: what is found among all names is what is found from number i on.
use Prim.Native.Nat.{ℕ, ◌/◌, ◌≤◌, ◌<◌}
use native.Mathlib.Omega.{arith}
use mathlib.Core.Path.{◌≡◌, refl, sym, ◌∙◌}
use mathlib.Core.Bool.{false, ◌||◌}
use lib.Dec.{eqb, ltb}
use lib.ListN.{length}
use borrow.Author.Tests.{lt-ltb, le-ltb, eqb-false, ltb-false}
use Rattle.tokens.proofs.Bools.{neither}
use Rattle.words.proofs.Tables.{found_all, found_here, found_later, found_nowhere}
use Rattle.words.proofs.find.Goals as goal

-- the word has a byte, and the table each of the names
fast : (n half count : ℕ) → eqb n 0 || ltb half count ≡ false → (0 < n) × (count ≤ half)
fast n half count h =
    let p = neither (eqb n 0) _ h in
    (omega (arith, eqb-false n 0 p.0), ltb-false _ _ p.1)

pub overflow_sub-last : goal.overflow_sub-last
overflow_sub-last c = omega (arith, fast _ (length c.args.places.now / 2) c.args.count c.if-n-places.false)

pub bounds-w-n : goal.bounds-w-n
bounds-w-n c = omega (arith, fast _ (length c.args.places.now / 2) c.args.count c.if-n-places.false)

pub loop-i-init : goal.loop-i-init
loop-i-init c = found_all _ _ _ _

pub is_named-requires : goal.is_named-requires
is_named-requires c =
    let short = fast _ (length c.args.places.now / 2) c.args.count c.if-n-places.false in
    (omega (arith, short), record { some = omega (arith, short); last = refl })

pub returns-then-is_named : goal.returns-then-is_named
returns-then-is_named c =
    let i = c.loop-i.i in
    let here = found_here c.args.text.now c.args.places.now c.args.w.now c.args.count i in
    rw (lt-ltb _ _ c.loop-i-test.true) (sym (c.loop-i.invariant ∙ here c.loop-i-test.true (sym c.is_named.ensures ∙ c.if-is_named.true)))

pub loop-i-preserved : goal.loop-i-preserved
loop-i-preserved c =
    let later = found_later c.args.text.now c.args.places.now c.args.w.now c.args.count c.loop-i.i in
    c.loop-i.invariant ∙ later c.loop-i-test.true (sym c.is_named.ensures ∙ c.if-is_named.false)

pub returns : goal.returns
returns c =
    let count = c.args.count in
    rw (le-ltb count count (omega arith)) (sym (c.loop-i.invariant ∙ found_nowhere _ _ _ _ _ c.loop-i-test.false))
