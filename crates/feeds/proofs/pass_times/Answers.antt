-- Not said again; behind the last time; or within one of them, by how many whole ones are passed.
use Prim.Native.Nat.{◌/◌, ◌%◌, ◌-◌, ◌*◌, ◌≤◌}
use native.Mathlib.Omega.{arith}
use native.Mathlib.Nat.{le-div_iff_mul-le, mod-lt, div-add-mod'}
use mathlib.Core.Path.{refl}
use Rattle.feeds.proofs.Passing.{passes_once, passes_never, passes_all, passes_again}
use borrow.Author.Rules.{rules}
use Rattle.feeds.proofs.pass_times.Goals as goal

pub returns-then-left-eq0 : goal.returns-then-left-eq0
returns-then-left-eq0 c = λ h. passes_once h c.if-left-eq0.true refl

pub returns-then-end-from : goal.returns-then-end-from
returns-then-end-from c = λ h. passes_never c.if-left-eq0.false c.if-end-from.true

pub overflow_mul-result : goal.overflow_mul-result
overflow_mul-result c =
    let start = c.args in
    let width = start.feed.end - start.feed.from in
    let fits : start.feed.left * width ≤ start.n = (le-div_iff_mul-le {k = width} (omega arith)).0 c.if-left-times.true in
    search rules

pub overflow_sub-result : goal.overflow_sub-result
overflow_sub-result c =
    let start = c.args in
    let width = start.feed.end - start.feed.from in
    let fits : start.feed.left * width ≤ start.n = (le-div_iff_mul-le {k = width} (omega arith)).0 c.if-left-times.true in
    search rules

pub returns-then-left-times : goal.returns-then-left-times
returns-then-left-times c =
    let start = c.args in
    let width = start.feed.end - start.feed.from in
    let fits : start.feed.left * width ≤ start.n = (le-div_iff_mul-le {k = width} (omega arith)).0 c.if-left-times.true in
    λ h. passes_all h (omega arith)

pub overflow_add-here : goal.overflow_add-here
overflow_add-here c =
    let start = c.args in
    let below = mod-lt start.n {m = start.feed.end - start.feed.from} (omega arith) in
    search rules

pub returns : goal.returns
returns c =
    let start = c.args in
    let width = start.feed.end - start.feed.from in
    let below = mod-lt start.n {m = width} (omega arith) in
    λ h. passes_again h (start.n / width) (start.n % width) (omega (arith, div-add-mod' start.n width)) (omega arith) refl (λ b. omega (arith, below))
