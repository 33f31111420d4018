-- `;`, or a turn of the loop for each argument between the braces; another token is not allowed there.
use mathlib.Core.Path.{sym, ◌∙◌}
use mathlib.Core.List.{[]}
use Rattle.tokens.specs.Written.{bytes}
use Rattle.timing.proofs.Making.{looping, again, fewer, leaves}
use Rattle.arguments.proofs.Read.{takes_argument}
use Rattle.arguments.proofs.Supplying.{supplied_none}
use Rattle.arguments.proofs.Choosing.{no_arguments, braced, not_arguments}
use Rattle.arguments.proofs.arguments.Goals as goal

pub returns-then-is : goal.returns-then-is
unfolding bytes
returns-then-is c =
    let pre = c.requires in
    λ b uses. no_arguments _ b c.is.ensures c.if-is.true c.step-cursor.ensures (supplied_none pre.2 pre.3)

pub loop-given-init : goal.loop-given-init
loop-given-init c =
    let pre = c.requires in
    (pre.2.long, pre.3, λ b uses. looping [] (λ live. supplied_none pre.2 pre.3))

pub argument-cursor-requires : goal.argument-cursor-requires
argument-cursor-requires c =
    (c.requires.0, c.requires.1, c.loop-given.invariant.0, c.loop-given.invariant.1)

pub loop-given-smaller : goal.loop-given-smaller
unfolding bytes
loop-given-smaller c =
    let used = c.requires.1 in
    fewer (takes_argument _ used.body) (c.loop-given.invariant.2 used.body used.uses) c.until.ensures c.loop-given-test.true
    (λ xs sup. c.argument-cursor.ensures used.body xs used.uses sup)

pub loop-given-preserved : goal.loop-given-preserved
unfolding bytes
loop-given-preserved c =
    let argument = c.argument-cursor in
    let loop = c.loop-given in (
      argument.auto.given ∙ loop.invariant.0,
      argument.auto.args ∙ loop.invariant.1,
      λ b uses.
          again (takes_argument _ b) (loop.invariant.2 b uses) c.until.ensures c.loop-given-test.true (λ xs sup. argument.ensures b xs uses sup),
    )

pub shape_of-given-then-is-2 : goal.shape_of-given-then-is-2
shape_of-given-then-is-2 c = c.loop-given.invariant.0 ∙ sym c.requires.2.long

pub shape_of-args-then-is-2 : goal.shape_of-args-then-is-2
shape_of-args-then-is-2 c = c.loop-given.invariant.1 ∙ sym c.requires.3

pub returns-then-is-2 : goal.returns-then-is-2
unfolding bytes
returns-then-is-2 c =
    λ b uses.
    braced _ b c.is.ensures c.if-is.false c.is-2.ensures c.if-is-2.true c.step-cursor-then-is-2.ensures
    (leaves (takes_argument _ b) (c.loop-given.invariant.2 b uses) c.until.ensures c.loop-given-test.false)
    c.due-end.ensures

pub returns : goal.returns
unfolding bytes
returns c =
    λ b uses.
    not_arguments _ b c.is.ensures c.if-is.false c.is-2.ensures c.if-is-2.false c.expect-cursor.ensures
