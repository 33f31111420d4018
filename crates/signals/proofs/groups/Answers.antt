-- `groups` meets its contract: reading on with the names so far is reading the whole block; those names are tidy, and never more than fit.
use mathlib.Core.Path.{sym, ◌∙◌}
use native.Mathlib.Omega.{arith}
use Rattle.tokens.specs.Written.{bytes}
use Rattle.meaning.specs.Bounds.{signals_most}
use Rattle.meaning.specs.Groups.{group as group_due, groups_up_to}
use Rattle.words.proofs.Flow.{then, alive_before}
use Rattle.words.proofs.Loops.{begins, turned, over, less, on, ends}
use Rattle.signals.specs.Names.{names_of}
use Rattle.signals.proofs.Taking.{takes_group}
use Rattle.signals.proofs.Tidy.{gave, ungrown, grown_group}
use Rattle.signals.proofs.Tables.{names_length}
use Rattle.signals.proofs.groups.Goals as goal

pub loop-places-init : goal.loop-places-init
loop-places-init c =
    let args' = c.args in
    let pre' = c.requires in
    let due' = c.due-a in
    let ns = names_of args'.text.now args'.places.now args'.lists.now args'.n in
    let long = names_length args'.text.now args'.places.now args'.lists.now args'.n in (
      begins,
      pre'.0,
      λ h.
          let p = pre'.1 (alive_before due'.ensures (alive_before c.due-cursor.ensures h)) in
          (ungrown signals_most args'.n ns p.0 (omega arith), p.1, p.2),
    )

pub group-cursor-requires : goal.group-cursor-requires
group-cursor-requires c =
    let loop' = c.loop-places in
    let until' = c.until in
    let if1' = c.loop-places-test in
    let p = loop'.invariant.2 (on _ _ until'.ensures if1'.true) in
    (record { sized = loop'.invariant.1; chained = p.2; tidy = p.0.tidy }, p.1)

pub overflow_add-count : goal.overflow_add-count
overflow_add-count c =
    let args' = c.args in
    let loop' = c.loop-places in
    let until' = c.until in
    let if1' = c.loop-places-test in
    let p = loop'.invariant.2 (on _ _ until'.ensures if1'.true) in
    omega (arith, p.0.few, p.1, names_length args'.text.now loop'.places loop'.lists loop'.count)

pub loop-places-smaller : goal.loop-places-smaller
loop-places-smaller c =
    let until' = c.until in
    let if1' = c.loop-places-test in
    let group' = c.group-cursor in
    less (takes_group _ _) (on _ _ until'.ensures if1'.true) group'.ensures.goes

pub loop-places-preserved : goal.loop-places-preserved
loop-places-preserved c =
    let args' = c.args in
    let loop' = c.loop-places in
    let until' = c.until in
    let if1' = c.loop-places-test in
    let group' = c.group-cursor in
    let p = loop'.invariant.2 (on _ _ until'.ensures if1'.true) in (
      turned _ _ (takes_group _) loop'.invariant.0 until'.ensures if1'.true group'.ensures.goes,
      group'.ensures.sized,
      λ h. (gave (grown_group signals_most args'.n _ _ p.0) group'.ensures.goes h, p.1, group'.ensures.chained h),
    )

pub shape_of-places : goal.shape_of-places
shape_of-places c =
    let pre' = c.requires in
    let loop' = c.loop-places in
    loop'.invariant.1.all ∙ sym pre'.0.all

pub shape_of-lists : goal.shape_of-lists
shape_of-lists c =
    let pre' = c.requires in
    let loop' = c.loop-places in
    loop'.invariant.1.rows ∙ sym pre'.0.rows

pub returns : goal.returns
unfolding groups_up_to bytes
returns c =
    let args' = c.args in
    let due' = c.due-a in
    let due2' = c.due-cursor in
    let loop' = c.loop-places in
    let until' = c.until in
    let if1' = c.loop-places-test in
    record {
      goes =
          rw (names_length args'.text.now args'.places.now args'.lists.now args'.n)
          (then _ due'.ensures
          (then _ due2'.ensures
          (ends "}" (group_due args'.n) _ (over _ _ (takes_group _) loop'.invariant.0 until'.ensures if1'.false) c.due-end.ensures)));
      sized = loop'.invariant.1;
      chained = λ h. (loop'.invariant.2 (alive_before c.due-end.ensures h)).2;
    }
