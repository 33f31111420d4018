-- `burst` meets its contract: reading on with the names so far is reading the whole list, and there are never more than fit.
use mathlib.Core.Path.{sym, ◌∙◌}
use native.Mathlib.Omega.{arith}
use Rattle.tokens.specs.Written.{bytes}
use Rattle.meaning.specs.Meaning.{firsts}
use Rattle.meaning.specs.Document.{list_entry, burst as burst_due}
use Rattle.words.specs.Table.{names_from}
use Rattle.words.proofs.Flow.{given, then, alive_before}
use Rattle.words.proofs.Loops.{begins, turned, over, less, on, ends}
use Rattle.bursts.proofs.Entries.{takes_entry}
use Rattle.bursts.proofs.burst.Goals as goal

pub loop-list-init : goal.loop-list-init
loop-list-init c = (begins, c.requires, λ h. omega arith)

pub entry-cursor-requires : goal.entry-cursor-requires
entry-cursor-requires c =
    let loop' = c.loop-list in
    let until' = c.until in
    let if1' = c.loop-list-test in
    (loop'.invariant.1, loop'.invariant.2 (on _ _ until'.ensures if1'.true))

pub overflow_add-count : goal.overflow_add-count
overflow_add-count c =
    let loop' = c.loop-list in
    let until' = c.until in
    let if1' = c.loop-list-test in
    let few = loop'.invariant.2 (on _ _ until'.ensures if1'.true) in
    omega arith

pub loop-list-smaller : goal.loop-list-smaller
loop-list-smaller c =
    let until' = c.until in
    let if1' = c.loop-list-test in
    let entry' = c.entry-cursor in
    less (takes_entry _) (on _ _ until'.ensures if1'.true) entry'.ensures.goes

pub loop-list-preserved : goal.loop-list-preserved
loop-list-preserved c =
    let loop' = c.loop-list in
    let until' = c.until in
    let if1' = c.loop-list-test in
    let entry' = c.entry-cursor in
    (turned _ _ takes_entry loop'.invariant.0 until'.ensures if1'.true entry'.ensures.goes, entry'.ensures.long, entry'.ensures.few)

pub shape_of-list : goal.shape_of-list
shape_of-list c =
    let pre' = c.requires in
    let loop' = c.loop-list in
    loop'.invariant.1 ∙ sym pre'

pub returns : goal.returns
unfolding burst_due firsts names_from bytes
returns c =
    let due' = c.due-a in
    let name' = c.name-b in
    let due2' = c.due-d in
    let due3' = c.due-e in
    let due4' = c.due-cursor in
    let loop' = c.loop-list in
    let until' = c.until in
    let if1' = c.loop-list-test in
    let due5' = c.due-f in
    record {
      goes =
          then _ due'.ensures
          (then _ name'.ensures
          (then _ due2'.ensures
          (then _ due3'.ensures
          (then _ due4'.ensures
          (then _ (ends "}" list_entry _ (over _ _ takes_entry loop'.invariant.0 until'.ensures if1'.false) due5'.ensures)
          (then _ c.due-end.ensures given))))));
      long = loop'.invariant.1;
      few = λ h. loop'.invariant.2 (alive_before due5'.ensures (alive_before c.due-end.ensures h));
    }
