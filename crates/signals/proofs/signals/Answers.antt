-- `signals` meets its contract: reading on with the signals so far is reading the whole block, and there are never more than fit.
use mathlib.Core.Path.{sym, ◌∙◌}
use mathlib.Core.List.{[]}
use native.Mathlib.Omega.{arith}
use Rattle.tokens.specs.Written.{bytes}
use Rattle.meaning.specs.Signals.{signal as signal_due, signals_up_to}
use Rattle.words.specs.Table.{named, names_from}
use Rattle.words.proofs.Flow.{then, alive_before}
use Rattle.words.proofs.Loops.{begins, turned, over, less, on, ends}
use Rattle.signals.proofs.Chains.{chained_none}
use Rattle.signals.proofs.Taking.{takes_signal}
use Rattle.signals.proofs.Tidy.{gave, no_signal, numbered_signal}
use Rattle.signals.proofs.Tables.{names_length}
use Rattle.signals.proofs.signals.Goals as goal

pub signal-cursor-requires : goal.signal-cursor-requires
signal-cursor-requires c =
    let pre' = c.requires in
    (pre'.0, chained_none pre'.0.all pre'.1)

pub loop-places-init : goal.loop-places-init
unfolding named names_from
loop-places-init c =
    let signal' = c.signal-cursor in
    (begins, signal'.ensures.sized, λ h. gave (numbered_signal [] no_signal) signal'.ensures.goes h, signal'.ensures.chained)

pub signal-cursor-requires-in-loop-places : goal.signal-cursor-requires-in-loop-places
signal-cursor-requires-in-loop-places c =
    let loop' = c.loop-places in
    let until' = c.until in
    let if1' = c.loop-places-test in
    (loop'.invariant.1, loop'.invariant.3 (on _ _ until'.ensures if1'.true))

pub overflow_add-count : goal.overflow_add-count
overflow_add-count c =
    let args' = c.args in
    let loop' = c.loop-places in
    let until' = c.until in
    let if1' = c.loop-places-test in
    omega (arith, (loop'.invariant.2 (on _ _ until'.ensures if1'.true)).few, names_length args'.text.now loop'.places loop'.lists loop'.count)

pub loop-places-smaller : goal.loop-places-smaller
loop-places-smaller c =
    let until' = c.until in
    let if1' = c.loop-places-test in
    let signal2' = c.signal-cursor-in-loop-places in
    less (takes_signal _) (on _ _ until'.ensures if1'.true) signal2'.ensures.goes

pub loop-places-preserved : goal.loop-places-preserved
loop-places-preserved c =
    let loop' = c.loop-places in
    let until' = c.until in
    let if1' = c.loop-places-test in
    let signal2' = c.signal-cursor-in-loop-places in (
      turned _ _ takes_signal loop'.invariant.0 until'.ensures if1'.true signal2'.ensures.goes,
      signal2'.ensures.sized,
      λ h. gave (numbered_signal _ (loop'.invariant.2 (on _ _ until'.ensures if1'.true))) signal2'.ensures.goes h,
      signal2'.ensures.chained,
    )

pub shape_of-places : goal.shape_of-places
shape_of-places c =
    let pre' = c.requires in
    let loop' = c.loop-places in
    loop'.invariant.1.all ∙ sym pre'.0.all

pub shape_of-lists : goal.shape_of-lists
shape_of-lists c =
    let pre' = c.requires in
    let loop' = c.loop-places in
    loop'.invariant.1.rows ∙ sym pre'.0.rows

pub returns : goal.returns
unfolding signals_up_to named names_from bytes
returns c =
    let due' = c.due-a in
    let due2' = c.due-b in
    let signal' = c.signal-cursor in
    let loop' = c.loop-places in
    let until' = c.until in
    let if1' = c.loop-places-test in
    record {
      goes =
          then _ due'.ensures
          (then _ due2'.ensures
          (then _ signal'.ensures.goes
          (ends "}" signal_due _ (over _ _ takes_signal loop'.invariant.0 until'.ensures if1'.false) c.due-end.ensures)));
      sized = loop'.invariant.1;
      chained = λ h. loop'.invariant.3 (alive_before c.due-end.ensures h);
    }
