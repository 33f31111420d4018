-- `run_of` meets its contract: what was found so far is the front of the run, and the rest of the list is left.
use Prim.Native.Nat.{◌*◌}
use Rattle.words.proofs.Words.{rest}
use Rattle.measures.specs.Book.{first_pattern}
use Rattle.texts.proofs.Runs.{running, run_whole, run_undefined, run_next, found_none, found_pattern}
use Rattle.texts.proofs.run_of.Goals as goal

pub loop-k-init : goal.loop-k-init
loop-k-init c =
    let args' = c.args in
    (rest args'.book.now (first_pattern * 2), λ ps l n. running ps _ _ _ c.nothing-measure.ensures)

pub returns-then-patterns-i : goal.returns-then-patterns-i
returns-then-patterns-i c =
    let loop' = c.loop-k in
    let loop-test' = c.loop-k-test in
    let name-bytes' = c.name_bytes in
    let find' = c.find-i in
    λ ps l n.
    run_undefined _ _ _ _ (loop'.invariant.1 ps l n) loop-test'.true
    (found_none _ _ ps l _ loop'.invariant.0 name-bytes'.ensures find'.ensures n c.if-patterns-i.true)

pub loop-k-preserved : goal.loop-k-preserved
loop-k-preserved c =
    let loop' = c.loop-k in
    let name-bytes' = c.name_bytes in
    let find' = c.find-i in
    let if1' = c.if-patterns-i in
    let loop-test' = c.loop-k-test in (
      loop'.invariant.0,
      λ ps l n.
          let x = found_pattern _ _ ps l _ loop'.invariant.0 name-bytes'.ensures find'.ensures n if1'.false in
          run_next _ _ _ _ (loop'.invariant.1 ps l n) loop-test'.true x.1
          (λ a m. c.plus-measure.ensures a _ m (c.used.ensures _ _ _ (rw c.measure_at-x.ensures x.3.measured))),
    )

pub returns : goal.returns
returns c =
    λ ps l n.
    let run = c.loop-k.invariant.1 ps l n in
    (run.front, run_whole _ _ _ _ run c.loop-k-test.false, run.measured)
