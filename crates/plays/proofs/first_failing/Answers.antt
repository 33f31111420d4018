-- The run meets refusal 17: behind the patterns that were played nothing failed, and the rest of the list is left.
use Prim.Native.Nat.{ℕ}
use mathlib.Core.Path.{sym, ◌∙◌}
use lib.ListN.{length-replicate}
use Rattle.words.proofs.Words.{zeros}
use Rattle.memos.specs.Memo.{memo_length}
use Rattle.plays.proofs.Texts.{listed_any, run_fails, run_learnt, run_left, run_sound, unplayed}
use Rattle.plays.proofs.first_failing.Goals as goal

pub loop-k-init : goal.loop-k-init
loop-k-init c =
    let pre' = c.requires in
    (sym (length-replicate {A = ℕ} memo_length 0), unplayed _ _ _ _ _ _ _ _ _ _ _ _ pre' (zeros memo_length))

pub slice_bounds-pattern-end-in-loop-k-3 : goal.slice_bounds-pattern-end-in-loop-k-3
slice_bounds-pattern-end-in-loop-k-3 c = c.loop-k.invariant.0

pub pattern-r-requires : goal.pattern-r-requires
pattern-r-requires c =
    let pre' = c.requires in
    let loop' = c.loop-k in
    let loop-test' = c.loop-k-test in
    let l = listed_any _ _ _ _ _ _ _ _ _ _ _ _ pre'.runs loop-test'.true in (
      record {
        env = pre'.runs.tabled.parts.env;
        decls = pre'.read.patterns;
        decl = l.0;
        listed_at = l.1;
        sized = loop'.invariant.1.sized;
      },
      loop'.invariant.1.heads pre'.parts pre'.read pre'.body pre'.runs,
    )

pub returns-then-r : goal.returns-then-r
returns-then-r c =
    let loop' = c.loop-k in
    let loop-test' = c.loop-k-test in
    let pattern' = c.pattern-r in
    λ p d run h m. (let l = loop'.invariant.1.left p d run h m in run_fails _ _ _ _ _ _ _ _ _ _ _ _ h l.0 loop-test'.true pattern'.ensures l.1 c.if-r.true)

pub loop-k-preserved : goal.loop-k-preserved
loop-k-preserved c =
    let loop' = c.loop-k in
    let loop-test' = c.loop-k-test in
    let pattern' = c.pattern-r in (
      loop'.invariant.0 ∙ sym pattern'.ensures.memo_long,
      record {
        sized = pattern'.ensures.sized;
        heads = λ p d run h. (let l = listed_any _ _ _ _ _ _ _ _ _ _ _ _ h loop-test'.true in pattern'.ensures.heads _ _ l.0 l.1 (loop'.invariant.1.heads p d run h));
        left = λ p d run h m. (
            let l = loop'.invariant.1.left p d run h m in
            (run_left _ _ _ _ _ _ _ _ _ _ _ _ h l.0 loop-test'.true pattern'.ensures l.1 c.if-r.false, run_learnt _ _ _ _ _ _ _ _ _ _ _ _ h l.0 loop-test'.true pattern'.ensures l.1));
      },
    )

pub returns : goal.returns
returns c =
    let loop' = c.loop-k in
    λ p d run h m. run_sound _ _ _ _ _ _ _ _ _ _ _ _ h (loop'.invariant.1.left p d run h m).0 c.loop-k-test.false
