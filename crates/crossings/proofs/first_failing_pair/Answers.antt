-- The run meets refusal 25: in the patterns that were played each pair is in order, and the rest of the list is left.
use Prim.Native.Nat.{ℕ, ◌*◌}
use lib.ListN.{length-replicate}
use Rattle.meaning.specs.Bounds.{signals_most}
use Rattle.plays.proofs.Texts.{listed_any, opening_sized}
use Rattle.crossings.specs.Rows.{rows_most}
use Rattle.crossings.proofs.Running.{run_timed, run_begins, run_sound, run_fails, run_left}
use Rattle.crossings.proofs.first_failing_pair.Goals as goal

pub loop-k-init : goal.loop-k-init
loop-k-init c =
    record {
      sized = opening_sized _ _ _ _ _ _ _ _ _ _ _ _ c.requires.spans.0;
      ample = record { pins_long = length-replicate {A = ℕ} (rows_most * signals_most) 0; marks_long = length-replicate {A = ℕ} (rows_most * 3) 0 };
      left = λ p d run h m. run_begins _ _ _ _ _ _ _ _ _ _ _ _ h;
    }

pub pattern-r-requires : goal.pattern-r-requires
pattern-r-requires c =
    let h = c.requires.spans.0 in
    let l = listed_any _ _ _ _ _ _ _ _ _ _ _ _ h.runs c.loop-k-test.true in
    record {
      env = h.runs.tabled.parts.env;
      decls = h.read.patterns;
      decl = l.0;
      listed_at = l.1;
      timed = run_timed _ _ _ _ _ _ _ _ _ _ _ _ h.runs c.requires.spans.1;
      sized = c.loop-k.invariant.sized;
      fitted = c.requires.sized;
      ample = c.loop-k.invariant.ample;
    }

pub returns-then-r : goal.returns-then-r
returns-then-r c = λ p d run h m. run_fails _ _ _ _ _ _ _ _ _ _ _ _ h (c.loop-k.invariant.left p d run h m) c.loop-k-test.true c.pattern-r.ensures m c.if-r.true

pub loop-k-preserved : goal.loop-k-preserved
loop-k-preserved c =
    record {
      sized = c.pattern-r.ensures.sized;
      ample = c.pattern-r.ensures.ample;
      left = λ p d run h m. run_left _ _ _ _ _ _ _ _ _ _ _ _ h (c.loop-k.invariant.left p d run h m) c.loop-k-test.true c.pattern-r.ensures m c.if-r.false;
    }

pub returns : goal.returns
returns c = λ p d run h m. run_sound _ _ _ _ _ _ _ _ _ _ _ _ h (c.loop-k.invariant.left p d run h m) c.loop-k-test.false
