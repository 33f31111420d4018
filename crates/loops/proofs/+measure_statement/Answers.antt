-- Statements and one statement, one proof for both: a Loop's body may stand one level less deep, so that twice the levels fall. What is kept at each
-- statement: the body is those measured so far, and a rest that is held from the cursor on.
use native.Mathlib.Omega.{arith}
use mathlib.Core.Path.{sym, ◌∙◌}
use Rattle.assigns.proofs.Table.{gave_zeros}
use Rattle.loops.proofs.Stepping.{ends_step, vector_step, assigns_step, chooses_step, no_shift, declared, used_step, in_loop, loop_step}
use Rattle.loops.proofs.Going.{going, going_on, fewer, gone}
use Rattle.loops.proofs.+measure_statement.Goals as goal

pub measure-loop-behind-init : goal.measure-loop-behind-init
measure-loop-behind-init t c =
    let pre' = c.requires in
    record { args_long = pre'.1; onward = λ E b us st. going pre'.0 c.nothing-sum.ensures st }

pub measure-statement-r-requires : goal.measure-statement-r-requires
measure-statement-r-requires t c =
    let pre' = c.requires in
    let loop' = c.loop-behind in
    let stood = pre'.2 in
    let o = loop'.invariant.onward stood.env stood.body stood.rest stood.standing in
    (omega (arith, c.decreases), (o.on, loop'.invariant.args_long, record { env = stood.env; body = o.rest; rest = stood.rest; standing = o.standing }))

pub measure-shape_of-args-then-r : goal.measure-shape_of-args-then-r
measure-shape_of-args-then-r t c =
    let pre' = c.requires in
    let statement' = c.statement-r in
    statement'.ensures.0 ∙ sym pre'.1

pub measure-returns-then-r : goal.measure-returns-then-r
measure-returns-then-r t c =
    let loop' = c.loop-behind in
    let statement' = c.statement-r in
    let if1' = c.if-r in (
      statement'.ensures.0,
      record {
        sums = λ E b us st. (let o = loop'.invariant.onward E b us st in gone o (statement'.ensures.1.steps E o.rest us o.standing) if1'.true);
      },
    )

pub measure-loop-behind-smaller : goal.measure-loop-behind-smaller
measure-loop-behind-smaller t c =
    let pre' = c.requires in
    let loop' = c.loop-behind in
    let statement' = c.statement-r in
    let if1' = c.if-r in
    let stood = pre'.2 in
    let o = loop'.invariant.onward stood.env stood.body stood.rest stood.standing in
    fewer o (statement'.ensures.1.steps stood.env o.rest stood.rest o.standing) if1'.false

pub measure-loop-behind-preserved : goal.measure-loop-behind-preserved
measure-loop-behind-preserved t c =
    let loop' = c.loop-behind in
    let statement' = c.statement-r in
    let if1' = c.if-r in
    record {
      args_long = statement'.ensures.0;
      onward = λ E b us st. (
          let o = loop'.invariant.onward E b us st in
          going_on o (statement'.ensures.1.steps E o.rest us o.standing) c.plus-sum.ensures if1'.false);
    }

pub statement-head-h-requires : goal.statement-head-h-requires
statement-head-h-requires t c =
    let pre' = c.requires in
    let stood = pre'.2 in
    (record { env = stood.env; describes = stood.standing.describes }, (omega arith), gave_zeros, pre'.1)

pub statement-overflow_sub-depth : goal.statement-overflow_sub-depth
statement-overflow_sub-depth t c =
    let pre' = c.requires in
    let head' = c.head-h in
    let stood = pre'.2 in
    let st = stood.standing in
    omega (arith, (in_loop st pre'.0 _ _ _ (head'.ensures.2 stood.env st.describes) _ c.in-Loops.is).deeper)

pub statement-measure-r-requires : goal.statement-measure-r-requires
statement-measure-r-requires t c =
    let pre' = c.requires in
    let head' = c.head-h in
    let stood = pre'.2 in
    let st = stood.standing in
    let i = in_loop st pre'.0 _ _ _ (head'.ensures.2 stood.env st.describes) _ c.in-Loops.is in (
      omega (arith, c.decreases, i.deeper),
      (i.on, head'.ensures.1, record { env = stood.env; body = i.body; rest = i.between; standing = i.standing }),
    )

pub statement-measure_at-requires : goal.statement-measure_at-requires
statement-measure_at-requires t c =
    let pre' = c.requires in
    let head' = c.head-h in
    let stood = pre'.2 in
    let st = stood.standing in
    (st.describes.book_long, omega (arith, declared st pre'.0 _ _ _ (head'.ensures.2 stood.env st.describes) _ _ c.in-Uses.is))

pub statement-returns-in-Ends : goal.statement-returns-in-Ends
statement-returns-in-Ends t c =
    let pre' = c.requires in
    let h = c.head-h.ensures in
    (h.1, record { steps = λ E b us st. ends_step st pre'.0 _ _ _ (h.2 E st.describes) _ c.in-Ends.is })

pub statement-returns-in-Vector : goal.statement-returns-in-Vector
statement-returns-in-Vector t c =
    let pre' = c.requires in
    let h = c.head-h.ensures in
    rw c.counted.ensures (h.1, record { steps = λ E b us st. vector_step st pre'.0 _ _ _ (h.2 E st.describes) _ c.in-Vector.is c.vector.ensures })

pub statement-returns-in-Assigns : goal.statement-returns-in-Assigns
statement-returns-in-Assigns t c =
    let pre' = c.requires in
    let h = c.head-h.ensures in
    rw c.counted-in-Assigns.ensures (h.1, record { steps = λ E b us st. assigns_step st pre'.0 _ _ _ (h.2 E st.describes) c.setting.ensures c.in-Assigns.is })

pub statement-returns-in-Chooses : goal.statement-returns-in-Chooses
statement-returns-in-Chooses t c =
    let pre' = c.requires in
    let h = c.head-h.ensures in
    rw c.counted-in-Chooses.ensures (h.1, record { steps = λ E b us st. chooses_step st pre'.0 _ _ _ (h.2 E st.describes) c.setting-in-Chooses.ensures _ c.in-Chooses.is })

pub statement-returns-in-Loops : goal.statement-returns-in-Loops
statement-returns-in-Loops t c =
    let pre' = c.requires in
    let h = c.head-h.ensures in
    let measure' = c.measure-r in (
      measure'.ensures.0,
      record {
        steps = λ E b us st. (
            let i = in_loop st pre'.0 _ _ _ (h.2 E st.describes) _ c.in-Loops.is in
            let s = measure'.ensures.1.sums E i.body i.between i.standing in
            loop_step st i (c.looped.ensures i.body s.measured) s.on s.behind);
      },
    )

pub statement-returns-in-Shifts : goal.statement-returns-in-Shifts
statement-returns-in-Shifts t c =
    let pre' = c.requires in
    let h = c.head-h.ensures in
    rw c.counted-in-Shifts.ensures (h.1, record { steps = λ E b us st. absurd (no_shift st pre'.0 _ _ _ (h.2 E st.describes) c.in-Shifts.is) })

pub statement-returns-in-Uses : goal.statement-returns-in-Uses
statement-returns-in-Uses t c =
    let pre' = c.requires in
    let h = c.head-h.ensures in
    let measure-at' = c.measure_at in
    rw c.counted-in-Uses.ensures (
      h.1,
      record {
        steps = λ E b us st.
            used_step st pre'.0 _ _ _ (h.2 E st.describes) _ _ c.in-Uses.is (rw measure-at'.ensures at c.used.ensures);
      },
    )
