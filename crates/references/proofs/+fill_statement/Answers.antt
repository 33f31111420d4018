-- Statements and one statement, one proof for both: a Loop's body may stand one level less deep, so that twice the levels fall. What is kept at each
-- statement: the X names so far are in the table, and a rest of the body is held from the cursor on.
use native.Mathlib.Omega.{arith}
use mathlib.Core.Path.{refl, sym, ◌∙◌}
use Rattle.assigns.proofs.Table.{gave_zeros}
use Rattle.references.proofs.Stepping.{ends_step, vector_step, vector_few, assigns_step, chooses_step, no_shift, declared, used_step, used_few, in_loop, turns_rise, turns_few, loop_step}
use Rattle.references.proofs.Going.{going, going_on, fewer, ended}
use Rattle.references.proofs.+fill_statement.Goals as goal

pub fill-loop-r-init : goal.fill-loop-r-init
fill-loop-r-init t c =
    let pre' = c.requires in
    record { args_long = pre'.1; table_long = refl; onward = λ E b us st. going pre'.0 st }

pub fill-statement-r-requires : goal.fill-statement-r-requires
fill-statement-r-requires t c =
    let pre' = c.requires in
    let loop' = c.loop-r in
    let stood = pre'.4 in
    let o = loop'.invariant.onward stood.env stood.body stood.rest stood.standing in (
      omega (arith, c.decreases),
      (
        o.on,
        loop'.invariant.args_long,
        pre'.2,
        omega (arith, loop'.invariant.table_long, pre'.3),
        record { env = stood.env; body = o.rest; rest = stood.rest; standing = o.standing },
      ),
    )

pub fill-shape_of-args-then-r : goal.fill-shape_of-args-then-r
fill-shape_of-args-then-r t c =
    let pre' = c.requires in
    c.statement-r.ensures.0 ∙ sym pre'.1

pub fill-shape_of-table-then-r : goal.fill-shape_of-table-then-r
fill-shape_of-table-then-r t c = c.statement-r.ensures.1 ∙ c.loop-r.invariant.table_long

pub fill-returns-then-r : goal.fill-returns-then-r
fill-returns-then-r t c =
    let loop' = c.loop-r in
    let statement' = c.statement-r in (
      statement'.ensures.0,
      statement'.ensures.1 ∙ loop'.invariant.table_long,
      record {
        fills = λ E b us st. (let o = loop'.invariant.onward E b us st in ended o (statement'.ensures.2.steps E o.rest us o.standing) c.if-r.true);
      },
    )

pub fill-loop-r-smaller : goal.fill-loop-r-smaller
fill-loop-r-smaller t c =
    let pre' = c.requires in
    let loop' = c.loop-r in
    let stood = pre'.4 in
    let o = loop'.invariant.onward stood.env stood.body stood.rest stood.standing in
    fewer o (c.statement-r.ensures.2.steps stood.env o.rest stood.rest o.standing) c.if-r.false

pub fill-loop-r-preserved : goal.fill-loop-r-preserved
fill-loop-r-preserved t c =
    let loop' = c.loop-r in
    let statement' = c.statement-r in
    let if1' = c.if-r in
    record {
      args_long = statement'.ensures.0;
      table_long = statement'.ensures.1 ∙ loop'.invariant.table_long;
      onward = λ E b us st. (let o = loop'.invariant.onward E b us st in going_on o (statement'.ensures.2.steps E o.rest us o.standing) if1'.false);
    }

pub statement-head-h-requires : goal.statement-head-h-requires
statement-head-h-requires t c =
    let pre' = c.requires in
    let stood = pre'.4 in
    (record { env = stood.env; describes = stood.standing.describes }, (omega arith), gave_zeros, pre'.1)

pub statement-overflow_add-cycles : goal.statement-overflow_add-cycles
statement-overflow_add-cycles t c =
    let pre' = c.requires in
    let head' = c.head-h in
    let stood = pre'.4 in
    let st = stood.standing in
    omega (arith, vector_few st pre'.0 _ _ _ (head'.ensures.2 stood.env st.describes) _ c.in-Vector.is)

pub statement-note-requires : goal.statement-note-requires
statement-note-requires t c =
    let pre' = c.requires in
    (pre'.0, pre'.2, pre'.3, omega (arith, pre'.4.standing.few))

pub statement-overflow_sub-depth : goal.statement-overflow_sub-depth
statement-overflow_sub-depth t c =
    let pre' = c.requires in
    let head' = c.head-h in
    let stood = pre'.4 in
    let st = stood.standing in
    omega (arith, (in_loop st pre'.0 _ _ _ (head'.ensures.2 stood.env st.describes) _ c.in-Loops.is).deeper)

pub statement-fill-r-requires : goal.statement-fill-r-requires
statement-fill-r-requires t c =
    let pre' = c.requires in
    let head' = c.head-h in
    let stood = pre'.4 in
    let st = stood.standing in
    let i = in_loop st pre'.0 _ _ _ (head'.ensures.2 stood.env st.describes) _ c.in-Loops.is in (
      omega (arith, c.decreases, i.deeper),
      (i.on, head'.ensures.1, pre'.2, pre'.3, record { env = stood.env; body = i.body; rest = i.between; standing = i.standing }),
    )

pub statement-turned-requires : goal.statement-turned-requires
statement-turned-requires t c =
    let pre' = c.requires in
    let head' = c.head-h in
    let stood = pre'.4 in
    let st = stood.standing in
    let i = in_loop st pre'.0 _ _ _ (head'.ensures.2 stood.env st.describes) _ c.in-Loops.is in
    let s = c.fill-r.ensures.2.fills stood.env i.body i.between i.standing in
    (turns_rise st i s, turns_few st i s)

pub statement-measure_at-requires : goal.statement-measure_at-requires
statement-measure_at-requires t c =
    let pre' = c.requires in
    let head' = c.head-h in
    let stood = pre'.4 in
    let st = stood.standing in
    (st.describes.book_long, omega (arith, declared st pre'.0 _ _ _ (head'.ensures.2 stood.env st.describes) _ _ c.in-Uses.is))

pub statement-overflow_add-cycles-in-Uses : goal.statement-overflow_add-cycles-in-Uses
statement-overflow_add-cycles-in-Uses t c =
    let pre' = c.requires in
    let head' = c.head-h in
    let stood = pre'.4 in
    let st = stood.standing in
    omega (arith, used_few st pre'.0 _ _ _ (head'.ensures.2 stood.env st.describes) _ _ c.in-Uses.is (rw c.measure_at.ensures at c.used-m.ensures))

pub statement-returns-in-Ends : goal.statement-returns-in-Ends
statement-returns-in-Ends t c =
    let pre' = c.requires in
    let h = c.head-h.ensures in
    (h.1, refl, record { steps = λ E b us st. ends_step st pre'.0 _ _ _ (h.2 E st.describes) c.in-Ends.is })

pub statement-returns-in-Vector : goal.statement-returns-in-Vector
statement-returns-in-Vector t c =
    let pre' = c.requires in
    let h = c.head-h.ensures in
    rw c.onward.ensures
    (h.1, refl, record { steps = λ E b us st. vector_step st pre'.0 _ _ _ (h.2 E st.describes) _ c.in-Vector.is })

pub statement-shape_of-table-in-Assigns : goal.statement-shape_of-table-in-Assigns
statement-shape_of-table-in-Assigns t c = c.note.ensures.long

pub statement-returns-in-Assigns : goal.statement-returns-in-Assigns
statement-returns-in-Assigns t c =
    let pre' = c.requires in
    let h = c.head-h.ensures in
    let note' = c.note in
    rw c.onward-in-Assigns.ensures
    (h.1, note'.ensures.long, record { steps = λ E b us st. assigns_step st pre'.0 _ _ _ (h.2 E st.describes) c.in-Assigns.is note'.ensures })

pub statement-returns-in-Chooses : goal.statement-returns-in-Chooses
statement-returns-in-Chooses t c =
    let pre' = c.requires in
    let h = c.head-h.ensures in
    rw c.onward-in-Chooses.ensures
    (h.1, refl, record { steps = λ E b us st. chooses_step st pre'.0 _ _ _ (h.2 E st.describes) _ c.in-Chooses.is })

pub statement-shape_of-args-in-Loops : goal.statement-shape_of-args-in-Loops
statement-shape_of-args-in-Loops t c =
    let pre' = c.requires in
    c.fill-r.ensures.0 ∙ sym pre'.1

pub statement-shape_of-table-in-Loops : goal.statement-shape_of-table-in-Loops
statement-shape_of-table-in-Loops t c = c.fill-r.ensures.1

pub statement-returns-in-Loops : goal.statement-returns-in-Loops
statement-returns-in-Loops t c =
    let pre' = c.requires in
    let h = c.head-h.ensures in
    let fill' = c.fill-r in
    let turned' = c.turned in
    rw c.onward-in-Loops.ensures (
      fill'.ensures.0,
      fill'.ensures.1,
      record {
        steps = λ E b us st. (
            let i = in_loop st pre'.0 _ _ _ (h.2 E st.describes) _ c.in-Loops.is in
            loop_step st i (fill'.ensures.2.fills E i.body i.between i.standing) turned'.ensures);
      },
    )

pub statement-returns-in-Shifts : goal.statement-returns-in-Shifts
statement-returns-in-Shifts t c =
    let pre' = c.requires in
    let h = c.head-h.ensures in
    (h.1, refl, record { steps = λ E b us st. absurd (no_shift st pre'.0 _ _ _ (h.2 E st.describes) c.in-Shifts.is) })

pub statement-returns-in-Uses : goal.statement-returns-in-Uses
statement-returns-in-Uses t c =
    let pre' = c.requires in
    let h = c.head-h.ensures in
    let measure-at' = c.measure_at in
    let used' = c.used-m in
    rw c.onward-in-Uses.ensures (
      h.1,
      refl,
      record {
        steps = λ E b us st. used_step st pre'.0 _ _ _ (h.2 E st.describes) _ _ c.in-Uses.is (rw measure-at'.ensures at used'.ensures);
      },
    )
