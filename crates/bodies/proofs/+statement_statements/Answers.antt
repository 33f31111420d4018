-- Statements and one statement, one proof for both: a Loop's body may stand one level less deep, so that twice the levels fall. What is kept at each
-- statement: reading on behind those so far is reading them all, and the code has the measure and the uses of those, and has noted them.
use native.Mathlib.Omega.{arith}
use mathlib.Core.Path.{◌∙◌}
use Rattle.noted.proofs.Marking.{grows_none, grows_then}
use Rattle.bodies.proofs.Beginning.{looped_deep, looped_whole}
use Rattle.bodies.proofs.Reading.{reading_none, reading_more, reading_less, reading_all}
use Rattle.bodies.proofs.+statement_statements.Goals as goal

pub statement-begin-t-requires : goal.statement-begin-t-requires
statement-begin-t-requires t c =
    c.requires

pub statement-returns-then-n-eq0 : goal.statement-returns-then-n-eq0
statement-returns-then-n-eq0 t c =
    let begin' = c.begin-t in
    (λ e s. (begin'.ensures.0 e s).whole c.if-n-eq0.true, begin'.ensures.1)

pub statement-overflow_sub-d : goal.statement-overflow_sub-d
statement-overflow_sub-d t c =
    let pre' = c.requires in
    let begin' = c.begin-t in
    let deep = looped_deep (begin'.ensures.0 pre'.0.env pre'.0.describes) c.if-n-eq0.false in
    omega arith

pub statement-statements-x-requires : goal.statement-statements-x-requires
statement-statements-x-requires t c =
    let pre' = c.requires in
    let begin' = c.begin-t in
    let if1' = c.if-n-eq0 in
    let deep = looped_deep (begin'.ensures.0 pre'.0.env pre'.0.describes) if1'.false in
    (omega (arith, c.decreases), (pre'.0, omega (arith, pre'.1), begin'.auto.row ∙ pre'.2, begin'.auto.args ∙ pre'.3, begin'.ensures.1.long ∙ pre'.4))

pub statement-shape_of-row : goal.statement-shape_of-row
statement-shape_of-row t c =
    let begin' = c.begin-t in
    let statements' = c.statements-x in
    statements'.auto.row ∙ begin'.auto.row

pub statement-shape_of-args : goal.statement-shape_of-args
statement-shape_of-args t c =
    let begin' = c.begin-t in
    let statements' = c.statements-x in
    statements'.auto.args ∙ begin'.auto.args

pub statement-shape_of-used : goal.statement-shape_of-used
statement-shape_of-used t c =
    let begin' = c.begin-t in
    let statements' = c.statements-x in
    statements'.auto.used ∙ begin'.auto.used

pub statement-returns : goal.statement-returns
statement-returns t c =
    let begin' = c.begin-t in
    let if1' = c.if-n-eq0 in
    let statements' = c.statements-x in
    let looped' = c.looped in (
      λ e s. looped_whole (begin'.ensures.0 e s) if1'.false (statements'.ensures.2 e s) looped'.ensures c.plus.ensures c.went.ensures begin'.ensures.1,
      grows_then begin'.ensures.1 statements'.ensures.3,
    )

pub statements-loop-cursor-init : goal.statements-loop-cursor-init
statements-loop-cursor-init t c =
    let pre' = c.requires in
    (pre'.2, pre'.3, pre'.4, grows_none, λ e s. reading_none c.nothing-measure.ensures)

pub statements-statement-t-requires : goal.statements-statement-t-requires
statements-statement-t-requires t c =
    let pre' = c.requires in
    let loop' = c.loop-cursor in
    (omega (arith, c.decreases), (pre'.0, pre'.1, loop'.invariant.0, loop'.invariant.1, loop'.invariant.2))

pub statements-loop-cursor-smaller : goal.statements-loop-cursor-smaller
statements-loop-cursor-smaller t c =
    let pre' = c.requires in
    let loop' = c.loop-cursor in
    let if1' = c.loop-cursor-test in
    let statement' = c.statement-t in
    let s = pre'.0 in
    reading_less (loop'.invariant.4 s.env s.describes) if1'.true (statement'.ensures.0 s.env s.describes)

pub statements-loop-cursor-preserved : goal.statements-loop-cursor-preserved
statements-loop-cursor-preserved t c =
    let loop' = c.loop-cursor in
    let if1' = c.loop-cursor-test in
    let statement' = c.statement-t in (
      statement'.auto.row ∙ loop'.invariant.0,
      statement'.auto.args ∙ loop'.invariant.1,
      statement'.ensures.1.long ∙ loop'.invariant.2,
      grows_then loop'.invariant.3 statement'.ensures.1,
      λ e s. reading_more (loop'.invariant.4 e s) if1'.true (statement'.ensures.0 e s) loop'.invariant.3 statement'.ensures.1,
    )

pub statements-returns : goal.statements-returns
statements-returns t c =
    let loop' = c.loop-cursor in
    (loop'.invariant.0, loop'.invariant.1, λ e s. reading_all (loop'.invariant.4 e s) c.loop-cursor-test.false, loop'.invariant.3)
