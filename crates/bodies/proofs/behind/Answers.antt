-- `behind` meets its contract: one law for each head.
use native.Mathlib.Omega.{arith}
use borrow.Author.Tests.{eq-eqb, ne_eqb}
use Rattle.noted.proofs.Marking.{grows_none}
use Rattle.bodies.proofs.Telling.{told_uses}
use Rattle.bodies.proofs.Beginning.{begun_refused, begun_ends, begun_vector, begun_assigns, begun_chooses, begun_loop, begun_shift, begun_used}
use Rattle.bodies.proofs.behind.Goals as goal

pub returns-then-cursor-ne0 : goal.returns-then-cursor-ne0
returns-then-cursor-ne0 c = (λ e d k tables n t. begun_refused t (ne_eqb _ _ c.if-cursor-ne0.true) c.last.ensures, grows_none)

pub note-requires : goal.note-requires
note-requires c =
    let pre' = c.requires in
    (pre'.ready.2, pre'.ready.5)

pub note-requires-in-Assigns : goal.note-requires-in-Assigns
note-requires-in-Assigns c =
    let pre' = c.requires in
    (pre'.ready.2, pre'.ready.5)

pub note_args-requires : goal.note_args-requires
note_args-requires c =
    let pre' = c.requires in
    (pre'.ready.2, pre'.ready.4, pre'.ready.5)

pub measure_at-requires : goal.measure_at-requires
measure_at-requires c =
    let pre' = c.requires in
    let if1' = c.if-cursor-ne0 in
    (pre'.ready.3, (let g = told_uses pre'.by_index.3 (eq-eqb _ _ if1'.false) c.in-Uses.is in omega (arith, g.4)))

pub returns-in-Ends : goal.returns-in-Ends
returns-in-Ends c =
    let if1' = c.if-cursor-ne0 in
    (λ e d k tables n t. begun_ends t (eq-eqb _ _ if1'.false) c.in-Ends.is c.last-in-Ends.ensures, grows_none)

pub returns-in-Vector : goal.returns-in-Vector
returns-in-Vector c =
    let if1' = c.if-cursor-ne0 in
    let count' = c.count in
    let vector' = c.vector in
    let note' = c.note in (
      λ e d k tables n t.
          begun_vector t (eq-eqb _ _ if1'.false) c.plus.ensures note'.ensures.1 c.in-Vector.is vector'.ensures count'.ensures c.went.ensures,
      note'.ensures.0,
    )

pub returns-in-Assigns : goal.returns-in-Assigns
returns-in-Assigns c =
    let if1' = c.if-cursor-ne0 in
    let setting' = c.setting in
    let note2' = c.note-in-Assigns in (
      λ e d k tables n t. begun_assigns t (eq-eqb _ _ if1'.false) c.plus-in-Assigns.ensures note2'.ensures.1 setting'.ensures c.went-in-Assigns.ensures c.in-Assigns.is,
      note2'.ensures.0,
    )

pub returns-in-Chooses : goal.returns-in-Chooses
returns-in-Chooses c =
    let if1' = c.if-cursor-ne0 in
    let setting2' = c.setting-in-Chooses in
    (λ e d k tables n t. begun_chooses t (eq-eqb _ _ if1'.false) c.plus-in-Chooses.ensures setting2'.ensures c.went-in-Chooses.ensures c.in-Chooses.is, grows_none)

pub returns-in-Loops : goal.returns-in-Loops
returns-in-Loops c =
    let if1' = c.if-cursor-ne0 in
    (λ e d k tables n t. begun_loop t (eq-eqb _ _ if1'.false) c.in-Loops.is, grows_none)

pub returns-in-Shifts : goal.returns-in-Shifts
returns-in-Shifts c =
    let if1' = c.if-cursor-ne0 in
    let in-shift' = c.in_shift-r in
    let shift' = c.shift in (
      λ e d k tables n t.
          begun_shift t (eq-eqb _ _ if1'.false) c.plus-in-Shifts.ensures c.in-Shifts.is n in-shift'.ensures.0 shift'.ensures c.went-in-Shifts.ensures,
      in-shift'.ensures.1,
    )

pub returns-in-Uses : goal.returns-in-Uses
returns-in-Uses c =
    let if1' = c.if-cursor-ne0 in
    let measure-at' = c.measure_at in
    let used5' = c.used-x in
    let note-args' = c.note_args in (
      λ e d k tables n t.
          begun_used t (eq-eqb _ _ if1'.false) c.plus-in-Uses.ensures c.in-Uses.is measure-at'.ensures used5'.ensures c.went-in-Uses.ensures
          note-args'.ensures.0 note-args'.ensures.1,
      note-args'.ensures.0,
    )
