-- A used body is passed only where its sum is known and the state grants it; else nothing is done.
use Prim.Native.Nat.{ℕ}
use native.Mathlib.Omega.{arith}
use mathlib.Core.Path.{sym, ◌∙◌}
use lib.ListN.{length-replicate}
use Rattle.meaning.specs.Bounds.{signals_most}
use Rattle.plays.proofs.Passing.{room, passes_macro, passes_procedure}
use Rattle.plays.proofs.pass.Goals as goal

pub bounds-marks-i : goal.bounds-marks-i
bounds-marks-i c =
    let args' = c.args in
    (room args'.marks.now args'.sums.now args'.i c.if-marks-i.false).0

pub asks-requires : goal.asks-requires
asks-requires c =
    let pre' = c.requires in
    let args' = c.args in
    let if1' = c.if-marks-i in
    ((room args'.marks.now args'.sums.now args'.i if1'.false).1, pre'.0, pre'.1, pre'.3, pre'.4, omega (arith, pre'.5), length-replicate {A = ℕ} signals_most 0)

pub table_behind-requires : goal.table_behind-requires
table_behind-requires c =
    let args' = c.args in
    let if1' = c.if-marks-i in
    (room args'.marks.now args'.sums.now args'.i if1'.false).1

pub returns-then-i-lt-PROCEDURES : goal.returns-then-i-lt-PROCEDURES
returns-then-i-lt-PROCEDURES c =
    let pre' = c.requires in
    let usable' = c.usable in
    let if2' = c.if-not-usable in
    let if3' = c.if-i-lt-PROCEDURES in
    let asks' = c.asks in
    let if4' = c.if-not-asks in
    let settle' = c.settle in
    let Known-is = sym usable'.ensures ∙ if2'.false in
    passes_macro Known-is pre'.1 pre'.5 (room c.args.marks.now c.args.sums.now c.args.i c.if-marks-i.false).1 if3'.true (asks'.ensures.1 if4'.false) settle'.ensures c.table_behind.ensures.0

pub asks-requires-2 : goal.asks-requires-2
asks-requires-2 c =
    let pre' = c.requires in
    let args' = c.args in
    let if1' = c.if-marks-i in
    ((room args'.marks.now args'.sums.now args'.i if1'.false).1, pre'.0, pre'.1, pre'.3, pre'.4, omega (arith, length-replicate {A = ℕ} signals_most 0), length-replicate {A = ℕ} signals_most 0)

pub returns : goal.returns
returns c =
    let pre' = c.requires in
    let usable' = c.usable in
    let if2' = c.if-not-usable in
    let if3' = c.if-i-lt-PROCEDURES in
    let asks2' = c.asks-2 in
    let Known-is = sym usable'.ensures ∙ if2'.false in
    passes_procedure Known-is pre'.1 pre'.5 (room c.args.marks.now c.args.sums.now c.args.i c.if-marks-i.false).1 if3'.false pre'.2 (asks2'.ensures.1 c.if-not-asks-2.false)
