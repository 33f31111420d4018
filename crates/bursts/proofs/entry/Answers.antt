-- `entry` meets its contract: where nothing was refused there is room in the list, and what is written there is the new name.
use mathlib.Core.Path.{refl}
use lib.ListN.{length-set}
use native.Mathlib.Omega.{arith}
use borrow.Author.Tests.{eq-eqb, eqb-true}
use Rattle.tokens.specs.Written.{bytes}
use Rattle.bursts.proofs.Entries.{entry_read, entry_fits, entry_refused, entry_listed}
use Rattle.bursts.proofs.entry.Goals as goal

pub returns-then-r-ne0 : goal.returns-then-r-ne0
unfolding bytes
returns-then-r-ne0 c =
    let args' = c.args in
    let pre' = c.requires in
    entry_refused (entry_read c.name-a.ensures c.refuse_if-b.ensures c.due-r.ensures) args'.list.now pre'.0 (λ on. c.if-r-ne0.true (eqb-true _ _ on))

pub bounds-list-count : goal.bounds-list-count
unfolding bytes
bounds-list-count c =
    let fits = entry_fits (entry_read c.name-a.ensures c.refuse_if-b.ensures c.due-r.ensures) (eq-eqb _ _ c.if-r-ne0.false) in
    let pre' = c.requires in
    omega (arith, pre'.0)

pub bounds-list-count-2 : goal.bounds-list-count-2
unfolding bytes
bounds-list-count-2 c =
    let fits = entry_fits (entry_read c.name-a.ensures c.refuse_if-b.ensures c.due-r.ensures) (eq-eqb _ _ c.if-r-ne0.false) in
    let pre' = c.requires in
    simp length-set (omega (arith, pre'.0))

pub returns : goal.returns
unfolding bytes
returns c =
    let args' = c.args in
    let pre' = c.requires in
    entry_listed (entry_read c.name-a.ensures c.refuse_if-b.ensures c.due-r.ensures) (eq-eqb _ _ c.if-r-ne0.false) args'.list.now _ pre'.0 refl
