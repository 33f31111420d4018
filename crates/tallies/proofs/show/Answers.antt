-- By what stands there.
use native.Mathlib.Omega.{arith}
use mathlib.Core.Path.{sym, ◌∙◌}
use mathlib.Core.Bool.{true≢false}
use Rattle.tallies.proofs.Grown.{more_marked, more_none}
use Rattle.tallies.proofs.Showing.{shows_held, shows_fed, shows_under_any, shows_under_one}
use Rattle.tallies.proofs.show.Goals as goal

pub returns-then-x-eq0 : goal.returns-then-x-eq0
returns-then-x-eq0 c = (more_marked c.store.ensures (λ q l u e. omega arith) (omega arith), λ tabs m. shows_held _ _ (omega arith) (omega arith) c.if-x-eq0.true c.store.ensures)

pub returns-then-x-eq-MARK : goal.returns-then-x-eq-MARK
returns-then-x-eq-MARK c = (more_marked c.store-then-x-eq-MARK.ensures (λ q l u e. omega arith) (omega arith), λ tabs m. shows_fed _ _ (omega arith) (omega arith) c.if-x-eq-MARK.true c.store-then-x-eq-MARK.ensures)

pub returns-then-t-ge-TABLES : goal.returns-then-t-ge-TABLES
returns-then-t-ge-TABLES c = (c.show_before.ensures.0, λ tabs m. shows_under_any _ _ c.if-x-eq0.false c.if-x-eq-MARK.false c.if-t-ge-TABLES.true (c.show_before.ensures.1 tabs m))

pub returns-then-not-has : goal.returns-then-not-has
returns-then-not-has c = (c.spoil.ensures.0, λ tabs m. shows_under_one _ _ c.if-x-eq0.false c.if-x-eq-MARK.false c.if-t-ge-TABLES.false (λ b. absurd (true≢false (sym c.spoil.ensures.1 ∙ b))))

pub returns-else-not-has : goal.returns-else-not-has
returns-else-not-has c = (more_none, λ tabs m. shows_under_one _ _ c.if-x-eq0.false c.if-x-eq-MARK.false c.if-t-ge-TABLES.false (λ b. sym (c.has.ensures tabs m) ∙ c.if-not-has.false))
