-- `is_single` meets its contract: each test is a field of what it promises.
use Prim.Native.Nat.{ℕ}
use native.Mathlib.Omega.{arith}
use mathlib.Core.Path.{◌≡◌, sym, ◌∙◌}
use borrow.Author.Tests.{eq-eqb}
use Rattle.data.proofs.is_single.Goals as goal

pub returns-then-c-ne0 : goal.returns-then-c-ne0
returns-then-c-ne0 c = λ e. let z : ◌≡◌ {A = ℕ} 0 1 = cc in absurd (omega arith)

pub returns-then-end-at : goal.returns-then-end-at
returns-then-end-at c = λ e. let z : ◌≡◌ {A = ℕ} 0 1 = cc in absurd (omega arith)

pub returns-then-end-at-ne1 : goal.returns-then-end-at-ne1
returns-then-end-at-ne1 c = λ e. let z : ◌≡◌ {A = ℕ} 0 1 = cc in absurd (omega arith)

pub returns-then-text-end : goal.returns-then-text-end
returns-then-text-end c = λ e. let z : ◌≡◌ {A = ℕ} 0 1 = cc in absurd (omega arith)

pub returns : goal.returns
returns c =
    λ e. record {
      on = eq-eqb _ _ c.if-c-ne0.false;
      one = c.if-end-at-ne1.false;
      inside = c.if-text-end.false;
      char = sym c.is_char.ensures ∙ e;
    }
