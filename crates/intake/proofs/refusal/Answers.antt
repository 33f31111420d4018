-- `refusal` meets its contract: the definition's tests, in its order.
use mathlib.Core.Path.{◌≡◌, sym, ap, ◌∙◌}
use Prim.Native.Nat.{ℕ}
use native.Mathlib.Omega.{arith}
use Rattle.tokens.specs.declared.Refusal.{Refusal}
use Rattle.intake.proofs.Bytes.{refused_long, refused_bad, refused_room, refused_not}
use Rattle.intake.proofs.refusal.Goals as goal

-- the number that is told is the definition's
at_place : {n m : ℕ} (place : ℕ) → m ≡ n → ◌≡◌ {A = Refusal} (record { no = n; place = place }) (record { no = m; place = place })
at_place place e = ap (λ (k : ℕ). record { no = k; place = place }) (sym e)

pub returns-then-place-ge-RAW : goal.returns-then-place-ge-RAW
returns-then-place-ge-RAW c = (at_place _ (refused_long _ _ _ _ c.if-place-ge-RAW.true), λ z. omega arith)

pub returns-then-not-good : goal.returns-then-not-good
returns-then-not-good c =
    let bad = sym c.is_allowed-good.ensures ∙ c.if-not-good.true in
    (at_place _ (refused_bad _ c.args.it _ _ c.if-place-ge-RAW.false bad), λ z. omega arith)

pub returns-then-full : goal.returns-then-full
returns-then-full c =
    let good = sym c.is_allowed-good.ensures ∙ c.if-not-good.false in
    (at_place _ (refused_room _ c.args.it _ _ c.if-place-ge-RAW.false good (sym c.lacks-full.ensures ∙ c.if-full.true)), λ z. omega arith)

pub returns : goal.returns
returns c =
    let good = sym c.is_allowed-good.ensures ∙ c.if-not-good.false in
    refused_not _ c.args.it _ _ c.if-place-ge-RAW.false good (sym c.lacks-full.ensures ∙ c.if-full.false)
