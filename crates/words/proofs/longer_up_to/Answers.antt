-- `longer_up_to` meets its contract: what 64 bits do not hold is above `most`.
use Prim.Native.Nat.{◌+◌, ◌*◌}
use native.Mathlib.Omega.{arith}
use mathlib.Core.Path.{◌≡◌, ap, ◌∙◌}
use mathlib.Core.Option.{some}
use Rattle.words.specs.Values.{value_of}
use Rattle.words.proofs.Numbers.{up_to_within, up_to_above}
use Rattle.words.proofs.longer_up_to.Goals as goal

pub returns-in_err-checked_mul : goal.returns-in_err-checked_mul
returns-in_err-checked_mul c =
    ap value_of c.from_residual.ensures ∙ up_to_above c.args.most _ (omega (arith, c.in_err-checked_mul.ensures))

pub returns-in_err-m : goal.returns-in_err-m
returns-in_err-m c =
    ap value_of c.from_residual-in_err-m.ensures
    ∙ up_to_above c.args.most _ (omega (arith, c.in_ok-checked_mul.ensures, c.in_err-m.ensures))

pub returns-then-m-most : goal.returns-then-m-most
returns-then-m-most c =
    let exact : c.in_ok-m.m ≡ c.args.n * 10 + c.args.digit = omega (arith, c.in_ok-checked_mul.ensures, c.in_ok-m.ensures) in
    ap some exact ∙ up_to_within c.args.most _ (omega arith)

pub returns-else-m-most : goal.returns-else-m-most
returns-else-m-most c = up_to_above c.args.most _ (omega (arith, c.in_ok-checked_mul.ensures, c.in_ok-m.ensures))
