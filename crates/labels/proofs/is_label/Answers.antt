-- `is_label` meets its contract: the two numbers are where its word begins and ends.
use Prim.Native.Nat.{ℕ, ◌+◌, ◌*◌}
use native.Mathlib.Omega.{arith}
use mathlib.Core.Path.{ap, ◌∙◌}
use mathlib.Core.List.{List}
use lib.ListN.{get_or}
use Rattle.tokens.specs.Written.{same}
use Rattle.words.specs.Cursor.{span}
use Rattle.labels.proofs.is_label.Goals as goal

pub overflow_add-last : goal.overflow_add-last
overflow_add-last c =
    let shared-slice-known3 = c.type_inv.places in
    omega (arith, c.from-last.ensures, shared-slice-known3 (c.args.k * 2 + 1))

pub returns : goal.returns
returns c =
    let number = c.from-at in
    let number2 = c.from-last in
    c.equal.ensures
    ∙ ap (λ (v : List ℕ). same v c.args.w.now)
    (c.bytes_of.ensures ∙ ap (λ (n : ℕ). span c.args.text.now n (number2.result + 1)) number.ensures
    ∙ ap (λ (n : ℕ). span c.args.text.now (get_or c.args.places.now (c.args.k * 2) 0) (n + 1)) number2.ensures)
