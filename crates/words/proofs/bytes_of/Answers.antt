-- `bytes_of` meets its contract: an end behind the text's is the text's own, and where the place is not before the end there are no bytes.
use Prim.Native.Nat.{◌-◌}
use mathlib.Core.Path.{◌≡◌, refl, sym, ap, ◌∙◌}
use native.Mathlib.Omega.{arith}
use lib.ListN.{length, take, drop, length-drop, drop_of_length-le}
use lib.Seq.{take_all, take-nil}
use Rattle.words.proofs.bytes_of.Goals as goal
use Rattle.words.proofs.bytes_of.Goals.{then-at-end+else-end-text+else-at-text, else-at-end}

pub returns-then-at-text : goal.returns-then-at-text
returns-then-at-text c =
    let text = c.args.text.now in
    let at = c.args.at in
    take_all (length text - at) (drop at text) (omega (arith, length-drop at text))
    ∙ sym (take_all (c.args.end - at) (drop at text) (omega (arith, length-drop at text)))

pub returns : goal.returns
returns c =
    let text = c.args.text.now in
    let at = c.args.at in
    let n = c.args.end - at in
    elim c.if-at-end.branch [
      | then-at-end+else-end-text+else-at-text w ↦ sym (ap (take n) (drop_of_length-le text {i = at} (omega arith)) ∙ take-nil n)
      | else-at-end w ↦ let e : n ≡ 0 = omega arith in sym (rw e refl)
    ]
