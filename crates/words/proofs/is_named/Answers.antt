-- `is_named` meets its contract: a name of another length, or with another last byte, is another name.
use Prim.Native.Nat.{ℕ}
use native.Mathlib.Omega.{arith}
use mathlib.Core.Path.{ap, ◌∙◌}
use mathlib.Core.List.{List}
use Rattle.tokens.specs.Written.{same}
use Rattle.words.proofs.Words.{length_differs, last_differs}
use Rattle.words.proofs.is_named.Goals as goal

pub returns-then-end-n : goal.returns-then-end-n
returns-then-end-n c =
    length_differs c.args.text.now c.args.w.now _ _ c.requires.1 c.if-end-text.true (λ h e. absurd (omega arith))

pub returns-then-places-j : goal.returns-then-places-j
returns-then-places-j c =
    length_differs c.args.text.now c.args.w.now _ _ c.requires.1 c.if-end-text.true (λ h e. c.if-places-j.true e)

pub returns-then-text-end : goal.returns-then-text-end
returns-then-text-end c =
    let inside = c.if-end-text.true in
    last_differs c.args.text.now c.args.w.now _ _ c.requires.1 (omega (arith, c.requires.1.some, c.if-end-n.false)) inside c.if-text-end.true

pub returns : goal.returns
returns c = c.equal_by_eights.ensures ∙ ap (λ (u : List ℕ). same u c.args.w.now) c.bytes_of.ensures
