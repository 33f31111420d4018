-- `scanned` meets its contract: the token's word tells which turn it is.
use Prim.Native.Nat.{ℕ, ◌+◌}
use mathlib.Core.Path.{sym, ap, ◌∙◌}
use mathlib.Core.List.{List}
use Rattle.tokens.specs.Written.{bytes, same}
use Rattle.words.specs.Cursor.{ahead}
use Rattle.saving.proofs.Scanning.{opens, closes, begins, passes}
use Rattle.saving.proofs.scanned.Goals as goal

pub returns-then-equal : goal.returns-then-equal
unfolding bytes
returns-then-equal c =
    let at = c.args in
    opens at.s (ahead at.text.now at.c) (at.c.at + 1) (sym (c.equal.ensures ∙ ap (λ (w : List ℕ). same w (bytes "{")) c.bytes_of-w.ensures) ∙ c.if-equal.true)

pub returns-then-equal-2 : goal.returns-then-equal-2
unfolding bytes
returns-then-equal-2 c =
    let at = c.args in
    closes at.s (ahead at.text.now at.c) (sym (c.equal.ensures ∙ ap (λ (w : List ℕ). same w (bytes "{")) c.bytes_of-w.ensures) ∙ c.if-equal.false)
    (sym (c.equal-2.ensures ∙ ap (λ (w : List ℕ). same w (bytes "}")) c.bytes_of-w.ensures) ∙ c.if-equal-2.true) c.close.ensures

pub returns-then-equal-3 : goal.returns-then-equal-3
unfolding bytes
returns-then-equal-3 c =
    let at = c.args in
    begins at.s (ahead at.text.now at.c) (sym (c.equal.ensures ∙ ap (λ (w : List ℕ). same w (bytes "{")) c.bytes_of-w.ensures) ∙ c.if-equal.false)
    (sym (c.equal-2.ensures ∙ ap (λ (w : List ℕ). same w (bytes "}")) c.bytes_of-w.ensures) ∙ c.if-equal-2.false)
    (sym (c.equal-3.ensures ∙ ap (λ (w : List ℕ). same w (bytes "Pattern")) c.bytes_of-w.ensures) ∙ c.if-equal-3.true) c.begin.ensures

pub returns : goal.returns
unfolding bytes
returns c =
    let at = c.args in
    passes at.s (ahead at.text.now at.c) (sym (c.equal.ensures ∙ ap (λ (w : List ℕ). same w (bytes "{")) c.bytes_of-w.ensures) ∙ c.if-equal.false)
    (sym (c.equal-2.ensures ∙ ap (λ (w : List ℕ). same w (bytes "}")) c.bytes_of-w.ensures) ∙ c.if-equal-2.false)
    (sym (c.equal-3.ensures ∙ ap (λ (w : List ℕ). same w (bytes "Pattern")) c.bytes_of-w.ensures) ∙ c.if-equal-3.false) (at.c.at + 1)
