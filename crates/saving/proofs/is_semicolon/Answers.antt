-- `is_semicolon` meets its contract.
use mathlib.Core.Path.{◌∙◌, ap}
use mathlib.Core.List.{List}
use Prim.Native.Nat.{ℕ}
use Rattle.tokens.specs.Written.{bytes, same}
use Rattle.saving.proofs.is_semicolon.Goals as goal

pub returns : goal.returns
unfolding bytes
returns c = c.equal.ensures ∙ ap (λ (w : List ℕ). same w (bytes ";")) c.bytes_of.ensures
