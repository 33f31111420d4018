-- `keep` meets its contract. The invariant: the characters so far have their spots, and no other spot is changed.
use mathlib.Core.Path.{◌∙◌}
use mathlib.Core.List.{[], ◌∷◌}
use Rattle.spots.proofs.Spotting.{stored_no_chars, stored_char, stored_word}
use native.Mathlib.Omega.{arith}
use Rattle.spots.proofs.keep.Goals as goal

pub loop-b-init : goal.loop-b-init
loop-b-init c = stored_no_chars _ _ _

pub loop-b-preserved : goal.loop-b-preserved
loop-b-preserved c = stored_char c.args.w.now c.args.s c.loop-b.b-index (c.loop-b.auto.spots ∙ c.requires.0) c.requires.1 (omega arith) (omega (arith, c.type_inv.w c.loop-b.b-index)) c.loop-b.invariant

pub returns : goal.returns
returns c = stored_word (c.args.s ∷ []) c.args.w.now (omega arith) c.loop-b.invariant
