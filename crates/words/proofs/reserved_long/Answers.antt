-- `reserved_long` meets its contract, as `reserved_short` does; of other lengths than those of the arms there is none.
use mathlib.Core.Path.{refl, ◌∙◌}
use Prim.Native.Nat.{ℕ}
use mathlib.Core.List.{List, [], ◌∷◌}
use native.Mathlib.Omega.{arith}
use lib.ListN.{length}
use Rattle.tokens.specs.Written.{bytes}
use Rattle.meaning.specs.Lists.{has}
use Rattle.meaning.specs.Names.{reserved, among}
use Rattle.words.proofs.Words.{of_length, up_to, none_up_to, lengths_in, reserved_of, reserved_not, or_both, or_last}
use Rattle.words.proofs.reserved_long.Goals as goal

pub returns-in-9 : goal.returns-in-9
unfolding of_length among reserved bytes
returns-in-9 c =
    or_both c.equal.ensures (or_last c.equal-in-9.ensures)
    ∙ reserved_of 9 _ c.in-9.is

pub returns-in-10 : goal.returns-in-10
unfolding of_length among reserved bytes
returns-in-10 c = or_last c.equal-in-10.ensures ∙ reserved_of 10 _ c.in-10.is

pub returns-in-11 : goal.returns-in-11
unfolding of_length among reserved bytes
returns-in-11 c = or_last c.equal-in-11.ensures ∙ reserved_of 11 _ c.in-11.is

pub returns-in-12 : goal.returns-in-12
unfolding of_length among reserved bytes
returns-in-12 c =
    or_both c.equal-in-12.ensures (or_last c.equal-in-12-2.ensures)
    ∙ reserved_of 12 _ c.in-12.is

pub returns-in-13 : goal.returns-in-13
unfolding of_length among reserved bytes
returns-in-13 c = or_last c.equal-in-13.ensures ∙ reserved_of 13 _ c.in-13.is

pub returns-in_default : goal.returns-in_default
unfolding lengths_in up_to reserved bytes has
returns-in_default c =
    let w = c.args.w.now in
    let others : List ℕ = 13 ∷ 12 ∷ 11 ∷ 10 ∷ 9 ∷ [] in
    reserved_not (up_to 7 others) w refl (none_up_to 7 others (length w) (omega arith) (((((tt, omega arith), omega arith), omega arith), omega arith), omega arith))
