-- A Loop's body is entered as often as its turns ask.
use Prim.Native.Nat.{ℕ, ◌*◌}
use native.Mathlib.Omega.{arith}
use lib.ListN.{length-replicate}
use Rattle.meaning.specs.Bounds.{signals_most}
use Rattle.meaning.specs.Body.{arg_of}
use Rattle.tallies.proofs.Stored.{only_then}
use Rattle.grants.proofs.Same.{other_sum}
use Rattle.grants.proofs.Entering.{no_arguments, looped_once, looped_twice}
use Rattle.tokens.proofs.Bools.{contra}
use Rattle.grants.proofs.turns.Goals as goal

pub in_place-requires : goal.in_place-requires
in_place-requires c =
    let p = c.requires in
    (p.0, p.1, p.2, p.3, p.4, length-replicate {A = ℕ} signals_most 0, length-replicate {A = ℕ} (signals_most * 2) 0)

pub returns-then-n-lt2 : goal.returns-then-n-lt2
unfolding arg_of
returns-then-n-lt2 c =
    let p = c.requires in
    let one = c.in_place in
    (one.ensures.0, λ tabs m e. looped_once p.5 (omega (arith, c.if-n-lt2.true)) (one.ensures.2 _ (no_arguments _) tabs m e))

pub in_place-requires-2 : goal.in_place-requires-2
in_place-requires-2 c =
    let p = c.requires in
    let l = c.in_place.ensures.0.long in
    (omega (arith, p.0), omega (arith, p.1), p.2, p.3, p.4, length-replicate {A = ℕ} signals_most 0, length-replicate {A = ℕ} (signals_most * 2) 0)

pub returns : goal.returns
unfolding arg_of
returns c =
    let p = c.requires in
    let one = c.in_place in
    let two = c.in_place-2 in (
      only_then one.ensures.0 two.ensures.0,
      λ tabs m e.
          looped_twice (other_sum one.ensures.0 _ p.2) (omega (arith, c.if-n-lt2.false)) (one.ensures.2 _ (no_arguments _) tabs m (contra _ _ two.ensures.1 e))
          (two.ensures.2 _ (no_arguments _) tabs m e),
    )
