-- A Shift meets its contract: the head that is read is its V's, and its `}` is due behind it.
use native.Mathlib.Omega.{arith}
use mathlib.Core.Path.{refl}
use lib.ListN.{length-replicate}
use Prim.Native.Nat.{ℕ, ◌*◌}
use Rattle.tokens.specs.Written.{bytes}
use Rattle.meaning.specs.Bounds.{signals_most}
use Rattle.assigns.proofs.Table.{gave_zeros}
use Rattle.grants.proofs.Keeping.{kept_only}
use Rattle.grants.proofs.Shifting.{shift_gone}
use Rattle.grants.proofs.shift.Goals as goal

pub head-h-requires : goal.head-h-requires
head-h-requires c =
    let s = c.requires.1 in
    (record { env = s.env; describes = s.holding.describes }, (omega arith), gave_zeros, length-replicate {A = ℕ} (signals_most * 2) 0)

pub vector-requires : goal.vector-requires
vector-requires c =
    let s = c.requires.1 in
    (s.room, c.head-h.ensures.0, s.waves_long, s.few)

pub returns : goal.returns
unfolding bytes
returns c =
    let pre' = c.requires in
    let head' = c.head-h in
    let vector' = c.vector in
    λ more marks sized.
    record {
      kept = kept_only vector'.ensures.0;
      goes_on = refl;
      gone = λ E p a us holding holds.
          shift_gone _ _ _ holding holds pre'.0 (head'.ensures.2 E holding.describes) vector'.ensures.1 c.due-cursor.ensures sized.row vector'.ensures.0;
    }
