-- `lutemeteor_holds` meets its contract: the answer, case by case, handed out.
use mathlib.Core.Path.{refl, sym, ap, ◌∙◌}
use Prim.Native.Nat.{ℕ}
use Rattle.std.specs.Prelude.{Option as Maybe}
use Rattle.meaning.specs.Meaning.{given}
use Rattle.index.specs.Lines.{held_of}
use Rattle.stil.proofs.Handing.{room_refused, hands_none, hands_as}
use Rattle.stil.proofs.lutemeteor_holds.Goals as goal

pub returns-in-Err : goal.returns-in-Err
returns-in-Err c = hands_none (room_refused 2 _ (sym c.in-Err.ensures)) c.pack.ensures

pub returns-in-Ok-None : goal.returns-in-Ok-None
returns-in-Ok-None c = hands_as (sym c.in-Ok-None.ensures ∙ ap (λ (o : Maybe ℕ). given (held_of o)) c.in-Ok-None.field-0-is) refl c.hand_two.ensures

pub returns-in-Ok-Some : goal.returns-in-Ok-Some
returns-in-Ok-Some c = hands_as (sym c.in-Ok-Some.ensures ∙ ap (λ (o : Maybe ℕ). given (held_of o)) c.in-Ok-Some.field-0-is) refl c.hand_two-in-Ok-Some.ensures
