-- What is played from where the code has the state has as many pins in each cycle as there are signals.
use Prim.Native.Nat.{ℕ}
use native.Mathlib.Omega.{arith}
use mathlib.Core.Path.{◌≡◌, ap, ◌∙◌}
use lib.ListN.{length, length-take}
use Rattle.meaning.specs.Body.{Body}
use Rattle.meaning.specs.Run.{State, play}
use Rattle.meaning.proofs.Rows.{AllWide, keeps_play}
use Rattle.plays.specs.Plays.{Ground, Arrays, Sized, Showing}

pub play_wide : {g : Ground} {level table : ℕ} {x : Arrays} {s : State} → Sized g level x → Showing g level table x s → (t : ℕ) (b : Body)
    → AllWide g.signals (play t b s).1
play_wide {g} {x = x} {s = s} sized shows t b =
    let long : length s.pins ≡ g.signals =
    ap length shows.pins_are ∙ omega (arith, length-take g.signals x.values, sized.roomy.few, sized.roomy.values_long) in
    (keeps_play g.signals t b s long).1
