-- `waveform` meets its contract: 1 to 18; 19; or the events at the fronts of both buffers.
use native.Mathlib.Omega.{arith}
use mathlib.Core.Path.{refl}
use Rattle.tokens.proofs.Results.{handed_on}
use Rattle.charts.proofs.Rooms.{roomy}
use Rattle.services.proofs.Shaping.{waveform_refused, waveform_full, waveform_given, shapes_refused, shapes_given}
use Rattle.services.proofs.waveform.Goals as goal

pub returns-in_err-n : goal.returns-in_err-n
returns-in_err-n c = rw (handed_on c.from_residual.result _ c.from_residual.ensures.1) (shapes_refused (waveform_refused _ _ _ _ _ _ c.in_err-n.ensures))

pub returns-then-times-n : goal.returns-then-times-n
returns-then-times-n c = let e = c.in_ok-n.ensures in shapes_refused (waveform_full _ _ _ _ _ _ e.1 e.2 c.if-times-n.true refl)

pub put-requires : goal.put-requires
put-requires c =
    let few = c.in_ok-n.ensures.2.few in
    record { n_in_bounds = (omega (arith, c.events.auto.ts), omega (arith, c.events.auto.ls)); n_in_bounds_2 = roomy _ _ _ c.if-times-n.false }

pub returns : goal.returns
returns c = let e = c.in_ok-n.ensures in shapes_given (waveform_given _ _ _ _ _ _ e.1 e.2 c.if-times-n.false refl c.put.ensures)
