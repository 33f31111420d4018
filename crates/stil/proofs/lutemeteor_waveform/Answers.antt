-- `lutemeteor_waveform` meets its contract: 1 to 18; 19; or the events at the fronts of two buffers, and their count at that of a third.
use native.Mathlib.Omega.{arith}
use mathlib.Core.Path.{refl}
use Rattle.charts.proofs.Rooms.{roomy}
use Rattle.services.proofs.Shaping.{waveform_refused, waveform_full, waveform_given}
use Rattle.stil.proofs.Handing.{one_stored, room_refused, room_uncounted, draws_none, draws_all}
use Rattle.stil.proofs.lutemeteor_waveform.Goals as goal

pub returns-in-Err : goal.returns-in-Err
returns-in-Err c = draws_none (room_refused 1 _ (waveform_refused _ _ _ _ _ _ c.in-Err.ensures)) c.pack.ensures

pub returns-then-count-lt1 : goal.returns-then-count-lt1
returns-then-count-lt1 c = let e = c.in-Ok.ensures in draws_none (room_uncounted _ _ _ _ e.1 e.2 _ _ _ c.if-count-lt1.true) c.pack-then-count-lt1.ensures

pub returns-then-times-due : goal.returns-then-times-due
returns-then-times-due c =
    let e = c.in-Ok.ensures in
    draws_none (room_refused 1 _ (waveform_full _ _ _ _ _ _ e.1 e.2 c.if-times-due.true refl)) c.pack-then-times-due.ensures

pub put-requires : goal.put-requires
put-requires c =
    let few = c.in-Ok.ensures.2.few in
    record { n_in_bounds = (omega (arith, c.events.auto.ts), omega (arith, c.events.auto.ls)); n_in_bounds_2 = roomy _ _ _ c.if-times-due.false }

pub returns-else-times-due : goal.returns-else-times-due
returns-else-times-due c =
    let e = c.in-Ok.ensures in
    draws_all (waveform_given _ _ _ _ _ _ e.1 e.2 c.if-times-due.false refl c.put.ensures)
    c.if-count-lt1.false (one_stored c.args.count.now _ c.if-count-lt1.false)
