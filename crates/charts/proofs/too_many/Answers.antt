-- `too_many` meets its contract: 64 waveforms have three numbers each.
use mathlib.Core.Path.{refl}
use Rattle.charts.proofs.Lists.{asked_many}
use Rattle.charts.proofs.too_many.Goals as goal

pub returns : goal.returns
returns c = asked_many _ refl
