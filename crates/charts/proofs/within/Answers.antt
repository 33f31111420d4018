-- `within` meets its contract: a waveform has three numbers.
use Rattle.charts.proofs.Lists.{asked_within, asked_roomy}
use Rattle.charts.proofs.within.Goals as goal

pub returns-then-waveforms-lt-MOST : goal.returns-then-waveforms-lt-MOST
returns-then-waveforms-lt-MOST c = asked_within _ _

pub returns : goal.returns
returns c = asked_roomy _ _ c.requires c.if-waveforms-lt-MOST.false
