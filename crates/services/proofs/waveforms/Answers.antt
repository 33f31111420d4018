-- `waveforms` meets its contract: nothing else is handed out.
use Rattle.services.proofs.Charting.{plots_spared}
use Rattle.services.proofs.waveforms.Goals as goal

pub returns : goal.returns
returns c = plots_spared c.plotted.ensures
