-- `sight` meets its contract: the declarations are read into blank arrays, and the waveform is watched on the way.
use mathlib.Core.Path.{refl}
use Rattle.declared.proofs.Numbers.{blank_chains, blank_waves}
use Rattle.charts.proofs.Sighting.{sighted}
use Rattle.charts.proofs.sight.Goals as goal

pub declarations-requires : goal.declarations-requires
declarations-requires c =
    record {
      sized = record { all = refl; rows = refl };
      unchained = blank_chains;
      tables = refl;
      marks = refl;
      unset = blank_waves;
    }

pub returns : goal.returns
returns c =
    sighted c.cursor_at-c.ensures c.declarations.ensures
