-- `filled` meets its contract: two numbers of each array.
use mathlib.Core.Path.{refl}
use Rattle.spans.proofs.Filling.{drive_at}
use Rattle.spans.proofs.filled.Goals as goal

pub returns : goal.returns
returns c =
    record {
      first_drive = drive_at c.args.firsts.now c.args.n;
      last_drive = drive_at c.args.lasts.now c.args.n;
      first_compare = refl;
      last_compare = refl;
    }
