-- `read_all` meets its contract: arrays of zeros are blank, and what reading them full promises is told.
use mathlib.Core.Path.{refl}
use Rattle.declared.proofs.Numbers.{blank_chains, blank_waves, told_refused, told_read}
use Rattle.declared.proofs.read_all.Goals as goal

pub declarations-d-requires : goal.declarations-d-requires
declarations-d-requires c = record {
  sized = record { all = refl; rows = refl };
  unchained = blank_chains;
  tables = refl;
  marks = refl;
  unset = blank_waves;
}

pub returns-then-behind-ne0 : goal.returns-then-behind-ne0
returns-then-behind-ne0 c =
    told_refused c.cursor_at-c.ensures c.declarations-d.ensures c.if-behind-ne0.true

pub returns : goal.returns
returns c =
    told_read c.cursor_at-c.ensures c.declarations-d.ensures c.if-behind-ne0.false
