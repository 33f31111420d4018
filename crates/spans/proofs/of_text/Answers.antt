-- `of_text` meets its contract: a text that was read is read again up to its Timing.
use mathlib.Core.Path.{refl}
use Rattle.declared.proofs.Numbers.{blank_chains}
use Rattle.spots.proofs.Accepting.{timing_read}
use Rattle.spans.proofs.of_text.Goals as goal

pub front-f-requires : goal.front-f-requires
front-f-requires c = (record { all = refl; rows = refl }, blank_chains)

pub fill-requires : goal.fill-requires
fill-requires c =
    let t = timing_read c.requires.text_value.0 c.requires.text_value.1 c.requires.text_value.2 c.opening-c.ensures c.front-f.ensures in
    record {
      sized = (c.requires.sized, t.listed);
      by_index = c.requires.by_index;
      answers = (c.requires.text_value.0.tables, t.rest, t.answers);
    }

pub returns : goal.returns
returns c =
    λ d us e. (
    let t = timing_read d us e c.opening-c.ensures c.front-f.ensures in
    c.fill.ensures d.tables t.rest t.answers)
