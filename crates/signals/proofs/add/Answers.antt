-- `add` meets its contract: the place and end of the name, and then its row.
use Rattle.signals.proofs.Tables.{added}
use mathlib.Core.Path.{ap, ◌∙◌}
use Rattle.words.specs.Chains.{chain_of}
use Rattle.signals.proofs.add.Goals as goal

pub returns : goal.returns
returns c =
    let put-name' = c.put_name in
    let chain' = c.chain-h in
    let bytes-of' = c.bytes_of in
    added c.requires.0 c.requires.1 c.requires.2 (chain'.ensures.is ∙ ap chain_of bytes-of'.ensures) put-name'.ensures c.put_set.ensures
