-- The number behind the first byte, less one.
use mathlib.Core.Path.{ap, ◌∙◌}
use mathlib.Core.List.{List}
use Prim.Native.Nat.{ℕ}
use Rattle.meaning.specs.Names.{number}
use Rattle.words.specs.Values.{capped}
use Rattle.feeds.proofs.Ahead.{times_read}
use Rattle.feeds.proofs.times.Goals as goal

pub returns : goal.returns
returns c =
    rw (c.saturating_sub.ensures, c.unwrap_or-n.ensures)
    (times_read _ c.number.result (c.number.ensures ∙ ap (λ (w : List ℕ). capped (number w)) c.bytes_of.ensures))
