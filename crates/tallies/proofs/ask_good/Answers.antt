-- A body that may fail spoils the row.
use mathlib.Core.Path.{sym, ◌∙◌}
use mathlib.Core.Bool.{true≢false}
use Rattle.tallies.proofs.Stored.{flag_off}
use Rattle.tallies.proofs.Grown.{more_none}
use Rattle.tallies.proofs.ask_good.Goals as goal

pub returns-then-byte-ne0 : goal.returns-then-byte-ne0
returns-then-byte-ne0 c = (c.spoil.ensures.0, λ b. absurd (true≢false (sym c.spoil.ensures.1 ∙ b)))

pub returns-else-byte-ne0 : goal.returns-else-byte-ne0
returns-else-byte-ne0 c = (more_none, λ b. flag_off (sym c.byte.ensures ∙ c.if-byte-ne0.false))
