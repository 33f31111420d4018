-- What is declared before the patterns is the environment in which an accepted text's patterns are held.
use mathlib.Core.Path.{◌≡◌, sym, ap, ◌∙◌}
use Rattle.tokens.specs.Tokens.{Toks}
use Rattle.meaning.specs.Reader.{ok, give}
use Rattle.meaning.specs.Statements.{Env}
use Rattle.meaning.specs.Document.{Read}
use Rattle.meaning.proofs.Gives.{bind_go}
use Rattle.held.proofs.Parts.{Parts}
use Rattle.fails.specs.Fails.{declarations}

pub declarations_are : {ts us : Toks} {d : Read} (p : Parts ts d us) → declarations ts ≡ ok p.env p.burst_at_lem
unfolding declarations give
declarations_are {ts} p =
    bind_go _ _ ts p.opening_end p.signals_at p.opening_read
    ∙ bind_go _ _ p.signals_at _ p.groups_at p.signals_read
    ∙ bind_go _ _ p.groups_at _ p.timing_at p.groups_read
    ∙ bind_go _ _ p.timing_at _ p.bodies_at p.timing_read
    ∙ bind_go _ _ p.bodies_at _ p.burst_at_lem p.bodies_read
    ∙ ap (λ (e : Env). ok e p.burst_at_lem) (sym p.env_is)
