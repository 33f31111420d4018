-- What the service Window promises of its answer and its buffer.
use Rattle.std.specs.Prelude.{ℕ, ◌≡◌, List, Result}
use Rattle.tokens.specs.declared.Refusal.{Refusal}
use Rattle.meaning.specs.Meaning.{Answer}
use Rattle.meaning.specs.Results.{answer_of}
use Rattle.meaning.specs.Services.{Window}
use Rattle.verdicts.specs.Buffers.{afterwards}
use Rattle.views.specs.declared.Rows.{Rows}

-- its answer as the definition's, with the buffer as it is afterwards
abbrev pub shown_of : Result Rows Refusal → List ℕ → Answer Window
shown_of r buffer = answer_of (λ x. record { count = x.count; visits = x.visits; buffer = buffer }) r

-- THE PROMISE of the service, whose answer is a: the buffer is that of the answer, or as it was
pub record Views (a : Answer Window) (before after : List ℕ) (r : Result Rows Refusal) : Type 0 where
  pub answers : shown_of r after ≡ a
  pub buffer_is : after ≡ afterwards (λ w. w.buffer) a before
