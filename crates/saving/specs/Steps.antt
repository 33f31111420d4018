-- One overwriting after the other: from a text, over spans in their order, to another text.
use Rattle.std.specs.Prelude.{◌≡◌, ℕ, List, [], ◌∷◌}
use Rattle.saving.specs.Saving.{Span, overwritten, hurt_in, verdict}

pub data Steps : List ℕ → List Span → List ℕ → Type 0 where
  still : {text : List ℕ} → Steps text [] text
  step : {text behind : List ℕ} {s : Span} {l : List Span} → verdict text ≡ hurt_in s → Steps (overwritten s text) l behind → Steps text (s ∷ l) behind
