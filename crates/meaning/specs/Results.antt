-- An answer as the code tells it: what is given, or the refusal.
use Rattle.std.specs.Prelude.{Result, Ok, Err}
use Rattle.tokens.specs.declared.Refusal.{Refusal}
use Rattle.meaning.specs.Meaning.{Answer, given, refused}

-- of what is given the definition has f
abbrev pub answer_of : {T A : Type 0} → (T → A) → Result T Refusal → Answer A
answer_of f (Ok x) = given (f x)
answer_of f (Err r) = refused r.no r.place
