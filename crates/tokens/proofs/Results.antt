-- What a step tells, once its case is known, and what a `?` hands on.
use mathlib.Core.Path.{◌≡◌, sym, ap, ◌∙◌}
use Rattle.std.specs.Prelude.{Option as Maybe, Some, None, Result, Ok, Err, IsErrAnd}
use Rattle.std.proofs.lemmas.Result.{err_from_is_err_and}
use Rattle.tokens.specs.Tokens.{Next, found, nothing}
use Rattle.tokens.specs.Answers.{next_of}
use Rattle.tokens.specs.declared.Token.{Token}

-- the step `Ok x`, where the next is n
pub met_token : {x : Maybe Token} {t : Token} {n : Next} → x ≡ Some t → next_of (Ok x) ≡ n → n ≡ found t.at t.length
met_token is e = sym e ∙ rw is

pub met_end : {x : Maybe Token} {n : Next} → x ≡ None → next_of (Ok x) ≡ n → n ≡ nothing
met_end is e = sym e ∙ rw is

-- the exit of a `?` is the error that it met
pub handed_on : {T E : Type 0} (r : Result T E) (x : E) → IsErrAnd r (λ y. y ≡ x) → r ≡ Err x
handed_on r x h = let p = err_from_is_err_and r h in p.1 ∙ ap Err p.2
