-- `pass` meets its contract, in each of the three cases of the next token: a token ends within the text, and the bytes up to its end are gone over once.
use mathlib.Core.Path.{◌≡◌, sym, ◌∙◌}
use mathlib.Core.List.{List}
use Prim.Native.Nat.{ℕ}
use native.Mathlib.Omega.{arith}
use Rattle.std.specs.Prelude.{Option, Some, Ok}
use Rattle.tokens.specs.Tokens.{next_token}
use Rattle.tokens.specs.Answers.{next_of}
use Rattle.tokens.specs.declared.Token.{Token}
use Rattle.tokens.proofs.Results.{met_token, met_end, handed_on}
use Rattle.tokens.proofs.Laws.{Seen, at_token}
use Rattle.reader.proofs.Laws.{seen_token, seen_none, seen_refusal, passed_token, passed_none, passed_refusal}
use Rattle.reader.proofs.pass.Goals as goal

-- a token that is met stands from the place on, and ends within the text
stands : (text : List ℕ) (at : ℕ) {x : Option Token} {t : Token} → x ≡ Some t → next_of (Ok x) ≡ next_token text at → Seen text at t.at t.length
stands text at is e = at_token text at _ _ (met_token is e)

pub returns-in_err-token : goal.returns-in_err-token
returns-in_err-token c =
    let next = sym c.in_err-token.ensures in
    (handed_on _ _ c.from_residual.ensures.1 ∙ seen_refusal _ _ _ _ next, passed_refusal _ _ next)

pub returns-in_default : goal.returns-in_default
returns-in_default c =
    let next = met_end c.in_default.is c.in_ok-token.ensures in
    (seen_none _ _ _ next, passed_none _ next)

pub slice_bounds-onward-count : goal.slice_bounds-onward-count
slice_bounds-onward-count c = (stands _ _ c.in-Some.is c.in_ok-token.ensures).from

pub slice_bounds-onward-start : goal.slice_bounds-onward-start
slice_bounds-onward-start c = omega (arith, stands _ _ c.in-Some.is c.in_ok-token.ensures)

pub slice_bounds-onward-end : goal.slice_bounds-onward-end
slice_bounds-onward-end c = omega (arith, stands _ _ c.in-Some.is c.in_ok-token.ensures)

pub overflow_add-behind : goal.overflow_add-behind
overflow_add-behind c = omega (arith, stands _ _ c.in-Some.is c.in_ok-token.ensures)

pub slice_bounds-onward-end-2 : goal.slice_bounds-onward-end-2
slice_bounds-onward-end-2 c = omega (arith, stands _ _ c.in-Some.is c.in_ok-token.ensures)

pub returns : goal.returns
returns c =
    let next = met_token c.in-Some.is c.in_ok-token.ensures in (
      seen_token _ _ _ _ _ next c.onward-position.ensures,
      passed_token _ _ _ _ (stands _ _ c.in-Some.is c.in_ok-token.ensures).from next c.onward-position.ensures c.onward-r.ensures,
    )
