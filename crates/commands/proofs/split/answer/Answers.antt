-- `answer` is safe and ends: a token ends within the text, behind the place that reading began at.
use native.Mathlib.Omega.{arith}
use Rattle.tokens.proofs.Results.{met_token}
use Rattle.tokens.proofs.Laws.{at_token}
use Rattle.commands.proofs.split.answer.Goals as goal

pub overflow_add-at : goal.overflow_add-at
overflow_add-at g c = omega (arith, at_token _ _ _ _ (met_token c.in-Ok-Some.field-0-is c.in-Ok-Some.ensures))

pub slice_bounds-token-end : goal.slice_bounds-token-end
slice_bounds-token-end g c = omega (arith, at_token _ _ _ _ (met_token c.in-Ok-Some.field-0-is c.in-Ok-Some.ensures))

pub token-end-requires : goal.token-end-requires
token-end-requires g c = omega (arith, at_token _ _ _ _ (met_token c.in-Ok-Some.field-0-is c.in-Ok-Some.ensures))

pub loop-token-smaller : goal.loop-token-smaller
loop-token-smaller g c = omega (arith, at_token _ _ _ _ (met_token c.in-Ok-Some.field-0-is c.in-Ok-Some.ensures))

pub loop-token-preserved : goal.loop-token-preserved
loop-token-preserved g c = omega (arith, at_token _ _ _ _ (met_token c.in-Ok-Some.field-0-is c.in-Ok-Some.ensures))
