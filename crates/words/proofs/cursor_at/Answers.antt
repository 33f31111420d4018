-- `cursor_at` meets its contract: the cursor holds what the first token, the end or the fault tells of the stream.
use mathlib.Core.Path.{sym}
use native.Mathlib.Omega.{arith}
use Rattle.tokens.proofs.Results.{met_token, met_end}
use Rattle.tokens.proofs.Laws.{first_token, first_end, first_fault}
use Rattle.words.proofs.Ahead.{at_token, at_end, at_fault}
use Rattle.words.proofs.cursor_at.Goals as goal

pub overflow_add-result : goal.overflow_add-result
overflow_add-result c = omega (arith, first_token _ _ _ _ (met_token c.in-Ok-Some.field-0-is c.in-Ok-Some.ensures))

pub returns-in-Ok-Some : goal.returns-in-Ok-Some
returns-in-Ok-Some c = at_token (first_token _ _ _ _ (met_token c.in-Ok-Some.field-0-is c.in-Ok-Some.ensures))

pub returns-then-at-text : goal.returns-then-at-text
returns-then-at-text c = at_end (first_end _ _ (met_end c.in-Ok-None.field-0-is c.in-Ok-None.ensures)) (omega arith)

pub returns-else-at-text : goal.returns-else-at-text
returns-else-at-text c = at_end (first_end _ _ (met_end c.in-Ok-None.field-0-is c.in-Ok-None.ensures)) (omega arith)

pub returns-in-Err : goal.returns-in-Err
returns-in-Err c = at_fault (first_fault _ _ _ _ (sym c.in-Err.ensures))
