-- `tell` meets its contract: a fault in the bytes first, and then what is read.
use mathlib.Core.Path.{◌∙◌}
use Rattle.tokens.proofs.Results.{handed_on}
use Rattle.declared.proofs.Numbers.{told_fault, told_clean}
use Rattle.declared.proofs.tell.Goals as goal

pub returns-in_err-fault_in : goal.returns-in_err-fault_in
returns-in_err-fault_in c = handed_on _ _ c.from_residual.ensures.1 ∙ told_fault _ _ c.in_err-fault_in.ensures

pub returns : goal.returns
returns c = c.read_all.ensures ∙ told_clean _ c.in_ok-fault_in.ensures
