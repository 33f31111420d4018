-- `mend` meets its contract. The invariant: so far the spans are overwritten and noted.
use mathlib.Core.Path.{subst}
use Rattle.std.specs.Prelude.{Option, Ok}
use Rattle.saving.specs.Mends.{Turns}
use Rattle.saving.specs.declared.Hurt.{Hurt}
use Rattle.saving.proofs.Mending.{mending_start, mending_few, mending_on, mending_less, mending_done, mending_beyond}
use Rattle.services.proofs.mend.Goals as goal

pub loop-hurt-init : goal.loop-hurt-init
loop-hurt-init c = mending_start

pub note-count-requires : goal.note-count-requires
note-count-requires c = mending_few c.loop-hurt.invariant c.requires

pub loop-hurt-smaller : goal.loop-hurt-smaller
loop-hurt-smaller c = mending_less c.loop-hurt.invariant (subst (λ (o : Option Hurt). Turns c.loop-hurt.text c.mend_once.new.text (Ok o)) c.in-Ok-Some.field-0-is c.in-Ok-Some.ensures)

pub loop-hurt-preserved : goal.loop-hurt-preserved
loop-hurt-preserved c = mending_on c.loop-hurt.invariant (subst (λ (o : Option Hurt). Turns c.loop-hurt.text c.mend_once.new.text (Ok o)) c.in-Ok-Some.field-0-is c.in-Ok-Some.ensures) c.note-count.ensures

pub returns-in-Ok-None : goal.returns-in-Ok-None
returns-in-Ok-None c = mending_done c.loop-hurt.invariant (subst (λ (o : Option Hurt). Turns c.loop-hurt.text c.mend_once.new.text (Ok o)) c.in-Ok-None.field-0-is c.in-Ok-None.ensures)

pub returns-in-Err : goal.returns-in-Err
returns-in-Err c = mending_beyond c.loop-hurt.invariant c.in-Err.ensures
