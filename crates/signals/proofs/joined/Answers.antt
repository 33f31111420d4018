-- `joined` meets its contract: a test that refuses, and then the new set.
use mathlib.Core.Path.{refl, sym, ap, ◌∙◌}
use mathlib.Core.Bool.{not}
use Rattle.meaning.specs.Groups.{joined as joined_due}
use Rattle.words.proofs.Flow.{then, checked, given, valued, passed, alive_before}
use Rattle.signals.proofs.joined.Goals as goal

pub returns-then-plus : goal.returns-then-plus
unfolding joined_due
returns-then-plus c =
    let if1' = c.if-plus in
    let meets' = c.meets in
    let refuse-if' = c.refuse_if-cursor in
    λ text fits.
    let test = checked {text = text} refuse-if'.ensures meets'.ensures refl in
    rw if1'.true (then _ test (valued given (λ on. sym (c.append-set.ensures (fits (alive_before test on) (sym meets'.ensures ∙ passed refuse-if'.ensures refl on))))))

pub returns : goal.returns
unfolding joined_due
returns c =
    let if1' = c.if-plus in
    let inside' = c.inside in
    let refuse-if2' = c.refuse_if-cursor-2 in
    λ text fits. rw if1'.false (then _ (checked refuse-if2'.ensures (ap not inside'.ensures) refl) (valued given (λ on. sym c.without-set.ensures)))
