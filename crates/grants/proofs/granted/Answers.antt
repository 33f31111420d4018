-- What each listed pattern uses is summed up; where none asks for anything that isn't there, no cycle of the run fails.
use mathlib.Core.Path.{sym, ◌∙◌}
use Rattle.plays.proofs.Texts.{run_sound}
use Rattle.grants.proofs.Texts.{ungranted, some_pattern, granted_next}
use Rattle.grants.proofs.granted.Goals as goal

pub loop-k-init : goal.loop-k-init
loop-k-init c = ungranted _ _ _ _ _ _ _ _ _ _ _ _ c.requires.0 c.requires.1

pub pattern-one-requires : goal.pattern-one-requires
pattern-one-requires c = some_pattern _ _ _ _ _ _ _ _ _ _ _ _ c.requires.0 c.loop-k.invariant c.loop-k-test.true

pub loop-k-preserved : goal.loop-k-preserved
loop-k-preserved c = granted_next _ _ _ _ _ _ _ _ _ _ _ _ c.loop-k.invariant c.loop-k-test.true c.pattern-one.ensures

pub returns : goal.returns
returns c =
    let u = c.loop-k.invariant in (
      u.roomy.marks_long ∙ sym c.requires.1.marks_long,
      u.roomy.sums_long ∙ sym c.requires.1.sums_long,
      λ p d run h. (u.summed p d run h, λ e. run_sound _ _ _ _ _ _ _ _ _ _ _ _ h (u.left e p d run h) c.loop-k-test.false),
    )
