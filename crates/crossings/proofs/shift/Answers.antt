-- A Shift meets its contract: the head that is read is its V's, the V plays as often as the frame says, and its `}` is due behind it.
use native.Mathlib.Omega.{arith}
use mathlib.Core.Path.{refl, sym, ◌∙◌}
use Rattle.tokens.specs.Written.{bytes}
use Rattle.assigns.proofs.Table.{gave_zeros}
use Rattle.plays.proofs.Keeping.{kept_others}
use Rattle.crossings.proofs.Stepping.{shift_plays}
use Rattle.crossings.proofs.shift.Goals as goal

pub head-h-requires : goal.head-h-requires
head-h-requires c =
    let stood = c.requires.1 in
    (record { env = stood.env; describes = stood.standing.holding.describes }, (omega arith), gave_zeros, stood.sized.args_long)

pub rows_of-requires : goal.rows_of-requires
rows_of-requires c = omega (arith, c.requires.1.standing.fits.levels)

pub vectors-failed-requires : goal.vectors-failed-requires
vectors-failed-requires c =
    let stood = c.requires.1 in
    (stood.sized.roomy, c.head-h.ensures.0, stood.fitted, stood.ample, omega (arith, c.rows_of.ensures))

pub shape_of-values : goal.shape_of-values
shape_of-values c = c.vectors-failed.ensures.0.values_long

pub shape_of-feeds : goal.shape_of-feeds
shape_of-feeds c = c.vectors-failed.ensures.0.feeds_long

pub shape_of-args : goal.shape_of-args
shape_of-args c = c.head-h.ensures.1 ∙ sym c.requires.1.sized.args_long

pub returns : goal.returns
unfolding bytes
returns c =
    let stood = c.requires.1 in
    let h = c.head-h.ensures in
    let v = c.vectors-failed.ensures in
    record {
      kept = kept_others stood.sized v.0 h.1;
      long = v.1;
      goes_on = refl;
      plays = λ E p a us s st runs. shift_plays _ _ _ _ st c.requires.0 (h.2 E st.holding.describes) runs (rw c.rows_of.ensures at v.2) c.due-cursor.ensures;
    }
