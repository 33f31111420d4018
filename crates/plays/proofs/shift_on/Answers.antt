-- A Shift meets its contract: the head that is read is its V's, the V plays as often as the frame says, and its `}` is due behind it.
use native.Mathlib.Omega.{arith}
use mathlib.Core.Path.{refl}
use mathlib.Core.List.{[]}
use Rattle.plays.specs.Plays.{arrays}
use Rattle.tokens.specs.Written.{bytes}
use Rattle.assigns.proofs.Table.{gave_zeros}
use Rattle.plays.proofs.Keeping.{kept_others}
use Rattle.plays.proofs.Tracks.{pins_wide, nest_fits}
use Rattle.plays.proofs.Shifting.{shift_plays, shift_given, shift_tracked}
use Rattle.plays.proofs.shift_on.Goals as goal

pub head-h-requires : goal.head-h-requires
head-h-requires c =
    let stood = c.requires.1 in
    (record { env = stood.env; describes = stood.standing.holding.describes }, (omega arith), gave_zeros, stood.sized.args_long)

pub overflow_sub-nest : goal.overflow_sub-nest
overflow_sub-nest c = omega (arith, c.requires.1.standing.fits.levels)

pub mark_turns-requires : goal.mark_turns-requires
mark_turns-requires c =
    let stood = c.requires.1 in
    (nest_fits _, stood.sized.roomy.few, c.head-h.ensures.0)

pub vectors-failed-requires : goal.vectors-failed-requires
vectors-failed-requires c =
    let stood = c.requires.1 in
    (stood.sized.roomy, c.head-h.ensures.0, stood.sized.waves_long)

pub returns : goal.returns
unfolding bytes
returns c =
    let start = c.requires in
    let h = c.head-h.ensures in
    let v = c.vectors-failed.ensures in
    let q = c.mark_turns.ensures in
    let roomy = start.1.sized.roomy in
    record {
      shifted_is = record {
        kept = kept_others start.1.sized v.0 h.1;
        goes_on = refl;
        plays = λ E p a us s st. shift_plays _ _ _ _ _ st start.0 (h.2 E st.holding.describes) v.1 c.due-cursor.ensures;
      };
      at_level = q.0;
      tracks = λ E p a us s st e. (
          let told = shift_plays {y = arrays _ _ []} _ _ _ _ _ st start.0 (h.2 E st.holding.describes) v.1 c.due-cursor.ensures in
          shift_tracked _ _ p _ (shift_given _ _ _ st start.0 (h.2 E st.holding.describes)) roomy.few (pins_wide st.shows (omega (arith, roomy.few, roomy.values_long))) st.shows.table_is
          (told.told.sound e) q.1 q.2);
    }
