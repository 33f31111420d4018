-- A Shift meets its contract: it costs its size; then all its turns are passed, played as a check without second turns plays them, or its V is read and played from the turn that has
-- the cycle looked for on.
use native.Mathlib.Omega.{arith}
use mathlib.Core.Path.{refl}
use Rattle.tokens.specs.Written.{bytes}
use Rattle.assigns.proofs.Table.{gave_zeros}
use Rattle.plays.proofs.Keeping.{kept_others}
use Rattle.rows.proofs.Going.{going_spent}
use Rattle.steps.proofs.Shifting.{shift_given, shift_closed, shift_pays, shift_affords, shift_passed, shift_entered}
use Rattle.steps.proofs.shift.Goals as goal

pub spend-w-requires : goal.spend-w-requires
spend-w-requires c =
    let pre' = c.requires in
    shift_pays pre'.1.ready

pub shift-r-requires : goal.shift-r-requires
shift-r-requires c =
    let pre' = c.requires in
    let once' = c.once in
    let stood = pre'.1 in
    rw once'.ensures (
      pre'.0,
      record { env = stood.env; body = _; rest = stood.rest; state = stood.state; standing = stood.standing; sized = stood.sized },
    )

pub returns-then-frame-w : goal.returns-then-frame-w
returns-then-frame-w c =
    let pre' = c.requires in
    let spend' = c.spend-w in
    let if1' = c.if-frame-w in
    let once' = c.once in
    let shift' = c.shift-r in
    let played = rw once'.ensures at shift'.ensures in
    let few = if1'.true in
    rw (c.past.ensures, spend'.ensures) (record {
      kept = played.kept;
      goes_on = refl;
      walks = λ E p a us s st ready. shift_passed st ready pre'.1.going (rw spend'.ensures at few) (played.plays E p a us s st);
    })

pub head-h-requires : goal.head-h-requires
head-h-requires c =
    let pre' = c.requires in
    let stood = pre'.1 in
    (record { env = stood.env; describes = stood.standing.holding.describes }, (omega arith), gave_zeros, stood.sized.args_long)

pub turns-shown-requires : goal.turns-shown-requires
turns-shown-requires c =
    let pre' = c.requires in
    let spend' = c.spend-w in
    let if1' = c.if-frame-w in
    let head' = c.head-h in
    let stood = pre'.1 in
    let many = if1'.false in
    rw spend'.ensures (
      stood.sized.roomy,
      head'.ensures.0,
      going_spent stood.going 2,
      (rw spend'.ensures at many),
      shift_affords stood.ready (rw spend'.ensures at many),
    )

pub returns : goal.returns
unfolding bytes
returns c =
    let pre' = c.requires in
    let spend' = c.spend-w in
    let if1' = c.if-frame-w in
    let head' = c.head-h in
    let turns' = c.turns-shown in
    let stood = pre'.1 in
    let many = if1'.false in
    let turned = rw spend'.ensures at turns'.ensures.1 in
    record {
      kept = kept_others stood.sized turns'.ensures.0 head'.ensures.1;
      goes_on = refl;
      walks = λ E p a us s st ready. (
          let made = head'.ensures.2 E st.holding.describes in
          shift_entered st ready (rw spend'.ensures at many) (shift_given _ _ _ st pre'.0 made) turned (shift_closed _ _ _ st pre'.0 made c.due-cursor.ensures));
    }
