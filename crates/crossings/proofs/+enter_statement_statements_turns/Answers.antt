-- Statements and the bodies in them, one proof for all: a body in a body has one level less to go, so that the number of levels falls at each call that
-- enters one; at each turn of a body's statements fewer tokens are left.
use native.Mathlib.Omega.{arith}
use mathlib.Core.Path.{refl, sym, ◌∙◌}
use borrow.Author.Tests.{eq-eqb}
use Rattle.meaning.specs.Run.{bare, play}
use Rattle.assigns.proofs.Table.{gave_zeros}
use Rattle.tokens.proofs.Bools.{neither}
use Rattle.plays.proofs.Fitting.{fits_some}
use Rattle.plays.proofs.Keeping.{kept_none, kept_then, kept_others, kept_args, kept_supplied, sized_kept, sized_at, shows_supplied}
use Rattle.plays.proofs.Stepping.{in_loop, in_shift_lem, called, loop_plain, loop_standing, shift_standing, called_using}
use Rattle.plays.proofs.Entering.{kind_macro, kind_procedure, kept_below, kept_returned, sized_left, macro_standing, procedure_standing}
use Rattle.crossings.proofs.Passing.{long_none, long_then, long_ample, long_stored, stored_at}
use Rattle.crossings.proofs.Stepping.{ends_step, vector_step, assigns_step, chooses_step, loop_step, shift_step, called_step}
use Rattle.crossings.proofs.Looping.{turned_once, still_found, turned_steady, turned_twice, turned_on, turned_standing, turn_same}
use Rattle.crossings.proofs.Going.{starts, onward_next, fewer, gone}
use Rattle.crossings.proofs.Entering.{macro_tells, procedure_tells}
use Rattle.crossings.proofs.+enter_statement_statements_turns.Goals as goal

pub enter-overflow_sub-inner : goal.enter-overflow_sub-inner
enter-overflow_sub-inner t c = omega (arith, c.requires.use'.some_more)

pub enter-overflow_add-inner : goal.enter-overflow_add-inner
enter-overflow_add-inner t c = omega (arith, c.requires.use'.fits.levels)

pub enter-statements-requires : goal.enter-statements-requires
enter-statements-requires t c =
    let used = c.requires in
    let u = used.use' in
    let at = c.start_at.ensures (omega (arith, u.declared)) in (
      omega (arith, u.some_more),
      (
        eq-eqb _ 0 c.cursor_at-c.ensures.on,
        rw (c.cursor_at-c.ensures.there, at) (record {
          env = used.env;
          body = used.body;
          rest = used.rest;
          state = record { pins = used.state.pins; table = used.state.table; args = used.arguments };
          standing = macro_standing u;
          timed = used.timed;
          sized = sized_at used.sized _ (omega (arith, u.fits.levels));
          fitted = used.fitted;
          ample = used.ample;
        }),
      ),
    )

pub enter-shape_of-values-then-i-lt-PROCEDURES : goal.enter-shape_of-values-then-i-lt-PROCEDURES
enter-shape_of-values-then-i-lt-PROCEDURES t c = c.statements.ensures.kept.values_long

pub enter-shape_of-feeds-then-i-lt-PROCEDURES : goal.enter-shape_of-feeds-then-i-lt-PROCEDURES
enter-shape_of-feeds-then-i-lt-PROCEDURES t c = c.statements.ensures.kept.feeds_long

pub enter-shape_of-args-then-i-lt-PROCEDURES : goal.enter-shape_of-args-then-i-lt-PROCEDURES
enter-shape_of-args-then-i-lt-PROCEDURES t c = c.statements.ensures.kept.args_long

pub enter-returns-then-i-lt-PROCEDURES : goal.enter-returns-then-i-lt-PROCEDURES
enter-returns-then-i-lt-PROCEDURES t c =
    let u = c.requires.use' in
    let at = c.start_at.ensures (omega (arith, u.declared)) in
    let p = rw (c.cursor_at-c.ensures.there, at) at c.statements.ensures in
    record {
      kept = kept_below p.kept;
      long = p.long;
      told = λ E b us a s v runs. macro_tells _ v (kind_macro _ c.if-i-lt-PROCEDURES.true) p.kept (p.plays E b us _ (macro_standing v) runs);
    }

pub enter-leave-requires : goal.enter-leave-requires
enter-leave-requires t c = (c.requires.sized.roomy.values_long, omega (arith, c.requires.use'.fits.levels))

pub enter-statements-r-requires : goal.enter-statements-r-requires
enter-statements-r-requires t c =
    let used = c.requires in
    let u = used.use' in
    let at = c.start_at.ensures (omega (arith, u.declared)) in (
      omega (arith, u.some_more),
      (
        eq-eqb _ 0 c.cursor_at-c.ensures.on,
        rw (c.cursor_at-c.ensures.there, at) (record {
          env = used.env;
          body = used.body;
          rest = used.rest;
          state = record { pins = bare used.state.pins; table = used.state.table; args = used.arguments };
          standing = procedure_standing u used.sized c.leave.ensures;
          timed = used.timed;
          sized = sized_at (sized_left used.sized c.leave.ensures) _ (omega (arith, u.fits.levels));
          fitted = used.fitted;
          ample = used.ample;
        }),
      ),
    )

pub enter-come_back-requires : goal.enter-come_back-requires
enter-come_back-requires t c = (c.statements-r.ensures.kept.values_long ∙ c.leave.ensures.long ∙ c.requires.sized.roomy.values_long, omega (arith, c.requires.use'.fits.levels))

pub enter-shape_of-values : goal.enter-shape_of-values
enter-shape_of-values t c = c.come_back.ensures.long ∙ c.statements-r.ensures.kept.values_long ∙ c.leave.ensures.long

pub enter-shape_of-feeds : goal.enter-shape_of-feeds
enter-shape_of-feeds t c = c.statements-r.ensures.kept.feeds_long

pub enter-shape_of-args : goal.enter-shape_of-args
enter-shape_of-args t c = c.statements-r.ensures.kept.args_long

pub enter-returns : goal.enter-returns
enter-returns t c =
    let used = c.requires in
    let u = used.use' in
    let at = c.start_at.ensures (omega (arith, u.declared)) in
    let p = rw (c.cursor_at-c.ensures.there, at) at c.statements-r.ensures in
    record {
      kept = kept_returned _ c.leave.ensures p.kept c.come_back.ensures;
      long = p.long;
      told = λ E b us a s v runs. procedure_tells _ v (kind_procedure _ c.if-i-lt-PROCEDURES.false) used.sized c.leave.ensures p.kept c.come_back.ensures (p.plays E b us _ (procedure_standing v used.sized c.leave.ensures) runs);
    }

pub statement-head-h-requires : goal.statement-head-h-requires
statement-head-h-requires t c =
    let stood = c.requires.1 in
    (record { env = stood.env; describes = stood.standing.holding.describes }, (omega arith), gave_zeros, stood.sized.args_long)

pub statement-rows_of-requires : goal.statement-rows_of-requires
statement-rows_of-requires t c = omega (arith, c.requires.1.standing.fits.levels)

pub statement-vectors-failed-requires : goal.statement-vectors-failed-requires
statement-vectors-failed-requires t c =
    let stood = c.requires.1 in
    (stood.sized.roomy, c.head-h.ensures.0, stood.fitted, stood.ample, omega (arith, c.rows_of.ensures))

pub statement-put-requires : goal.statement-put-requires
statement-put-requires t c = (c.requires.1.sized.roomy, c.head-h.ensures.0)

pub statement-turns-r-requires : goal.statement-turns-r-requires
statement-turns-r-requires t c =
    let stood = c.requires.1 in
    let st = stood.standing in
    let i = in_loop st c.requires.0 _ _ _ (c.head-h.ensures.2 stood.env st.holding.describes) _ c.in-Loops.is in (
      omega arith,
      (
        i.1.on,
        i.0,
        fits_some i.1.fits,
        omega (arith, st.fits.levels),
        record {
          env = stood.env;
          body = i.1.body;
          rest = i.1.between;
          state = stood.state;
          standing = loop_standing st i.1 st.shows;
          timed = stood.timed;
          sized = sized_kept stood.sized (kept_args stood.sized c.head-h.ensures.1);
          fitted = stood.fitted;
          ample = stood.ample;
        },
      ),
    )

pub statement-shift-requires : goal.statement-shift-requires
statement-shift-requires t c =
    let stood = c.requires.1 in
    let st = stood.standing in
    let i = in_shift_lem st c.requires.0 _ _ _ (c.head-h.ensures.2 stood.env st.holding.describes) c.in-Shifts.is in (
      i.on,
      record {
        env = stood.env;
        body = _;
        rest = i.between;
        state = stood.state;
        standing = shift_standing st i st.shows;
        timed = stood.timed;
        sized = sized_kept stood.sized (kept_args stood.sized c.head-h.ensures.1);
        fitted = stood.fitted;
        ample = stood.ample;
      },
    )

pub statement-overflow_add-frame : goal.statement-overflow_add-frame
statement-overflow_add-frame t c = omega (arith, c.requires.1.sized.roomy.inside_levels)

pub statement-supply-requires : goal.statement-supply-requires
statement-supply-requires t c =
    let stood = c.requires.1 in
    let st = stood.standing in
    let d = called st c.requires.0 _ _ _ (c.head-h.ensures.2 stood.env st.holding.describes) _ _ c.in-Uses.is in
    (c.head-h.ensures.0, c.head-h.ensures.1, stood.sized.roomy.feeds_long, omega (arith, d.body_fits.levels))

pub statement-enter-r-requires : goal.statement-enter-r-requires
statement-enter-r-requires t c =
    let stood = c.requires.1 in
    let st = stood.standing in
    let d = called st c.requires.0 _ _ _ (c.head-h.ensures.2 stood.env st.holding.describes) _ _ c.in-Uses.is in
    let s = c.supply.ensures in (
      omega arith,
      record {
        env = stood.env;
        body = d.body;
        rest = d.after;
        arguments = d.arguments;
        state = stood.state;
        use' = called_using st d (shows_supplied st.shows s.1) (s.2 _ _ d.supplied);
        timed = stood.timed;
        sized = sized_kept stood.sized (kept_supplied stood.sized c.head-h.ensures.1 s.0 s.1);
        fitted = stood.fitted;
        ample = stood.ample;
      },
    )

pub statement-shape_of-args-in-Ends : goal.statement-shape_of-args-in-Ends
statement-shape_of-args-in-Ends t c = c.head-h.ensures.1 ∙ sym c.requires.1.sized.args_long

pub statement-returns-in-Ends : goal.statement-returns-in-Ends
statement-returns-in-Ends t c =
    let h = c.head-h.ensures in
    record {
      kept = kept_args c.requires.1.sized h.1;
      long = long_none;
      steps = λ E b us s st runs. ends_step st c.requires.0 _ _ _ (h.2 E st.holding.describes) c.in-Ends.is st.shows;
    }

pub statement-shape_of-values-in-Vector : goal.statement-shape_of-values-in-Vector
statement-shape_of-values-in-Vector t c = c.vectors-failed.ensures.0.values_long

pub statement-shape_of-feeds-in-Vector : goal.statement-shape_of-feeds-in-Vector
statement-shape_of-feeds-in-Vector t c = c.vectors-failed.ensures.0.feeds_long

pub statement-shape_of-args-in-Vector : goal.statement-shape_of-args-in-Vector
statement-shape_of-args-in-Vector t c = c.head-h.ensures.1 ∙ sym c.requires.1.sized.args_long

pub statement-returns-in-Vector : goal.statement-returns-in-Vector
statement-returns-in-Vector t c =
    let h = c.head-h.ensures in
    let v = c.vectors-failed.ensures in
    record {
      kept = kept_others c.requires.1.sized v.0 h.1;
      long = v.1;
      steps = λ E b us s st runs. vector_step st c.requires.0 _ _ _ (h.2 E st.holding.describes) _ c.in-Vector.is runs (rw c.rows_of.ensures at v.2);
    }

pub statement-shape_of-values-in-Assigns : goal.statement-shape_of-values-in-Assigns
statement-shape_of-values-in-Assigns t c = c.put.ensures.0.values_long

pub statement-shape_of-feeds-in-Assigns : goal.statement-shape_of-feeds-in-Assigns
statement-shape_of-feeds-in-Assigns t c = c.put.ensures.0.feeds_long

pub statement-shape_of-args-in-Assigns : goal.statement-shape_of-args-in-Assigns
statement-shape_of-args-in-Assigns t c = c.head-h.ensures.1 ∙ sym c.requires.1.sized.args_long

pub statement-returns-in-Assigns : goal.statement-returns-in-Assigns
statement-returns-in-Assigns t c =
    let h = c.head-h.ensures in
    let v = c.put.ensures in
    rw c.gone.ensures (record {
      kept = kept_others c.requires.1.sized v.0 h.1;
      long = long_none;
      steps = λ E b us s st runs. assigns_step st c.requires.0 _ _ _ (h.2 E st.holding.describes) c.in-Assigns.is v.1;
    })

pub statement-shape_of-args-in-Chooses : goal.statement-shape_of-args-in-Chooses
statement-shape_of-args-in-Chooses t c = c.head-h.ensures.1 ∙ sym c.requires.1.sized.args_long

pub statement-returns-in-Chooses : goal.statement-returns-in-Chooses
statement-returns-in-Chooses t c =
    let h = c.head-h.ensures in
    rw c.gone-in-Chooses.ensures (record {
      kept = kept_args c.requires.1.sized h.1;
      long = long_none;
      steps = λ E b us s st runs. chooses_step st c.requires.0 _ _ _ (h.2 E st.holding.describes) _ c.in-Chooses.is st.shows;
    })

pub statement-shape_of-values-in-Loops : goal.statement-shape_of-values-in-Loops
statement-shape_of-values-in-Loops t c = c.turns-r.ensures.kept.values_long

pub statement-shape_of-feeds-in-Loops : goal.statement-shape_of-feeds-in-Loops
statement-shape_of-feeds-in-Loops t c = c.turns-r.ensures.kept.feeds_long

pub statement-shape_of-args-in-Loops : goal.statement-shape_of-args-in-Loops
statement-shape_of-args-in-Loops t c = c.turns-r.ensures.kept.args_long ∙ c.head-h.ensures.1 ∙ sym c.requires.1.sized.args_long

pub statement-returns-in-Loops : goal.statement-returns-in-Loops
statement-returns-in-Loops t c =
    let h = c.head-h.ensures in
    let v = c.turns-r.ensures in
    rw c.on_to.ensures (record {
      kept = kept_then (kept_args c.requires.1.sized h.1) v.kept;
      long = v.long;
      steps = λ E b us s st runs. (
          let i = in_loop st c.requires.0 _ _ _ (h.2 E st.holding.describes) _ c.in-Loops.is in
          let p = v.plays E i.1.body i.1.between s (loop_standing st i.1 st.shows) (loop_plain i.1) runs in
          loop_step st.holding i.1 refl (record { tells = p.tells; behind = p.behind }));
    })

pub statement-shape_of-values-in-Shifts : goal.statement-shape_of-values-in-Shifts
statement-shape_of-values-in-Shifts t c = c.shift.ensures.kept.values_long

pub statement-shape_of-feeds-in-Shifts : goal.statement-shape_of-feeds-in-Shifts
statement-shape_of-feeds-in-Shifts t c = c.shift.ensures.kept.feeds_long

pub statement-shape_of-args-in-Shifts : goal.statement-shape_of-args-in-Shifts
statement-shape_of-args-in-Shifts t c = c.shift.ensures.kept.args_long ∙ c.head-h.ensures.1 ∙ sym c.requires.1.sized.args_long

pub statement-returns-in-Shifts : goal.statement-returns-in-Shifts
statement-returns-in-Shifts t c =
    let h = c.head-h.ensures in
    let v = c.shift.ensures in
    record {
      kept = kept_then (kept_args c.requires.1.sized h.1) v.kept;
      long = v.long;
      steps = λ E b us s st runs. (
          let i = in_shift_lem st c.requires.0 _ _ _ (h.2 E st.holding.describes) c.in-Shifts.is in
          shift_step st.holding i v.goes_on (v.plays E _ _ i.between s (shift_standing st i st.shows) runs));
    }

pub statement-shape_of-values-in-Uses : goal.statement-shape_of-values-in-Uses
statement-shape_of-values-in-Uses t c = c.enter-r.ensures.kept.values_long

pub statement-shape_of-feeds-in-Uses : goal.statement-shape_of-feeds-in-Uses
statement-shape_of-feeds-in-Uses t c = c.enter-r.ensures.kept.feeds_long ∙ c.supply.ensures.0 ∙ sym c.requires.1.sized.roomy.feeds_long

pub statement-shape_of-args-in-Uses : goal.statement-shape_of-args-in-Uses
statement-shape_of-args-in-Uses t c = c.enter-r.ensures.kept.args_long ∙ c.head-h.ensures.1 ∙ sym c.requires.1.sized.args_long

pub statement-returns-in-Uses : goal.statement-returns-in-Uses
statement-returns-in-Uses t c =
    let h = c.head-h.ensures in
    let v = c.enter-r.ensures in
    let w = c.supply.ensures in
    rw c.on_to-in-Uses.ensures (record {
      kept = kept_then (kept_supplied c.requires.1.sized h.1 w.0 w.1) v.kept;
      long = v.long;
      steps = λ E b us s st runs. (
          let d = called st c.requires.0 _ _ _ (h.2 E st.holding.describes) _ _ c.in-Uses.is in
          called_step st.holding _ d refl refl (v.told E d.body d.after d.arguments s (called_using st d (shows_supplied st.shows w.1) (w.2 _ _ d.supplied)) runs));
    })

pub statements-loop-frame-init : goal.statements-loop-frame-init
statements-loop-frame-init t c = record { kept = kept_none; long = long_none; onward = λ E b us s st runs. starts c.requires.0 st }

pub statements-statement-r-requires : goal.statements-statement-r-requires
statements-statement-r-requires t c =
    let stood = c.requires.1 in
    let inv = c.loop-frame.invariant in
    let o = inv.onward stood.env stood.body stood.rest stood.state stood.standing stood.timed in (
      omega arith,
      (
        o.on,
        record {
          env = stood.env;
          body = o.rest;
          rest = stood.rest;
          state = o.state;
          standing = o.standing;
          timed = stood.timed;
          sized = sized_kept stood.sized inv.kept;
          fitted = stood.fitted;
          ample = long_ample inv.long stood.ample;
        },
      ),
    )

pub statements-shape_of-values-then-r : goal.statements-shape_of-values-then-r
statements-shape_of-values-then-r t c = c.statement-r.ensures.kept.values_long ∙ c.loop-frame.invariant.kept.values_long

pub statements-shape_of-feeds-then-r : goal.statements-shape_of-feeds-then-r
statements-shape_of-feeds-then-r t c = c.statement-r.ensures.kept.feeds_long ∙ c.loop-frame.invariant.kept.feeds_long

pub statements-shape_of-args-then-r : goal.statements-shape_of-args-then-r
statements-shape_of-args-then-r t c = c.statement-r.ensures.kept.args_long ∙ c.loop-frame.invariant.kept.args_long

pub statements-returns-then-r : goal.statements-returns-then-r
statements-returns-then-r t c =
    let inv = c.loop-frame.invariant in
    let step = c.statement-r.ensures in
    record {
      kept = kept_then inv.kept step.kept;
      long = long_then inv.long step.long;
      plays = λ E b us s st runs. (let o = inv.onward E b us s st runs in gone o (step.steps E o.rest us o.state o.standing runs) c.if-r.true);
    }

pub statements-loop-frame-smaller : goal.statements-loop-frame-smaller
statements-loop-frame-smaller t c =
    let stood = c.requires.1 in
    let o = c.loop-frame.invariant.onward stood.env stood.body stood.rest stood.state stood.standing stood.timed in
    fewer o (c.statement-r.ensures.steps stood.env o.rest stood.rest o.state o.standing stood.timed) c.if-r.false

pub statements-loop-frame-preserved : goal.statements-loop-frame-preserved
statements-loop-frame-preserved t c =
    let inv = c.loop-frame.invariant in
    let step = c.statement-r.ensures in
    record {
      kept = kept_then inv.kept step.kept;
      long = long_then inv.long step.long;
      onward = λ E b us s st runs. (let o = inv.onward E b us s st runs in onward_next o (step.steps E o.rest us o.state o.standing runs) c.if-r.false);
    }

pub turns-overflow_sub-inner : goal.turns-overflow_sub-inner
turns-overflow_sub-inner t c = omega (arith, c.requires.2)

pub turns-rows_of-first-requires : goal.turns-rows_of-first-requires
turns-rows_of-first-requires t c = c.requires.3

pub turns-forget-requires : goal.turns-forget-requires
turns-forget-requires t c = (c.requires.4.ample.marks_long, omega (arith, c.rows_of-first.ensures, c.requires.2))

pub turns-overflow_add-first : goal.turns-overflow_add-first
turns-overflow_add-first t c = omega (arith, c.rows_of-first.ensures)

pub turns-store-requires : goal.turns-store-requires
turns-store-requires t c =
    let stood = c.requires.4 in
    (stood.sized.roomy.few, omega (arith, stood.sized.roomy.values_long), long_ample (long_stored (c.forget.ensures c.args.ground.now.signals)) stood.ample, omega (arith, c.rows_of-first.ensures, c.requires.2))

pub turns-statements-a-requires : goal.turns-statements-a-requires
turns-statements-a-requires t c =
    let stood = c.requires.4 in (
      omega (arith, c.requires.2),
      (
        c.requires.0,
        record {
          env = stood.env;
          body = stood.body;
          rest = stood.rest;
          state = stood.state;
          standing = stood.standing;
          timed = stood.timed;
          sized = stood.sized;
          fitted = stood.fitted;
          ample = long_ample (long_then (long_stored (c.forget.ensures c.args.ground.now.signals)) (long_stored c.store.ensures)) c.requires.4.ample;
        },
      ),
    )

pub turns-shape_of-values-then-a-n : goal.turns-shape_of-values-then-a-n
turns-shape_of-values-then-a-n t c = c.statements-a.ensures.kept.values_long

pub turns-shape_of-feeds-then-a-n : goal.turns-shape_of-feeds-then-a-n
turns-shape_of-feeds-then-a-n t c = c.statements-a.ensures.kept.feeds_long

pub turns-shape_of-args-then-a-n : goal.turns-shape_of-args-then-a-n
turns-shape_of-args-then-a-n t c = c.statements-a.ensures.kept.args_long

pub turns-returns-then-a-n : goal.turns-returns-then-a-n
turns-returns-then-a-n t c =
    let a = c.statements-a.ensures in
    record {
      kept = a.kept;
      long = long_then (long_stored (c.forget.ensures c.args.ground.now.signals)) (long_then (long_stored c.store.ensures) a.long);
      plays = λ E b us s st plain runs. turned_once c.args.frame.turns c.args.n c.args.frame.depth b s c.requires.2 c.requires.3 (rw c.rows_of-first.ensures at (c.forget.ensures c.args.ground.now.signals)) (rw c.rows_of-first.ensures at c.store.ensures) (a.plays E b us s st runs) c.requires.1 c.if-a-n.true;
    }

pub turns-overflow_add-first-2 : goal.turns-overflow_add-first-2
turns-overflow_add-first-2 t c = omega (arith, c.rows_of-first.ensures)

pub turns-same-requires : goal.turns-same-requires
turns-same-requires t c =
    let stood = c.requires.4 in
    let sized = sized_kept stood.sized c.statements-a.ensures.kept in
    (sized.roomy.few, omega (arith, sized.roomy.values_long), long_ample c.statements-a.ensures.long (long_ample (long_then (long_stored (c.forget.ensures c.args.ground.now.signals)) (long_stored c.store.ensures)) c.requires.4.ample), omega (arith, c.rows_of-first.ensures, c.requires.2))

pub turns-finish-requires : goal.turns-finish-requires
turns-finish-requires t c =
    let stood = c.requires.4 in
    (stood.fitted, stood.sized.roomy.few, long_ample c.statements-a.ensures.long (long_ample (long_then (long_stored (c.forget.ensures c.args.ground.now.signals)) (long_stored c.store.ensures)) c.requires.4.ample), omega (arith, c.rows_of-first.ensures, c.requires.2))

pub turns-shape_of-values-then-same : goal.turns-shape_of-values-then-same
turns-shape_of-values-then-same t c = c.statements-a.ensures.kept.values_long

pub turns-shape_of-feeds-then-same : goal.turns-shape_of-feeds-then-same
turns-shape_of-feeds-then-same t c = c.statements-a.ensures.kept.feeds_long

pub turns-shape_of-args-then-same : goal.turns-shape_of-args-then-same
turns-shape_of-args-then-same t c = c.statements-a.ensures.kept.args_long

pub turns-returns-then-same : goal.turns-returns-then-same
turns-returns-then-same t c =
    let a = c.statements-a.ensures in
    let stood = c.requires.4 in
    let ample = long_ample a.long (long_ample (long_then (long_stored (c.forget.ensures c.args.ground.now.signals)) (long_stored c.store.ensures)) c.requires.4.ample) in
    record {
      kept = a.kept;
      long = long_then (long_stored (c.forget.ensures c.args.ground.now.signals)) (long_then (long_stored c.store.ensures) a.long);
      plays = λ E b us s st plain runs. (
          let p = a.plays E b us s st runs in
          let sound = (neither _ _ c.if-a-n.false).0 in
          let row = still_found c.args.frame.turns c.args.n c.args.frame.depth b s c.requires.2 c.requires.3 (rw c.rows_of-first.ensures at (c.forget.ensures c.args.ground.now.signals)) (rw c.rows_of-first.ensures at c.store.ensures) p c.if-a-n.false refl in
          let same = turn_same c.args.frame.turns _ b s plain st.shows (p.tells.shows sound) row (sized_kept stood.sized a.kept).roomy ample (omega (arith, c.requires.2)) (rw c.rows_of-first.ensures at (c.same.ensures c.if-same.true)) in
          turned_steady c.args.frame.turns c.args.n c.args.frame.depth b s c.requires.2 c.requires.3 (rw c.rows_of-first.ensures at (c.forget.ensures c.args.ground.now.signals)) (rw c.rows_of-first.ensures at c.store.ensures) p c.if-a-n.false same c.finish.ensures.0 c.finish.ensures.1 (rw c.rows_of-first.ensures at (c.finish.ensures.2 E.tables runs)));
    }

pub turns-forget-requires-2 : goal.turns-forget-requires-2
turns-forget-requires-2 t c = ((long_ample c.statements-a.ensures.long (long_ample (long_then (long_stored (c.forget.ensures c.args.ground.now.signals)) (long_stored c.store.ensures)) c.requires.4.ample)).marks_long, omega (arith, c.rows_of-first.ensures, c.requires.2))

pub turns-statements-b-requires : goal.turns-statements-b-requires
turns-statements-b-requires t c =
    let stood = c.requires.4 in
    let a = c.statements-a.ensures in
    let p = a.plays stood.env stood.body stood.rest stood.state stood.standing stood.timed in (
      omega (arith, c.requires.2),
      (
        c.requires.0,
        record {
          env = stood.env;
          body = stood.body;
          rest = stood.rest;
          state = (play _ stood.body stood.state).0;
          standing = turned_standing _ stood.standing p (neither _ _ c.if-a-n.false).0;
          timed = stood.timed;
          sized = sized_kept stood.sized a.kept;
          fitted = stood.fitted;
          ample = long_ample (long_stored (c.forget-2.ensures c.args.ground.now.signals)) (long_ample a.long (long_ample (long_then (long_stored (c.forget.ensures c.args.ground.now.signals)) (long_stored c.store.ensures)) c.requires.4.ample));
        },
      ),
    )

pub turns-shape_of-values-then-b-n : goal.turns-shape_of-values-then-b-n
turns-shape_of-values-then-b-n t c = c.statements-b.ensures.kept.values_long ∙ c.statements-a.ensures.kept.values_long

pub turns-shape_of-feeds-then-b-n : goal.turns-shape_of-feeds-then-b-n
turns-shape_of-feeds-then-b-n t c = c.statements-b.ensures.kept.feeds_long ∙ c.statements-a.ensures.kept.feeds_long

pub turns-shape_of-args-then-b-n : goal.turns-shape_of-args-then-b-n
turns-shape_of-args-then-b-n t c = c.statements-b.ensures.kept.args_long ∙ c.statements-a.ensures.kept.args_long

pub turns-returns-then-b-n : goal.turns-returns-then-b-n
turns-returns-then-b-n t c =
    let a = c.statements-a.ensures in
    let z = c.statements-b.ensures in
    record {
      kept = kept_then a.kept z.kept;
      long = long_then (long_then (long_stored (c.forget.ensures c.args.ground.now.signals)) (long_then (long_stored c.store.ensures) a.long)) (long_then (long_stored (c.forget-2.ensures c.args.ground.now.signals)) z.long);
      plays = λ E b us s st plain runs. (
          let p = a.plays E b us s st runs in
          let q = z.plays E b us _ (turned_standing _ st p (neither _ _ c.if-a-n.false).0) runs in
          turned_twice c.args.frame.turns c.args.n c.args.frame.depth b s c.requires.2 c.requires.3 (rw c.rows_of-first.ensures at (c.forget.ensures c.args.ground.now.signals)) (rw c.rows_of-first.ensures at c.store.ensures) p c.if-a-n.false (stored_at c.rows_of-first.ensures (c.forget-2.ensures _)) q c.if-b-n.true);
    }

pub turns-finish-requires-2 : goal.turns-finish-requires-2
turns-finish-requires-2 t c =
    let stood = c.requires.4 in
    (stood.fitted, stood.sized.roomy.few, long_ample c.statements-b.ensures.long (long_ample (long_stored (c.forget-2.ensures c.args.ground.now.signals)) (long_ample c.statements-a.ensures.long (long_ample (long_then (long_stored (c.forget.ensures c.args.ground.now.signals)) (long_stored c.store.ensures)) c.requires.4.ample))), omega (arith, c.rows_of-first.ensures, c.requires.2))

pub turns-shape_of-values : goal.turns-shape_of-values
turns-shape_of-values t c = c.statements-b.ensures.kept.values_long ∙ c.statements-a.ensures.kept.values_long

pub turns-shape_of-feeds : goal.turns-shape_of-feeds
turns-shape_of-feeds t c = c.statements-b.ensures.kept.feeds_long ∙ c.statements-a.ensures.kept.feeds_long

pub turns-shape_of-args : goal.turns-shape_of-args
turns-shape_of-args t c = c.statements-b.ensures.kept.args_long ∙ c.statements-a.ensures.kept.args_long

pub turns-returns : goal.turns-returns
turns-returns t c =
    let a = c.statements-a.ensures in
    let z = c.statements-b.ensures in
    record {
      kept = kept_then a.kept z.kept;
      long = long_then (long_then (long_stored (c.forget.ensures c.args.ground.now.signals)) (long_then (long_stored c.store.ensures) a.long)) (long_then (long_stored (c.forget-2.ensures c.args.ground.now.signals)) z.long);
      plays = λ E b us s st plain runs. (
          let p = a.plays E b us s st runs in
          let q = z.plays E b us _ (turned_standing _ st p (neither _ _ c.if-a-n.false).0) runs in
          turned_on c.args.frame.turns c.args.n c.args.frame.depth b s c.requires.2 c.requires.3 (rw c.rows_of-first.ensures at (c.forget.ensures c.args.ground.now.signals)) (rw c.rows_of-first.ensures at c.store.ensures) p c.if-a-n.false (stored_at c.rows_of-first.ensures (c.forget-2.ensures _)) q c.if-b-n.false plain c.finish-2.ensures.0 c.finish-2.ensures.1 (rw c.rows_of-first.ensures at (c.finish-2.ensures.2 E.tables runs)));
    }
