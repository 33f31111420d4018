-- Statements and the bodies in them, one proof for all: a body in a body has one level less to go, so that the number of levels falls at each call that
-- enters one; at each turn of a body's statements fewer tokens are left, and at each turn of a Loop fewer turns.
use Prim.Native.Nat.{ℕ, ◌+◌, ◌-◌}
use native.Mathlib.Nat.{div-mul-le_self}
use native.Mathlib.Omega.{arith}
use mathlib.Core.Path.{refl, sym, ◌∙◌}
use borrow.Author.Tests.{eq-eqb}
use Rattle.meaning.specs.Run.{bare}
use Rattle.walks.proofs.Loops.{some_cycles, turn_below}
use Rattle.words.specs.Cursor.{stream}
use Rattle.assigns.proofs.Table.{gave_zeros}
use Rattle.plays.specs.Plays.{ground_of, arrays}
use Rattle.plays.proofs.Fitting.{fits_some}
use Rattle.plays.proofs.Heading.{begins_within}
use Rattle.plays.proofs.Summing.{summed_empty}
use Rattle.plays.proofs.Keeping.{kept_none, kept_then, kept_others, kept_args, kept_supplied, sized_kept, sized_at, shows_supplied}
use Rattle.plays.proofs.Stepping.{in_loop, in_shift_lem, called, one_vector, loop_standing, shift_standing, called_using}
use Rattle.plays.proofs.Entering.{kind_macro, kind_procedure, kept_below, kept_returned, sized_left, macro_standing, procedure_standing, part_within, part_begins}
use Rattle.rows.specs.Went.{spent}
use Rattle.rows.proofs.Going.{going_spent}
use Rattle.steps.proofs.Copying.{all_told}
use Rattle.steps.proofs.Repeating.{Begun, begun_first, begun_later, repeats_begin, turned_all, turn_stood, turn_long, turn_kept, turned_over, turned_once, turn_rows, turn_copiable, turned_copied, loop_stood, reach_small, reach_few, reach_pays, reach_played, reach_passed, reach_stood, reach_entered, shown_stood, shown_looped}
use Rattle.steps.proofs.Stepping.{vector_pays, assigns_pays, chooses_pays, ends_step, vector_step, assigns_step, chooses_step}
use Rattle.steps.proofs.Inside.{inside_ready, inside_step, loop_plain, shift_ready, shift_step, called_measured, called_use, called_step}
use Rattle.steps.proofs.Going.{starts, onward_next, fewer, going_next, long_next, gone}
use Rattle.steps.proofs.Entering.{used_small, used_few, used_size, used_cycles, used_pays, used_into, into_tells, passed_tells, macro_ready, procedure_ready, macro_tells, procedure_tells}
use Rattle.steps.proofs.+body_of_enter_into_reach_repeat_statement_statements_turns.Goals as goal
use Rattle.steps.proofs.+body_of_enter_into_reach_repeat_statement_statements_turns.Goals.{reach-Joined-j-gt0, reach-then-j-gt0, reach-else-j-gt0}

pub body_of-overflow_sub-ground : goal.body_of-overflow_sub-ground
body_of-overflow_sub-ground t c =
    let pre' = c.requires in
    omega (arith, pre'.0)

pub body_of-statements-requires : goal.body_of-statements-requires
body_of-statements-requires t c =
    let pre' = c.requires in
    let cursor-at' = c.cursor_at-c in
    (omega (arith, c.decreases), (eq-eqb _ 0 cursor-at'.ensures.on, rw cursor-at'.ensures.there pre'.1))

pub body_of-returns : goal.body_of-returns
body_of-returns t c =
    let cursor-at' = c.cursor_at-c in
    let statements' = c.statements in
    rw cursor-at'.ensures.there at statements'.ensures

pub enter-measure_at-m-requires : goal.enter-measure_at-m-requires
enter-measure_at-m-requires t c =
    let pre' = c.requires in
    let use' = pre'.used.use' in
    (use'.holding.describes.book_long, omega (arith, use'.declared))

pub enter-overflow_add-m : goal.enter-overflow_add-m
enter-overflow_add-m t c =
    let pre' = c.requires in
    let measure-at' = c.measure_at-m in
    let u = pre'.used in
    omega (arith, used_size u measure-at'.ensures, used_small u measure-at'.ensures)

pub enter-spend-w-requires : goal.enter-spend-w-requires
enter-spend-w-requires t c =
    let pre' = c.requires in
    let measure-at' = c.measure_at-m in
    λ e. omega (arith, used_pays pre'.used measure-at'.ensures e)

pub enter-overflow_mul-cycles : goal.enter-overflow_mul-cycles
enter-overflow_mul-cycles t c =
    let pre' = c.requires in
    let measure-at' = c.measure_at-m in
    let u = pre'.used in
    omega (arith, used_cycles u measure-at'.ensures, used_few u measure-at'.ensures)

pub enter-overflow_add-cycles : goal.enter-overflow_add-cycles
enter-overflow_add-cycles t c =
    let pre' = c.requires in
    let measure-at' = c.measure_at-m in
    let u = pre'.used in
    omega (arith, used_cycles u measure-at'.ensures, used_few u measure-at'.ensures)

pub enter-into-requires : goal.enter-into-requires
enter-into-requires t c =
    let pre' = c.requires in
    let measure-at' = c.measure_at-m in
    let spend' = c.spend-w in
    let if1' = c.if-w-cycles in
    let stood = pre' in (
      omega (arith, c.decreases),
      rw spend'.ensures (record {
        env = stood.env;
        body = stood.body;
        rest = stood.rest;
        arguments = stood.arguments;
        state = stood.state;
        into = used_into stood.used measure-at'.ensures (rw spend'.ensures at if1'.true);
        sized = stood.sized;
        going = going_spent stood.going _;
      }),
    )

pub enter-returns-then-w-cycles : goal.enter-returns-then-w-cycles
enter-returns-then-w-cycles t c =
    let measure-at' = c.measure_at-m in
    let spend' = c.spend-w in
    let if1' = c.if-w-cycles in
    let into' = c.into in
    let within = rw spend'.ensures at if1'.true in
    let v = rw spend'.ensures at into'.ensures in
    record {
      kept = v.kept;
      tells = λ E b us a s u. into_tells u measure-at'.ensures within (v.tells E b us a s (used_into u measure-at'.ensures within));
    }

pub enter-enter-r-requires : goal.enter-enter-r-requires
enter-enter-r-requires t c =
    let pre' = c.requires in
    let once' = c.once in
    let stood = pre' in
    rw once'.ensures (record {
      env = stood.env;
      body = stood.body;
      rest = stood.rest;
      arguments = stood.arguments;
      state = stood.state;
      use' = stood.used.use';
      sized = stood.sized;
    })

pub enter-past-requires : goal.enter-past-requires
enter-past-requires t c =
    let if1' = c.if-w-cycles in
    omega (arith, if1'.false)

pub enter-returns : goal.enter-returns
enter-returns t c =
    let pre' = c.requires in
    let measure-at' = c.measure_at-m in
    let spend' = c.spend-w in
    let if1' = c.if-w-cycles in
    let once' = c.once in
    let enter' = c.enter-r in
    let past' = c.past in
    let v = rw once'.ensures at enter'.ensures in
    record {
      kept = v.kept;
      tells = λ E b us a s u. passed_tells u measure-at'.ensures enter'.result _ (rw spend'.ensures at if1'.false) pre'.going
          (rw spend'.ensures at past'.ensures) (v.told E b us a s u.use' (summed_empty _ E));
    }

pub into-overflow_sub-inner : goal.into-overflow_sub-inner
into-overflow_sub-inner t c =
    let pre' = c.requires in
    omega (arith, pre'.into.use'.some_more)

pub into-overflow_add-inner : goal.into-overflow_add-inner
into-overflow_add-inner t c =
    let pre' = c.requires in
    omega (arith, pre'.into.use'.fits.levels)

pub into-slice_bounds-body-count : goal.into-slice_bounds-body-count
into-slice_bounds-body-count t c =
    let pre' = c.requires in
    let start-at' = c.start_at-start in
    let u = pre'.into.use' in
    omega (arith, start-at'.ensures (omega (arith, u.declared)), begins_within _ _ _ _ _ u.holds)

pub into-slice_bounds-body-start : goal.into-slice_bounds-body-start
into-slice_bounds-body-start t c =
    let pre' = c.requires in
    let start-at' = c.start_at-start in
    let u = pre'.into.use' in
    omega (arith, start-at'.ensures (omega (arith, u.declared)), begins_within _ _ _ _ _ u.holds)

pub into-body_of-requires : goal.into-body_of-requires
into-body_of-requires t c =
    let pre' = c.requires in
    let args' = c.args in
    let start-at' = c.start_at-start in
    let if1' = c.if-i-lt-PROCEDURES in
    let stood = pre' in
    let u = stood.into.use' in
    let at = start-at'.ensures (omega (arith, u.declared)) in
    let within = begins_within _ _ _ _ _ u.holds in (
      omega (arith, c.decreases, u.some_more),
      (
        part_within args'.ground.now.declared.text.now start-at'.result _ at within,
        rw (part_begins args'.ground.now.declared.text.now start-at'.result _ at within) (record {
          env = stood.env;
          body = stood.body;
          rest = stood.rest;
          state = record { pins = stood.state.pins; table = stood.state.table; args = stood.arguments };
          standing = macro_standing u;
          ready = macro_ready stood.into (kind_macro _ if1'.true);
          sized = sized_at stood.sized _ (omega (arith, u.fits.levels));
          going = stood.going;
        }),
      ),
    )

pub into-returns-then-i-lt-PROCEDURES : goal.into-returns-then-i-lt-PROCEDURES
into-returns-then-i-lt-PROCEDURES t c =
    let pre' = c.requires in
    let args' = c.args in
    let start-at' = c.start_at-start in
    let if1' = c.if-i-lt-PROCEDURES in
    let body-of' = c.body_of in
    let u = pre'.into.use' in
    let at = start-at'.ensures (omega (arith, u.declared)) in
    let p = rw (part_begins args'.ground.now.declared.text.now start-at'.result _ at (begins_within _ _ _ _ _ u.holds)) at body-of'.ensures in
    let kind = kind_macro _ if1'.true in
    record {
      kept = kept_below p.kept;
      tells = λ E b us a s v. macro_tells v kind p.kept (p.walks E b us _ (macro_standing v.use') (macro_ready v kind));
    }

pub into-leave-requires : goal.into-leave-requires
into-leave-requires t c =
    let pre' = c.requires in
    let stood = pre' in
    (stood.sized.roomy.values_long, omega (arith, stood.into.use'.fits.levels))

pub into-body_of-r-requires : goal.into-body_of-r-requires
into-body_of-r-requires t c =
    let pre' = c.requires in
    let args' = c.args in
    let start-at' = c.start_at-start in
    let if1' = c.if-i-lt-PROCEDURES in
    let leave' = c.leave in
    let stood = pre' in
    let u = stood.into.use' in
    let at = start-at'.ensures (omega (arith, u.declared)) in
    let within = begins_within _ _ _ _ _ u.holds in (
      omega (arith, c.decreases, u.some_more),
      (
        part_within args'.ground.now.declared.text.now start-at'.result _ at within,
        rw (part_begins args'.ground.now.declared.text.now start-at'.result _ at within) (record {
          env = stood.env;
          body = stood.body;
          rest = stood.rest;
          state = record { pins = bare stood.state.pins; table = stood.state.table; args = stood.arguments };
          standing = procedure_standing u stood.sized leave'.ensures;
          ready = procedure_ready stood.into (kind_procedure _ if1'.false);
          sized = sized_at (sized_left stood.sized leave'.ensures) _ (omega (arith, u.fits.levels));
          going = stood.going;
        }),
      ),
    )

pub into-come_back-requires : goal.into-come_back-requires
into-come_back-requires t c =
    let pre' = c.requires in
    let leave' = c.leave in
    let body-of2' = c.body_of-r in
    let stood = pre' in
    (body-of2'.ensures.kept.values_long ∙ leave'.ensures.long ∙ stood.sized.roomy.values_long, omega (arith, stood.into.use'.fits.levels))

pub into-returns : goal.into-returns
into-returns t c =
    let pre' = c.requires in
    let args' = c.args in
    let start-at' = c.start_at-start in
    let if1' = c.if-i-lt-PROCEDURES in
    let leave' = c.leave in
    let body-of2' = c.body_of-r in
    let come-back' = c.come_back in
    let sized = pre'.sized in
    let u = pre'.into.use' in
    let at = start-at'.ensures (omega (arith, u.declared)) in
    let l = leave'.ensures in
    let p = rw (part_begins args'.ground.now.declared.text.now start-at'.result _ at (begins_within _ _ _ _ _ u.holds)) at body-of2'.ensures in
    let kind = kind_procedure _ if1'.false in
    record {
      kept = kept_returned _ l p.kept come-back'.ensures;
      tells = λ E b us a s v.
          procedure_tells v _ kind sized l p.kept come-back'.ensures (p.walks E b us _ (procedure_standing v.use' sized l) (procedure_ready v kind));
    }

-- where the turns begin: with the first, or behind it
reach-begun : (t : ℕ) (c : reach-Joined-j-gt0 t)
    → Begun (ground_of c.args.ground.now) (stream c.args.ground.now.declared.text.now c.args.c)
    (c.args.frame.depth - 1) c.args.frame.level c.args.table c.args.frame.turns c.args.n c.measure-m.result.measure.cycles (arrays c.args.values.now c.args.feeds.now c.measure-m.new.args) (spent c.args.walk (c.measure-m.result.measure.size + 1))
    c.if-j-gt0.chosen (arrays c.if-j-gt0.values c.if-j-gt0.feeds c.if-j-gt0.args)
reach-begun t c =
    elim c.if-j-gt0.branch [
      | reach-then-j-gt0 w ↦
          rw (w.chosen-is, w.values-is, w.feeds-is, w.args-is)
          (begun_later (omega (arith, rw c.spend-w.ensures at w.if-j-gt0.true)) (rw w.once-then-j-gt0.ensures at w.turns-first.ensures))
      | reach-else-j-gt0 w ↦
          rw (w.chosen-is, w.values-is, w.feeds-is, w.args-is) (begun_first (omega (arith, rw c.spend-w.ensures at w.if-j-gt0.false)))
    ]

pub reach-overflow_sub-frame : goal.reach-overflow_sub-frame
reach-overflow_sub-frame t c =
    let pre' = c.requires in
    omega (arith, pre'.2)

pub reach-measure-m-requires : goal.reach-measure-m-requires
reach-measure-m-requires t c =
    let pre' = c.requires in
    (pre'.0, pre'.3.sized.args_long, loop_stood pre'.3)

pub reach-overflow_add-measure : goal.reach-overflow_add-measure
reach-overflow_add-measure t c =
    let pre' = c.requires in
    let measure' = c.measure-m in
    omega (arith, reach_small pre'.3 pre'.1 measure'.ensures.1)

pub reach-spend-w-requires : goal.reach-spend-w-requires
reach-spend-w-requires t c =
    let pre' = c.requires in
    let measure' = c.measure-m in
    reach_pays pre'.3 pre'.1 measure'.ensures.1

pub reach-overflow_mul-all : goal.reach-overflow_mul-all
reach-overflow_mul-all t c =
    let pre' = c.requires in
    let measure' = c.measure-m in
    omega (arith, reach_few pre'.3 pre'.1 measure'.ensures.1)

pub reach-turns-r-requires : goal.reach-turns-r-requires
reach-turns-r-requires t c =
    let once' = c.once in
    let pre' = c.requires in
    let measure' = c.measure-m in
    rw once'.ensures (pre'.0, pre'.1, pre'.2, reach_played pre'.3 pre'.1 measure'.ensures.1 measure'.ensures.0)

pub reach-shape_of-args-then-all-w : goal.reach-shape_of-args-then-all-w
reach-shape_of-args-then-all-w t c =
    let turns' = c.turns-r in
    let measure' = c.measure-m in
    let pre' = c.requires in
    turns'.ensures.kept.args_long ∙ measure'.ensures.0 ∙ sym pre'.3.sized.args_long

pub reach-returns-then-all-w : goal.reach-returns-then-all-w
reach-returns-then-all-w t c =
    let past' = c.past in
    let spend' = c.spend-w in
    let pre' = c.requires in
    let measure' = c.measure-m in
    let if1' = c.if-all-w in
    let once' = c.once in
    let turns' = c.turns-r in
    rw (past'.ensures, spend'.ensures)
    (reach_passed pre'.3 pre'.1 measure'.ensures.1 measure'.ensures.0 (rw spend'.ensures at if1'.true) (rw once'.ensures at turns'.ensures))

pub reach-nonzero_div-j : goal.reach-nonzero_div-j
reach-nonzero_div-j t c =
    let args' = c.args in
    let measure' = c.measure-m in
    let spend' = c.spend-w in
    let if1' = c.if-all-w in
    omega (arith, some_cycles args'.n measure'.result.measure.cycles args'.walk.pass (rw spend'.ensures at if1'.false))

pub reach-overflow_mul-j : goal.reach-overflow_mul-j
reach-overflow_mul-j t c =
    let spend' = c.spend-w in
    let args' = c.args in
    let measure' = c.measure-m in
    let if1' = c.if-all-w in
    let pre' = c.requires in
    rw spend'.ensures (omega (arith, div-mul-le_self args'.walk.pass measure'.result.measure.cycles, (rw spend'.ensures at if1'.false), reach_few pre'.3 pre'.1 measure'.ensures.1))

pub reach-past-x-requires : goal.reach-past-x-requires
reach-past-x-requires t c =
    let spend' = c.spend-w in
    let args' = c.args in
    let measure' = c.measure-m in
    rw spend'.ensures (div-mul-le_self args'.walk.pass measure'.result.measure.cycles)

pub reach-turns-first-requires : goal.reach-turns-first-requires
reach-turns-first-requires t c =
    let once2' = c.once-then-j-gt0 in
    let pre' = c.requires in
    let measure' = c.measure-m in
    rw once2'.ensures (pre'.0, pre'.1, pre'.2, reach_played pre'.3 pre'.1 measure'.ensures.1 measure'.ensures.0)

pub reach-overflow_sub-n : goal.reach-overflow_sub-n
reach-overflow_sub-n t c =
    let spend' = c.spend-w in
    let args' = c.args in
    let measure' = c.measure-m in
    let if1' = c.if-all-w in
    rw spend'.ensures (omega (arith, turn_below args'.n measure'.result.measure.cycles args'.walk.pass (rw spend'.ensures at if1'.false)))

pub reach-turns-requires : goal.reach-turns-requires
reach-turns-requires t c =
    let pre' = c.requires in
    let past2' = c.past-x in
    let spend' = c.spend-w in
    let measure' = c.measure-m in
    let if1' = c.if-all-w in
    (omega (arith, c.decreases), rw (past2'.ensures, spend'.ensures) (pre'.0, pre'.2, reach_stood pre'.3 pre'.1 measure'.ensures.1 measure'.ensures.0 (rw spend'.ensures at if1'.false) (reach-begun t (goal.at.reach-turns-requires t c).Joined-j-gt0)))

pub reach-shape_of-values : goal.reach-shape_of-values
reach-shape_of-values t c =
    let turns3' = c.turns in
    turns3'.ensures.kept.values_long ∙ (reach-begun t (goal.at.reach-shape_of-values t c).Joined-j-gt0).kept.values_long

pub reach-shape_of-feeds : goal.reach-shape_of-feeds
reach-shape_of-feeds t c =
    let turns3' = c.turns in
    turns3'.ensures.kept.feeds_long ∙ (reach-begun t (goal.at.reach-shape_of-feeds t c).Joined-j-gt0).kept.feeds_long

pub reach-shape_of-args : goal.reach-shape_of-args
reach-shape_of-args t c =
    let turns3' = c.turns in
    let measure' = c.measure-m in
    let pre' = c.requires in
    turns3'.ensures.kept.args_long ∙ (reach-begun t (goal.at.reach-shape_of-args t c).Joined-j-gt0).kept.args_long ∙ measure'.ensures.0 ∙ sym pre'.3.sized.args_long

pub reach-returns : goal.reach-returns
reach-returns t c =
    let pre' = c.requires in
    let measure' = c.measure-m in
    let spend' = c.spend-w in
    let if1' = c.if-all-w in
    let past2' = c.past-x in
    let turns3' = c.turns in
    reach_entered pre'.3 pre'.1 measure'.ensures.1 measure'.ensures.0 (rw spend'.ensures at if1'.false) (reach-begun t (goal.at.reach-returns t c).Joined-j-gt0) (rw (past2'.ensures, spend'.ensures) at turns3'.ensures)

pub repeat-reach-requires : goal.repeat-reach-requires
repeat-reach-requires t c =
    let pre' = c.requires in
    (omega (arith, c.decreases), pre')

pub repeat-returns-then-walk : goal.repeat-returns-then-walk
repeat-returns-then-walk t c =
    let reach' = c.reach in
    reach'.ensures

pub repeat-turns-requires : goal.repeat-turns-requires
repeat-turns-requires t c =
    let pre' = c.requires in
    let if1' = c.if-walk in
    (omega (arith, c.decreases), (pre'.0, pre'.2, shown_stood pre'.3 pre'.1 if1'.false))

pub repeat-returns : goal.repeat-returns
repeat-returns t c =
    let pre' = c.requires in
    let if1' = c.if-walk in
    let turns' = c.turns in
    shown_looped pre'.3 pre'.1 if1'.false turns'.ensures

pub statement-head-h-requires : goal.statement-head-h-requires
statement-head-h-requires t c =
    let pre' = c.requires in
    let stood = pre'.1 in
    (record { env = stood.env; describes = stood.standing.holding.describes }, (omega arith), gave_zeros, stood.sized.args_long)

pub statement-put-requires : goal.statement-put-requires
statement-put-requires t c =
    let pre' = c.requires in
    let head' = c.head-h in
    (pre'.1.sized.roomy, head'.ensures.0)

pub statement-cycle-requires : goal.statement-cycle-requires
statement-cycle-requires t c =
    let pre' = c.requires in
    let head' = c.head-h in
    let put' = c.put in
    let stood = pre'.1 in
    let st = stood.standing in
    let roomy = stood.sized.roomy in
    let pays = vector_pays st pre'.0 _ _ _ (head'.ensures.2 stood.env st.holding.describes) stood.ready _ c.in-Vector.is in
    (roomy.few, put'.ensures.0.values_long ∙ roomy.values_long, stood.going, pays)

pub statement-put-requires-in-Assigns : goal.statement-put-requires-in-Assigns
statement-put-requires-in-Assigns t c =
    let pre' = c.requires in
    let head' = c.head-h in
    (pre'.1.sized.roomy, head'.ensures.0)

pub statement-spend-requires : goal.statement-spend-requires
statement-spend-requires t c =
    let pre' = c.requires in
    let head' = c.head-h in
    let stood = pre'.1 in
    let st = stood.standing in
    assigns_pays st pre'.0 _ _ _ (head'.ensures.2 stood.env st.holding.describes) stood.ready c.in-Assigns.is

pub statement-spend-requires-in-Chooses : goal.statement-spend-requires-in-Chooses
statement-spend-requires-in-Chooses t c =
    let pre' = c.requires in
    let head' = c.head-h in
    let stood = pre'.1 in
    let st = stood.standing in
    chooses_pays st pre'.0 _ _ _ (head'.ensures.2 stood.env st.holding.describes) stood.ready _ c.in-Chooses.is

pub statement-repeat-requires : goal.statement-repeat-requires
statement-repeat-requires t c =
    let pre' = c.requires in
    let head' = c.head-h in
    let stood = pre'.1 in
    let st = stood.standing in
    let i = in_loop st pre'.0 _ _ _ (head'.ensures.2 stood.env st.holding.describes) _ c.in-Loops.is in (
      omega (arith, c.decreases),
      (
        i.1.on,
        i.0,
        fits_some i.1.fits,
        record {
          env = stood.env;
          body = i.1.body;
          rest = i.1.between;
          state = stood.state;
          standing = loop_standing st i.1 st.shows;
          plain = loop_plain i.1;
          ready = inside_ready i.1 stood.ready;
          sized = sized_kept stood.sized (kept_args stood.sized head'.ensures.1);
          going = stood.going;
        },
      ),
    )

pub statement-shift-requires : goal.statement-shift-requires
statement-shift-requires t c =
    let pre' = c.requires in
    let head' = c.head-h in
    let stood = pre'.1 in
    let st = stood.standing in
    let i = in_shift_lem st pre'.0 _ _ _ (head'.ensures.2 stood.env st.holding.describes) c.in-Shifts.is in (
      i.on,
      record {
        env = stood.env;
        at = (one_vector i).0;
        assigns = (one_vector i).1;
        rest = i.between;
        state = stood.state;
        standing = shift_standing st i st.shows;
        ready = shift_ready i stood.ready;
        sized = sized_kept stood.sized (kept_args stood.sized head'.ensures.1);
        going = stood.going;
      },
    )

pub statement-overflow_add-frame : goal.statement-overflow_add-frame
statement-overflow_add-frame t c =
    let pre' = c.requires in
    omega (arith, pre'.1.sized.roomy.inside_levels)

pub statement-supply-requires : goal.statement-supply-requires
statement-supply-requires t c =
    let pre' = c.requires in
    let head' = c.head-h in
    let stood = pre'.1 in
    let st = stood.standing in
    let d = called st pre'.0 _ _ _ (head'.ensures.2 stood.env st.holding.describes) _ _ c.in-Uses.is in
    (head'.ensures.0, head'.ensures.1, stood.sized.roomy.feeds_long, omega (arith, d.body_fits.levels))

pub statement-enter-r-requires : goal.statement-enter-r-requires
statement-enter-r-requires t c =
    let pre' = c.requires in
    let head' = c.head-h in
    let supply' = c.supply in
    let stood = pre'.1 in
    let st = stood.standing in
    let m = head'.ensures.2 stood.env st.holding.describes in
    let d = called st pre'.0 _ _ _ m _ _ c.in-Uses.is in
    let f = supply'.ensures in (
      omega (arith, c.decreases),
      record {
        env = stood.env;
        body = d.body;
        rest = d.after;
        arguments = d.arguments;
        state = stood.state;
        used = called_use d (called_using st d (shows_supplied st.shows f.1) (f.2 _ _ d.supplied)) (called_measured d st pre'.0 m c.in-Uses.is) stood.ready;
        sized = sized_kept stood.sized (kept_supplied stood.sized head'.ensures.1 f.0 f.1);
        going = stood.going;
      },
    )

pub statement-returns-in-Ends : goal.statement-returns-in-Ends
statement-returns-in-Ends t c =
    let pre' = c.requires in
    let head' = c.head-h in
    let h = head'.ensures in
    record {
      kept = kept_args pre'.1.sized h.1;
      steps = λ E b us s st ready. ends_step st pre'.0 _ _ _ (h.2 E st.holding.describes) pre'.1.going c.in-Ends.is st.shows;
    }

pub statement-shape_of-args-in-Vector : goal.statement-shape_of-args-in-Vector
statement-shape_of-args-in-Vector t c =
    let pre' = c.requires in
    let head' = c.head-h in
    head'.ensures.1 ∙ sym pre'.1.sized.args_long

pub statement-returns-in-Vector : goal.statement-returns-in-Vector
statement-returns-in-Vector t c =
    let pre' = c.requires in
    let head' = c.head-h in
    let put' = c.put in
    let cycle' = c.cycle in
    let h = head'.ensures in
    let v = put'.ensures in
    rw c.gone.ensures (record {
      kept = kept_others pre'.1.sized v.0 h.1;
      steps = λ E b us s st ready.
          vector_step st pre'.0 _ _ _ (h.2 E st.holding.describes) pre'.1.going _ c.in-Vector.is v.1 cycle'.ensures;
    })

pub statement-returns-in-Assigns : goal.statement-returns-in-Assigns
statement-returns-in-Assigns t c =
    let pre' = c.requires in
    let head' = c.head-h in
    let put2' = c.put-in-Assigns in
    let spend' = c.spend in
    let h = head'.ensures in
    let v = put2'.ensures in
    let is = c.in-Assigns.is in
    rw c.gone-in-Assigns.ensures (record {
      kept = kept_others pre'.1.sized v.0 h.1;
      steps = λ E b us s st ready. (
          let m = h.2 E st.holding.describes in
          assigns_step st pre'.0 _ _ _ m pre'.1.going is (assigns_pays st pre'.0 _ _ _ m ready is) spend'.ensures v.1);
    })

pub statement-returns-in-Chooses : goal.statement-returns-in-Chooses
statement-returns-in-Chooses t c =
    let pre' = c.requires in
    let head' = c.head-h in
    let spend2' = c.spend-in-Chooses in
    let h = head'.ensures in
    let is = c.in-Chooses.is in
    rw c.gone-in-Chooses.ensures (record {
      kept = kept_args pre'.1.sized h.1;
      steps = λ E b us s st ready. (
          let m = h.2 E st.holding.describes in
          chooses_step st pre'.0 _ _ _ m pre'.1.going _ is (chooses_pays st pre'.0 _ _ _ m ready _ is) spend2'.ensures st.shows);
    })

pub statement-returns-in-Loops : goal.statement-returns-in-Loops
statement-returns-in-Loops t c =
    let pre' = c.requires in
    let head' = c.head-h in
    let repeat' = c.repeat in
    let h = head'.ensures in
    let v = repeat'.ensures in
    record {
      kept = kept_then (kept_args pre'.1.sized h.1) v.kept;
      steps = λ E b us s st ready. (
          let i = (in_loop st pre'.0 _ _ _ (h.2 E st.holding.describes) _ c.in-Loops.is).1 in
          inside_step i st.holding v.goes_on (v.walks E i.body i.between s (loop_standing st i st.shows) (loop_plain i) (inside_ready i ready)));
    }

pub statement-returns-in-Shifts : goal.statement-returns-in-Shifts
statement-returns-in-Shifts t c =
    let pre' = c.requires in
    let head' = c.head-h in
    let shift' = c.shift in
    let h = head'.ensures in
    let v = shift'.ensures in
    record {
      kept = kept_then (kept_args pre'.1.sized h.1) v.kept;
      steps = λ E b us s st ready. (
          let i = in_shift_lem st pre'.0 _ _ _ (h.2 E st.holding.describes) c.in-Shifts.is in
          shift_step i st.holding v.goes_on (v.walks E _ _ i.between s (shift_standing st i st.shows) (shift_ready i ready)));
    }

pub statement-shape_of-args-in-Uses : goal.statement-shape_of-args-in-Uses
statement-shape_of-args-in-Uses t c =
    let pre' = c.requires in
    let head' = c.head-h in
    let enter' = c.enter-r in
    enter'.ensures.kept.args_long ∙ head'.ensures.1 ∙ sym pre'.1.sized.args_long

pub statement-returns-in-Uses : goal.statement-returns-in-Uses
statement-returns-in-Uses t c =
    let pre' = c.requires in
    let head' = c.head-h in
    let supply' = c.supply in
    let enter' = c.enter-r in
    let h = head'.ensures in
    let f = supply'.ensures in
    let v = enter'.ensures in
    let is = c.in-Uses.is in
    rw c.gone-in-Uses.ensures (record {
      kept = kept_then (kept_supplied pre'.1.sized h.1 f.0 f.1) v.kept;
      steps = λ E b us s st ready. (
          let m = h.2 E st.holding.describes in
          let d = called st pre'.0 _ _ _ m _ _ is in
          let used = called_using st d (shows_supplied st.shows f.1) (f.2 _ _ d.supplied) in
          called_step d enter'.result st.holding
          (v.tells E d.body d.after d.arguments s (called_use d used (called_measured d st pre'.0 m is) ready)));
    })

pub statements-loop-frame-init : goal.statements-loop-frame-init
statements-loop-frame-init t c =
    let pre' = c.requires in
    record { kept = kept_none; long = refl; going = pre'.1.going; onward = λ E b us s st ready. starts pre'.0 st ready }

pub statements-statement-r-requires : goal.statements-statement-r-requires
statements-statement-r-requires t c =
    let pre' = c.requires in
    let loop' = c.loop-frame in
    let stood = pre'.1 in
    let inv = loop'.invariant in
    let o = inv.onward stood.env stood.body stood.rest stood.state stood.standing stood.ready in (
      omega (arith, c.decreases),
      (
        o.on,
        record {
          env = stood.env;
          body = o.rest;
          rest = stood.rest;
          state = o.state;
          standing = o.standing;
          ready = o.ready;
          sized = sized_kept stood.sized inv.kept;
          going = inv.going;
        },
      ),
    )

pub statements-returns-then-r-over : goal.statements-returns-then-r-over
statements-returns-then-r-over t c =
    let loop' = c.loop-frame in
    let statement' = c.statement-r in
    let over' = c.over in
    let inv = loop'.invariant in
    let step = statement'.ensures in
    record {
      kept = kept_then inv.kept step.kept;
      walks = λ E b us s st ready. (
          let o = inv.onward E b us s st ready in
          gone o (step.steps E o.rest us o.state o.standing o.ready) (rw over'.ensures at c.if-r-over.true));
    }

pub statements-loop-frame-smaller : goal.statements-loop-frame-smaller
statements-loop-frame-smaller t c =
    let pre' = c.requires in
    let loop' = c.loop-frame in
    let statement' = c.statement-r in
    let over' = c.over in
    let if1' = c.if-r-over in
    let stood = pre'.1 in
    let o = loop'.invariant.onward stood.env stood.body stood.rest stood.state stood.standing stood.ready in
    fewer o (statement'.ensures.steps stood.env o.rest stood.rest o.state o.standing o.ready) (rw over'.ensures at if1'.false)

pub statements-loop-frame-preserved : goal.statements-loop-frame-preserved
statements-loop-frame-preserved t c =
    let pre' = c.requires in
    let loop' = c.loop-frame in
    let statement' = c.statement-r in
    let over' = c.over in
    let if1' = c.if-r-over in
    let stood = pre'.1 in
    let inv = loop'.invariant in
    let step = statement'.ensures in
    let more = rw over'.ensures at if1'.false in
    let o = inv.onward stood.env stood.body stood.rest stood.state stood.standing stood.ready in
    let h = step.steps stood.env o.rest stood.rest o.state o.standing o.ready in
    record {
      kept = kept_then inv.kept step.kept;
      long = long_next o h more ∙ inv.long;
      going = going_next o h more inv.going;
      onward = λ E b us s st ready. (
          let o = inv.onward E b us s st ready in
          onward_next o (step.steps E o.rest us o.state o.standing o.ready) more);
    }

pub turns-loop-i-init : goal.turns-loop-i-init
turns-loop-i-init t c =
    let pre' = c.requires in
    repeats_begin pre'.2.going

pub turns-keep-requires : goal.turns-keep-requires
turns-keep-requires t c =
    let pre' = c.requires in
    let loop' = c.loop-i in
    let roomy = (sized_kept pre'.2.sized loop'.invariant.kept).roomy in
    (omega (arith, roomy.few, roomy.values_long), omega (arith, roomy.few))

pub turns-statements-r-requires : goal.turns-statements-r-requires
turns-statements-r-requires t c =
    let pre' = c.requires in
    let loop' = c.loop-i in
    let loop-test' = c.loop-i-test in
    (omega (arith, c.decreases, pre'.1), (pre'.0, turn_stood pre'.2 loop'.invariant loop-test'.true))

pub turns-same_pins-same-requires : goal.turns-same_pins-same-requires
turns-same_pins-same-requires t c =
    let pre' = c.requires in
    let loop' = c.loop-i in
    let statements' = c.statements-r in
    let keep' = c.keep in
    let roomy = (sized_kept pre'.2.sized loop'.invariant.kept).roomy in
    (omega (arith, roomy.few, roomy.values_long, statements'.ensures.kept.values_long), omega (arith, roomy.few, keep'.ensures.0))

pub turns-repeated-w-requires : goal.turns-repeated-w-requires
turns-repeated-w-requires t c =
    let loop' = c.loop-i in
    let statements' = c.statements-r in
    let if2' = c.if-start-chosen in
    let pre' = c.requires in
    let loop-test' = c.loop-i-test in
    let over' = c.over in
    let if1' = c.if-over in
    let told = all_told loop'.w.pass statements'.result.table loop'.chosen _ if2'.true in
    (turn_rows pre'.2 loop'.invariant loop-test'.true statements'.ensures, turn_copiable pre'.2 loop'.invariant loop-test'.true statements'.ensures (sym over'.ensures ∙ if1'.false) told.0)

pub turns-loop-i-preserved : goal.turns-loop-i-preserved
turns-loop-i-preserved t c =
    let loop-test' = c.loop-i-test in
    let pre' = c.requires in
    let loop' = c.loop-i in
    let statements' = c.statements-r in
    let over' = c.over in
    let if1' = c.if-over in
    turned_once pre'.2 loop'.invariant loop-test'.true statements'.ensures (sym over'.ensures ∙ if1'.false)

pub turns-returns-after-loop-i : goal.turns-returns-after-loop-i
turns-returns-after-loop-i t c =
    let pre' = c.requires in
    let loop' = c.loop-i in
    let loop-test' = c.loop-i-test in
    turned_all pre'.2 loop'.invariant loop-test'.false (omega arith)

pub turns-shape_of-values-then-over : goal.turns-shape_of-values-then-over
turns-shape_of-values-then-over t c =
    let pre' = c.requires in
    let loop' = c.loop-i in
    let loop-test' = c.loop-i-test in
    let statements' = c.statements-r in
    (turn_kept pre'.2 loop'.invariant loop-test'.true statements'.ensures).values_long

pub turns-shape_of-feeds-then-over : goal.turns-shape_of-feeds-then-over
turns-shape_of-feeds-then-over t c =
    let pre' = c.requires in
    let loop' = c.loop-i in
    let loop-test' = c.loop-i-test in
    let statements' = c.statements-r in
    (turn_kept pre'.2 loop'.invariant loop-test'.true statements'.ensures).feeds_long

pub turns-shape_of-args-then-over : goal.turns-shape_of-args-then-over
turns-shape_of-args-then-over t c =
    let pre' = c.requires in
    let loop' = c.loop-i in
    let loop-test' = c.loop-i-test in
    let statements' = c.statements-r in
    (turn_kept pre'.2 loop'.invariant loop-test'.true statements'.ensures).args_long

pub turns-shape_of-buffer-then-over : goal.turns-shape_of-buffer-then-over
turns-shape_of-buffer-then-over t c =
    let pre' = c.requires in
    let loop' = c.loop-i in
    let loop-test' = c.loop-i-test in
    let statements' = c.statements-r in
    turn_long pre'.2 loop'.invariant loop-test'.true statements'.ensures

pub turns-returns-then-over : goal.turns-returns-then-over
turns-returns-then-over t c =
    let pre' = c.requires in
    let loop' = c.loop-i in
    let loop-test' = c.loop-i-test in
    let statements' = c.statements-r in
    let over' = c.over in
    let if1' = c.if-over in
    turned_over pre'.2 loop'.invariant loop-test'.true statements'.ensures (sym over'.ensures ∙ if1'.true)

pub turns-shape_of-values-then-start-chosen : goal.turns-shape_of-values-then-start-chosen
turns-shape_of-values-then-start-chosen t c =
    let pre' = c.requires in
    let loop' = c.loop-i in
    let loop-test' = c.loop-i-test in
    let statements' = c.statements-r in
    (turn_kept pre'.2 loop'.invariant loop-test'.true statements'.ensures).values_long

pub turns-shape_of-feeds-then-start-chosen : goal.turns-shape_of-feeds-then-start-chosen
turns-shape_of-feeds-then-start-chosen t c =
    let pre' = c.requires in
    let loop' = c.loop-i in
    let loop-test' = c.loop-i-test in
    let statements' = c.statements-r in
    (turn_kept pre'.2 loop'.invariant loop-test'.true statements'.ensures).feeds_long

pub turns-shape_of-args-then-start-chosen : goal.turns-shape_of-args-then-start-chosen
turns-shape_of-args-then-start-chosen t c =
    let pre' = c.requires in
    let loop' = c.loop-i in
    let loop-test' = c.loop-i-test in
    let statements' = c.statements-r in
    (turn_kept pre'.2 loop'.invariant loop-test'.true statements'.ensures).args_long

pub turns-shape_of-buffer-then-start-chosen : goal.turns-shape_of-buffer-then-start-chosen
turns-shape_of-buffer-then-start-chosen t c =
    let repeated' = c.repeated-w in
    let pre' = c.requires in
    let loop' = c.loop-i in
    let loop-test' = c.loop-i-test in
    let statements' = c.statements-r in
    repeated'.ensures.long ∙ turn_long pre'.2 loop'.invariant loop-test'.true statements'.ensures

pub turns-returns-then-start-chosen : goal.turns-returns-then-start-chosen
turns-returns-then-start-chosen t c =
    let pre' = c.requires in
    let loop' = c.loop-i in
    let statements' = c.statements-r in
    let if2' = c.if-start-chosen in
    let loop-test' = c.loop-i-test in
    let over' = c.over in
    let if1' = c.if-over in
    let keep' = c.keep in
    let same-pins' = c.same_pins-same in
    let repeated' = c.repeated-w in
    let roomy = (sized_kept pre'.2.sized loop'.invariant.kept).roomy in
    let told = all_told loop'.w.pass statements'.result.table loop'.chosen _ if2'.true in
    turned_copied pre'.2 loop'.invariant loop-test'.true statements'.ensures (sym over'.ensures ∙ if1'.false) told.0 (omega (arith, roomy.few, keep'.ensures.0)) (same-pins'.ensures told.2) keep'.ensures.1 told.1 repeated'.ensures
