-- Statements and the bodies in them, one proof for all: a body in a body has one level less to go, so that the number of levels falls at each call that
-- enters one; at each turn of a body's statements fewer tokens are left.
use Prim.Native.Nat.{◌-◌}
use native.Mathlib.Omega.{arith}
use mathlib.Core.Path.{refl, sym, ap, ◌∙◌}
use mathlib.Core.List.{[]}
use lib.ListN.{length, get_or}
use borrow.Author.Tests.{eq-eqb}
use Rattle.tokens.proofs.Bools.{true_false}
use Rattle.meaning.specs.Run.{bare}
use Rattle.turns.specs.Few.{play_few}
use Rattle.assigns.proofs.Table.{gave_zeros}
use Rattle.plays.specs.Plays.{nest_of}
use Rattle.plays.proofs.Fitting.{fits_some}
use Rattle.plays.proofs.Following.{failing_plays, sound_plays}
use Rattle.memos.proofs.Rows.{recalled_row}
use Rattle.memos.proofs.Tracking.{tracking_same, tracking_then, tracking_joined, tracked_body}
use Rattle.plays.proofs.Tracks.{pins_roomy, nest_fits, nest_less, nest_next, nest_some, nest_deep, invoked_next, as_long, few_below, roomy_values, macro_tracked, procedure_tracked}
use Rattle.plays.proofs.Heading.{begins_within}
use Rattle.plays.proofs.Keeping.{kept_none, kept_then, kept_others, kept_args, kept_passed, kept_used, sized_kept, sized_at, shows_supplied}
use Rattle.plays.proofs.Stepping.{steps_moves, ends_step, vector_step, assigns_step, chooses_step, in_loop, in_shift_lem, called, reused, reused_holds, reused_moves, reused_step, loop_standing, loop_plain, loop_step, shift_standing, shift_step, inside_moves, called_moves, invoked_calling, called_invoking, called_step}
use Rattle.plays.proofs.Turning.{turned_once, turned_twice, turned_standing, twice, loop_once, second_open, second_due, first_sound}
use Rattle.plays.proofs.Seconds.{turned_plays, turned_tracks}
use Rattle.plays.proofs.Going.{going, going_on, gone, gone_tracked, ended_then, resumed, resumed_standing, resumed_on, resumed_less, resumed_end, again_standing}
use Rattle.plays.proofs.Recalling.{recalled_told, recalled_tracked, invoked_using, invoking_untouched, knows_tracked, used_knows, looped_heads, looped_knows, risen, remembered_joins, behind_head_lem, loop_head, heads_more, heads_tracked, below_tracked, below_remembered, below_none, below_then, below_around}
use Rattle.plays.proofs.Entering.{kind_macro, kind_procedure, kept_below, kept_returned, sized_left, macro_standing, procedure_standing, macro_told, procedure_told, served_fed, part_within, part_begins}
use Rattle.plays.proofs.+body_of_looped_needed_turns_play_body_statement_statements_used_uses.Goals as goal

pub body_of-overflow_sub-ground : goal.body_of-overflow_sub-ground
body_of-overflow_sub-ground t c =
    let pre' = c.requires in
    omega (arith, pre'.0)

pub body_of-statements-requires : goal.body_of-statements-requires
body_of-statements-requires t c =
    let pre' = c.requires in
    let cursor-at' = c.cursor_at-c in
    (omega arith, rw cursor-at'.ensures.there (eq-eqb _ 0 cursor-at'.ensures.on, pre'.1, pre'.2))

pub body_of-returns : goal.body_of-returns
body_of-returns t c =
    let cursor-at' = c.cursor_at-c in
    let statements' = c.statements in
    rw cursor-at'.ensures.there at statements'.ensures

pub looped-overflow_sub-inside : goal.looped-overflow_sub-inside
looped-overflow_sub-inside t c = omega (arith, c.requires.2)

pub looped-overflow_sub-inside-2 : goal.looped-overflow_sub-inside-2
looped-overflow_sub-inside-2 t c = omega (arith, c.requires.3)

pub looped-fresh-requires : goal.looped-fresh-requires
looped-fresh-requires t c = (nest_fits _, c.requires.4.sized.roomy.few)

pub looped-needed_turns-turned-requires : goal.looped-needed_turns-turned-requires
looped-needed_turns-turned-requires t c =
    let start = c.requires in
    let p = start in
    (omega arith, (p.0, p.1, p.2, p.4, heads_tracked (nest_of (c.args.frame.depth - 1)) p.5 p.4.sized.roomy.few (nest_fits _) c.fresh.ensures.0))

pub looped-returns-then-turned : goal.looped-returns-then-turned
looped-returns-then-turned t c =
    let start = c.requires in
    let depth = c.args.frame.depth in
    let roomy = start.4.sized.roomy in
    let w = c.fresh.ensures in
    let v = c.needed_turns-turned.ensures in
    let next = nest_next start.2 start.3 in (
      refl,
      record {
        kept = v.kept;
        ended = λ E b us s st hs e. true_false refl e;
        plays = λ E b us s st m f. (
            let p = v.plays E b us s st (knows_tracked m (nest_of (depth - 1)) roomy.few (nest_fits (depth - 1)) w.0) (λ room. (f, w.1 (as_long (sym w.0.long) room))) in
            failing_plays refl (p.told.fails c.if-turned.true));
        memo_long = v.memo_long ∙ w.0.long;
        below = below_around (nest_of depth) next (below_then (below_tracked (nest_of (depth - 1)) w.0) v.below);
        heads = λ E b us s st hs. v.heads E b us s st (heads_tracked (nest_of (depth - 1)) hs roomy.few (nest_fits (depth - 1)) w.0);
        learnt = λ E b us s st m f.
            v.learnt E b us s st (knows_tracked m (nest_of (depth - 1)) roomy.few (nest_fits (depth - 1)) w.0) (λ room. (f, w.1 (as_long (sym w.0.long) room)));
        tracks = λ E b us s st m f e. true_false refl e;
      },
    )

pub looped-remember-requires : goal.looped-remember-requires
looped-remember-requires t c =
    let roomy = c.requires.4.sized.roomy in
    (nest_fits _, roomy.few, roomy_values roomy.few roomy.values_long c.needed_turns-turned.ensures.kept.values_long)

pub looped-overflow_sub-around : goal.looped-overflow_sub-around
looped-overflow_sub-around t c = omega (arith, c.requires.3)

pub looped-rise-requires : goal.looped-rise-requires
looped-rise-requires t c = (omega (arith, c.requires.2), omega (arith, c.requires.4.sized.roomy.few))

pub looped-shape_of-values : goal.looped-shape_of-values
looped-shape_of-values t c = c.needed_turns-turned.ensures.kept.values_long

pub looped-shape_of-feeds : goal.looped-shape_of-feeds
looped-shape_of-feeds t c = c.needed_turns-turned.ensures.kept.feeds_long

pub looped-shape_of-memo : goal.looped-shape_of-memo
looped-shape_of-memo t c = c.rise.ensures.0.long ∙ c.remember.ensures.long ∙ c.needed_turns-turned.ensures.memo_long ∙ c.fresh.ensures.0.long

pub looped-returns : goal.looped-returns
looped-returns t c =
    let start = c.requires in
    let depth = c.args.frame.depth in
    let roomy = start.4.sized.roomy in
    let w = c.fresh.ensures in
    let v = c.needed_turns-turned.ensures in
    let sound = c.if-turned.false in
    let r = rw c.use_at-u.ensures at c.remember.ensures in
    let z = c.rise.ensures in
    let next = nest_next start.2 start.3 in
    rw c.goes_on.ensures (
      refl,
      record {
        kept = v.kept;
        ended = λ E b us s st hs e. v.ended E b us s st (heads_tracked (nest_of (depth - 1)) hs roomy.few (nest_fits (depth - 1)) w.0) sound;
        plays = λ E b us s st m f. (
            let p = v.plays E b us s st (knows_tracked m (nest_of (depth - 1)) roomy.few (nest_fits (depth - 1)) w.0) (λ room. (f, w.1 (as_long (sym w.0.long) room))) in
            sound_plays sound p);
        memo_long = z.0.long ∙ r.long ∙ v.memo_long ∙ w.0.long;
        below = below_then (below_then (below_around (nest_of depth) next (below_then (below_tracked (nest_of (depth - 1)) w.0) v.below)) (below_remembered (nest_of depth) (nest_fits depth) r)) (below_tracked (nest_of depth) z.0);
        heads = λ E b us s st hs.
            heads_tracked (nest_of depth) (looped_heads start.6 st _ v sound r (heads_tracked (nest_of (depth - 1)) hs roomy.few (nest_fits (depth - 1)) w.0)) roomy.few (nest_fits depth) z.0;
        learnt = λ E b us s st m f. (
            let m' = knows_tracked m (nest_of (depth - 1)) roomy.few (nest_fits (depth - 1)) w.0 in
            knows_tracked (looped_knows start.6 st _ v sound r (pins_roomy st.shows roomy.few roomy.values_long) (nest_some (nest_of depth) next) m' f (λ room. (f, w.1 (as_long (sym w.0.long) room)))) (nest_of depth) roomy.few (nest_fits depth) z.0);
        tracks = λ E b us s st m f e. tracking_joined (λ some room. (
          tracked_body (pins_roomy st.shows roomy.few roomy.values_long) (nest_some (nest_of depth) next) (as_long w.0.long room) (w.1 room)
              (v.tracks E b us s st (knows_tracked m (nest_of (depth - 1)) roomy.few (nest_fits (depth - 1)) w.0) (λ room. (f, w.1 (as_long (sym w.0.long) room))) sound),
          λ j l. (
              let less = nest_less start.2 in
              let below = few_below roomy.few l in
              risen (nest_of depth) j next w.0 v.below less below (remembered_joins (nest_of depth) j r less below (z.1 some (as_long (r.long ∙ v.memo_long ∙ w.0.long) room) j l))),
        ));
      },
    )

pub needed_turns-overflow_sub-first : goal.needed_turns-overflow_sub-first
needed_turns-overflow_sub-first t c =
    let pre' = c.requires in
    omega (arith, pre'.2)

pub needed_turns-statements-a-requires : goal.needed_turns-statements-a-requires
needed_turns-statements-a-requires t c =
    let pre' = c.requires in
    (omega (arith, pre'.2), (pre'.0, pre'.3, pre'.4))

pub needed_turns-returns-then-a-n : goal.needed_turns-returns-then-a-n
needed_turns-returns-then-a-n t c =
    let a = c.statements-a.ensures in
    let start = c.requires in
    let taken = c.if-a-n.true in
    record {
      kept = a.kept;
      ended = a.ended;
      plays = λ E b us s st m f. turned_once _ _ (λ j. play_few j _ b) start.1 (a.plays E b us s st m tt) taken;
      memo_long = a.memo_long;
      below = a.below;
      heads = a.heads;
      learnt = λ E b us s st m f. a.learnt E b us s st m tt;
      tracks = λ E b us s st m f e. tracking_same (λ z. sym (loop_once _ _ (λ j. play_few j _ b) z _ start.1 taken e)) (a.tracks E b us s st m tt e);
    }

pub needed_turns-overflow_sub-first-2 : goal.needed_turns-overflow_sub-first-2
needed_turns-overflow_sub-first-2 t c = omega (arith, c.requires.3.standing.fits.levels)

pub needed_turns-begins_again-requires : goal.needed_turns-begins_again-requires
needed_turns-begins_again-requires t c =
    let stood = c.requires.3 in
    let roomy = stood.sized.roomy in
    (nest_fits _, stood.sized.waves_long, roomy.few, roomy_values roomy.few roomy.values_long c.statements-a.ensures.kept.values_long)

pub needed_turns-returns-then-begins_again : goal.needed_turns-returns-then-begins_again
needed_turns-returns-then-begins_again t c =
    let a = c.statements-a.ensures in
    let roomy = c.requires.3.sized.roomy in
    let n = c.args.n in
    let k = c.args.frame.seconds in
    let left = c.if-a-n.false in
    let sound = first_sound n k c.statements-a.result.failed left in
    let h = c.begins_again.ensures c.if-begins_again.true in
    let wide = roomy_values roomy.few roomy.values_long refl in
    let wide' = roomy_values roomy.few roomy.values_long a.kept.values_long in
    record {
      kept = a.kept;
      ended = a.ended;
      plays = λ E b us s st m f. turned_plays _ _ _ _ st wide wide' a.memo_long f h n k (a.plays E b us s st m tt) left (a.tracks E b us s st m tt sound);
      memo_long = a.memo_long;
      below = a.below;
      heads = a.heads;
      learnt = λ E b us s st m f. a.learnt E b us s st m tt;
      tracks = λ E b us s st m f e. turned_tracks _ _ _ _ st wide wide' a.memo_long f h n k (a.plays E b us s st m tt) left (a.tracks E b us s st m tt sound);
    }

pub needed_turns-overflow_sub-second : goal.needed_turns-overflow_sub-second
needed_turns-overflow_sub-second t c =
    let args' = c.args in
    let statements' = c.statements-a in
    let if1' = c.if-a-n in
    omega (arith, second_open args'.n args'.frame.seconds statements'.result.failed if1'.false)

pub needed_turns-overflow_sub-second-2 : goal.needed_turns-overflow_sub-second-2
needed_turns-overflow_sub-second-2 t c =
    let pre' = c.requires in
    omega (arith, pre'.2)

pub needed_turns-statements-requires : goal.needed_turns-statements-requires
needed_turns-statements-requires t c =
    let statements' = c.statements-a in
    let pre' = c.requires in
    let args' = c.args in
    let if1' = c.if-a-n in
    let a = statements'.ensures in
    let stood = pre'.3 in
    let sound = first_sound args'.n args'.frame.seconds statements'.result.failed if1'.false in (
      omega (arith, pre'.2),
      (
        pre'.0,
        record {
          env = stood.env;
          body = stood.body;
          rest = stood.rest;
          state = _;
          standing = again_standing _ stood.standing (a.ended stood.env stood.body stood.rest stood.state stood.standing pre'.4 sound);
          sized = sized_kept stood.sized a.kept;
        },
        a.heads stood.env stood.body stood.rest stood.state stood.standing pre'.4,
      ),
    )

pub needed_turns-shape_of-values : goal.needed_turns-shape_of-values
needed_turns-shape_of-values t c =
    let statements2' = c.statements in
    let statements' = c.statements-a in
    statements2'.ensures.kept.values_long ∙ statements'.ensures.kept.values_long

pub needed_turns-shape_of-feeds : goal.needed_turns-shape_of-feeds
needed_turns-shape_of-feeds t c =
    let statements2' = c.statements in
    let statements' = c.statements-a in
    statements2'.ensures.kept.feeds_long ∙ statements'.ensures.kept.feeds_long

pub needed_turns-shape_of-args : goal.needed_turns-shape_of-args
needed_turns-shape_of-args t c =
    let statements2' = c.statements in
    let statements' = c.statements-a in
    statements2'.ensures.kept.args_long ∙ statements'.ensures.kept.args_long

pub needed_turns-shape_of-memo : goal.needed_turns-shape_of-memo
needed_turns-shape_of-memo t c =
    let statements2' = c.statements in
    let statements' = c.statements-a in
    statements2'.ensures.memo_long ∙ statements'.ensures.memo_long

pub needed_turns-returns : goal.needed_turns-returns
needed_turns-returns t c =
    let a = c.statements-a.ensures in
    let z = c.statements.ensures in
    let n = c.args.n in
    let k = c.args.frame.seconds in
    let left = c.if-a-n.false in
    let sound = first_sound n k c.statements-a.result.failed left in
    record {
      kept = kept_then a.kept z.kept;
      ended = λ E b us s st h e. (let n = a.ended E b us s st h sound in ended_then n.fed.same (z.ended E b us _ (again_standing _ st n) (a.heads E b us s st h) e));
      plays = λ E b us s st m f. (
          let p = a.plays E b us s st m tt in
          turned_twice _ _ (λ j. play_few j _ b) p left (z.plays E b us _ (turned_standing _ _ st p sound) (a.learnt E b us s st m tt) tt));
      memo_long = z.memo_long ∙ a.memo_long;
      below = below_then a.below z.below;
      heads = λ E b us s st h. z.heads E b us _ (again_standing _ st (a.ended E b us s st h sound)) (a.heads E b us s st h);
      learnt = λ E b us s st m f. z.learnt E b us _ (turned_standing _ _ st (a.plays E b us s st m tt) sound) (a.learnt E b us s st m tt) tt;
      tracks = λ E b us s st m f e. tracking_same (λ y. sym (twice n k (λ j. play_few j _ b) y (second_due n k c.statements-a.result.failed left) (second_open n k c.statements-a.result.failed left)))
          (tracking_then (a.tracks E b us s st m tt sound) a.memo_long (z.tracks E b us _ (turned_standing _ _ st (a.plays E b us s st m tt) sound) (a.learnt E b us s st m tt) tt e));
    }

pub play_body-overflow_sub-inner : goal.play_body-overflow_sub-inner
play_body-overflow_sub-inner t c =
    let pre' = c.requires in
    omega (arith, pre'.0.use'.some_more)

pub play_body-overflow_add-inner : goal.play_body-overflow_add-inner
play_body-overflow_add-inner t c = omega (arith, c.requires.0.use'.fits.levels)

pub play_body-slice_bounds-body-count : goal.play_body-slice_bounds-body-count
play_body-slice_bounds-body-count t c =
    let pre' = c.requires in
    let u = pre'.0.use' in
    omega (arith, c.start_at-start.ensures (omega (arith, u.declared)), begins_within _ _ _ _ _ u.holds)

pub play_body-slice_bounds-body-start : goal.play_body-slice_bounds-body-start
play_body-slice_bounds-body-start t c =
    let pre' = c.requires in
    let u = pre'.0.use' in
    omega (arith, c.start_at-start.ensures (omega (arith, u.declared)), begins_within _ _ _ _ _ u.holds)

pub play_body-body_of-requires : goal.play_body-body_of-requires
play_body-body_of-requires t c =
    let pre' = c.requires in
    let args' = c.args in
    let start-at' = c.start_at-start in
    let used = pre'.0 in
    let u = used.use' in
    let at = start-at'.ensures (omega (arith, u.declared)) in
    let within = begins_within _ _ _ _ _ u.holds in (
      omega (arith, u.some_more),
      rw (part_begins args'.ground.now.declared.text.now start-at'.result _ at within) (
        part_within args'.ground.now.declared.text.now start-at'.result _ at within,
        record {
          env = used.env;
          body = used.body;
          rest = used.rest;
          state = record { pins = used.state.pins; table = used.state.table; args = used.arguments };
          standing = macro_standing u;
          sized = sized_at used.sized _ (omega (arith, u.fits.levels));
        },
        pre'.1,
      ),
    )

pub play_body-returns-then-i-lt-PROCEDURES : goal.play_body-returns-then-i-lt-PROCEDURES
play_body-returns-then-i-lt-PROCEDURES t c =
    let u = c.requires.0.use' in
    let roomy = c.requires.0.sized.roomy in
    let at = c.start_at-start.ensures (omega (arith, u.declared)) in
    let p = rw (part_begins c.args.ground.now.declared.text.now c.start_at-start.result _ at (begins_within _ _ _ _ _ u.holds)) at c.body_of.ensures in
    record {
      kept = kept_below p.kept;
      own = λ s h. p.kept.arguments _ s h (omega arith);
      told = λ E b us a s v m. macro_told v _ _ (kind_macro _ c.if-i-lt-PROCEDURES.true) p.kept (p.plays E b us _ (macro_standing v) m tt);
      memo_long = p.memo_long;
      below = p.below;
      heads = λ E b us a s v m. p.heads E b us _ (macro_standing v) m;
      learnt = λ E b us a s v m. p.learnt E b us _ (macro_standing v) m tt;
      tracks = λ E b us a s v m e long fresh. rw (kind_macro _ c.if-i-lt-PROCEDURES.true)
          (macro_tracked a _ (tracked_body (pins_roomy v.shows roomy.few roomy.values_long) (nest_deep _ v.fits) long fresh (p.tracks E b us _ (macro_standing v) m tt e)));
    }

pub play_body-leave-requires : goal.play_body-leave-requires
play_body-leave-requires t c =
    let pre' = c.requires in
    let used = pre'.0 in
    (used.sized.roomy.values_long, omega (arith, used.use'.fits.levels))

pub play_body-body_of-r-requires : goal.play_body-body_of-r-requires
play_body-body_of-r-requires t c =
    let pre' = c.requires in
    let args' = c.args in
    let start-at' = c.start_at-start in
    let leave' = c.leave in
    let used = pre'.0 in
    let u = used.use' in
    let at = start-at'.ensures (omega (arith, u.declared)) in
    let within = begins_within _ _ _ _ _ u.holds in (
      omega (arith, u.some_more),
      rw (part_begins args'.ground.now.declared.text.now start-at'.result _ at within) (
        part_within args'.ground.now.declared.text.now start-at'.result _ at within,
        record {
          env = used.env;
          body = used.body;
          rest = used.rest;
          state = record { pins = bare used.state.pins; table = used.state.table; args = used.arguments };
          standing = procedure_standing u used.sized leave'.ensures;
          sized = sized_at (sized_left used.sized leave'.ensures) _ (omega (arith, u.fits.levels));
        },
        pre'.1,
      ),
    )

pub play_body-come_back-requires : goal.play_body-come_back-requires
play_body-come_back-requires t c =
    let pre' = c.requires in
    let leave' = c.leave in
    let body-of2' = c.body_of-r in
    let used = pre'.0 in
    (body-of2'.ensures.kept.values_long ∙ leave'.ensures.long ∙ used.sized.roomy.values_long, omega (arith, used.use'.fits.levels))

pub play_body-overflow_sub-inner-2 : goal.play_body-overflow_sub-inner-2
play_body-overflow_sub-inner-2 t c = omega (arith, c.requires.0.use'.fits.levels)

pub play_body-fresh-requires : goal.play_body-fresh-requires
play_body-fresh-requires t c = (nest_fits _, c.requires.0.sized.roomy.few)

pub play_body-returns : goal.play_body-returns
play_body-returns t c =
    let sized = c.requires.0.sized in
    let u = c.requires.0.use' in
    let at = c.start_at-start.ensures (omega (arith, u.declared)) in
    let l = c.leave.ensures in
    let p = rw (part_begins c.args.ground.now.declared.text.now c.start_at-start.result _ at (begins_within _ _ _ _ _ u.holds)) at c.body_of-r.ensures in
    let w = c.fresh.ensures in
    let back = c.come_back.ensures in
    record {
      kept = kept_returned _ l p.kept back;
      own = λ s h. p.kept.arguments _ s h (omega arith);
      told = λ E b us a s v m.
          procedure_told v _ _ (kind_procedure _ c.if-i-lt-PROCEDURES.false) sized l p.kept back (p.plays E b us _ (procedure_standing v sized l) m tt);
      memo_long = w.0.long ∙ p.memo_long;
      below = below_then p.below (below_tracked (nest_of (c.args.frame.depth - 1)) w.0);
      heads = λ E b us a s v m. heads_tracked (nest_of (c.args.frame.depth - 1)) (p.heads E b us _ (procedure_standing v sized l) m) sized.roomy.few (nest_fits _) w.0;
      learnt = λ E b us a s v m. knows_tracked (p.learnt E b us _ (procedure_standing v sized l) m tt) (nest_of (c.args.frame.depth - 1)) sized.roomy.few (nest_fits _) w.0;
      tracks = λ E b us a s v m e long fresh. (
          let told = procedure_told v _ _ (kind_procedure _ c.if-i-lt-PROCEDURES.false) sized l p.kept back (p.plays E b us _ (procedure_standing v sized l) m tt) in
          rw (kind_procedure _ c.if-i-lt-PROCEDURES.false) (procedure_tracked a _ (pins_roomy v.shows sized.roomy.few sized.roomy.values_long) (w.1 (as_long p.memo_long long))
          (rw (kind_procedure _ c.if-i-lt-PROCEDURES.false) at (told.sound e))));
    }

pub statement-recall-requires : goal.statement-recall-requires
statement-recall-requires t c =
    let sized = c.requires.1.sized in
    (sized.waves_long, sized.roomy.few, roomy_values sized.roomy.few sized.roomy.values_long refl)

pub statement-overflow_sub-frame : goal.statement-overflow_sub-frame
statement-overflow_sub-frame t c = omega (arith, c.requires.1.standing.fits.levels)

pub statement-repeated-requires : goal.statement-repeated-requires
statement-repeated-requires t c =
    let roomy = c.requires.1.sized.roomy in
    let f = c.in-Some.ensures.finds in
    (nest_fits _, roomy.few, roomy_values roomy.few roomy.values_long refl, omega (arith, f.row.1), f.room)

pub statement-returns-in-Some : goal.statement-returns-in-Some
statement-returns-in-Some t c =
    let start = c.requires in
    let depth = c.args.frame.depth in
    let f = rw c.use_at-u.ensures at c.in-Some.ensures in
    let v = c.repeated.ensures in
    let q = v.2 in
    let sized = start.1.sized in
    let roomy = sized.roomy in
    let wide = roomy_values roomy.few roomy.values_long refl in
    let row = recalled_row f.finds q in
    let on = eq-eqb _ 0 q.pointed.on in
    record {
      kept = kept_passed sized sized.args_long q.restores.long (λ i h. q.restores.rows i (omega (arith, roomy.few)));
      moves = λ E b us s st hs. reused_moves st on (hs.each row.0 _ _ _ _ _ _ _ row.1) c.repeated.result refl v.1 st.shows.args_are;
      steps = λ E b us s st m. (
          let behind = m.heads.each row.0 _ _ _ _ _ _ _ row.1 in
          let u = reused st on behind in
          let held = reused_holds st on behind in
          let o = m.remembers.each row.0 _ _ _ _ _ _ _ row.1 in
          let granted = f.granted E.tables (_, _, _, st.holding.held) in
          reused_step st on behind c.repeated.result _ _ refl v.1
          (rw v.0 (recalled_told _ _ u.way u.body u.rest us o held st.shows wide granted q.restores.long q.restores.put q.restores.kept))
          (λ e. tracking_joined (λ some room. (recalled_tracked _ _ u.way u.body u.rest us o held st.shows wide granted, v.4 some))));
      memo_long = v.3.long;
      below = below_tracked (nest_of depth) v.3;
      heads = λ E b us s st hs. heads_tracked (nest_of depth) hs roomy.few (nest_fits depth) v.3;
      learnt = λ E b us s st m. knows_tracked m (nest_of depth) roomy.few (nest_fits depth) v.3;
    }

pub statement-head-h-requires : goal.statement-head-h-requires
statement-head-h-requires t c =
    let pre' = c.requires in
    let stood = pre'.1 in
    (record { env = stood.env; describes = stood.standing.holding.describes }, (omega arith), gave_zeros, stood.sized.args_long)

pub statement-overflow_sub-frame-in-Vector : goal.statement-overflow_sub-frame-in-Vector
statement-overflow_sub-frame-in-Vector t c = omega (arith, c.requires.1.standing.fits.levels)

pub statement-mark-requires : goal.statement-mark-requires
statement-mark-requires t c = (nest_fits _, c.requires.1.sized.roomy.few, c.head-h.ensures.0)

pub statement-vectors-failed-requires : goal.statement-vectors-failed-requires
statement-vectors-failed-requires t c =
    let pre' = c.requires in
    let head' = c.head-h in
    let sized = pre'.1.sized in
    (sized.roomy, head'.ensures.0, sized.waves_long)

pub statement-overflow_sub-frame-in-Assigns : goal.statement-overflow_sub-frame-in-Assigns
statement-overflow_sub-frame-in-Assigns t c = omega (arith, c.requires.1.standing.fits.levels)

pub statement-mark-requires-in-Assigns : goal.statement-mark-requires-in-Assigns
statement-mark-requires-in-Assigns t c = (nest_fits _, c.requires.1.sized.roomy.few, c.head-h.ensures.0)

pub statement-put-requires : goal.statement-put-requires
statement-put-requires t c =
    let pre' = c.requires in
    let head' = c.head-h in
    (pre'.1.sized.roomy, head'.ensures.0)

pub statement-looped-requires : goal.statement-looped-requires
statement-looped-requires t c =
    let start = c.requires in
    let h = c.head-h.ensures in
    let stood = start.1 in
    let st = stood.standing in
    let is = c.in-Loops.is in
    let i = in_loop st start.0 _ _ _ (h.2 stood.env st.holding.describes) _ is in (
      omega arith,
      (
        i.1.on,
        i.0,
        fits_some i.1.fits,
        omega (arith, st.fits.levels),
        record {
          env = stood.env;
          body = i.1.body;
          rest = i.1.between;
          state = stood.state;
          standing = loop_standing st i.1 st.shows;
          sized = sized_kept stood.sized (kept_args stood.sized h.1);
        },
        start.2,
        loop_head _ _ _ start.0 i.1.on h.2 _ is,
      ),
    )

pub statement-shift_on-requires : goal.statement-shift_on-requires
statement-shift_on-requires t c =
    let start = c.requires in
    let stood = start.1 in
    let st = stood.standing in
    let i = in_shift_lem st start.0 _ _ _ (c.head-h.ensures.2 stood.env st.holding.describes) c.in-Shifts.is in (
      i.on,
      record {
        env = stood.env;
        body = _;
        rest = i.between;
        state = stood.state;
        standing = shift_standing st i st.shows;
        sized = sized_kept stood.sized (kept_args stood.sized c.head-h.ensures.1);
      },
    )

pub statement-uses-requires : goal.statement-uses-requires
statement-uses-requires t c =
    let start = c.requires in
    let h = c.head-h.ensures in
    let is = c.in-Uses.is in
    let stood = start.1 in
    let st = stood.standing in
    let d = called st start.0 _ _ _ (h.2 stood.env st.holding.describes) _ _ is in (
      omega arith,
      (
        record {
          env = stood.env;
          body = d.body;
          rest = d.after;
          arguments = d.arguments;
          state = stood.state;
          invoking = called_invoking st.holding d st.shows;
          sized = sized_kept stood.sized (kept_args stood.sized h.1);
          given_long = h.0;
        },
        start.2,
        behind_head_lem _ _ _ start.0 d.on h.2 _ _ is,
      ),
    )

pub statement-returns-in-Ends : goal.statement-returns-in-Ends
statement-returns-in-Ends t c =
    let start = c.requires in
    let h = c.head-h.ensures in
    record {
      kept = kept_args start.1.sized h.1;
      moves = λ E b us s st hs. steps_moves {memo = []} {memo' = []} {k = 0} {t = 0} (ends_step st start.0 _ _ _ (h.2 E st.holding.describes) c.in-Ends.is st.shows);
      steps = λ E b us s st m. ends_step st start.0 _ _ _ (h.2 E st.holding.describes) c.in-Ends.is st.shows;
      memo_long = refl;
      below = below_none;
      heads = λ E b us s st hs. hs;
      learnt = λ E b us s st m. m;
    }

pub statement-returns-in-Vector : goal.statement-returns-in-Vector
statement-returns-in-Vector t c =
    let start = c.requires in
    let roomy = start.1.sized.roomy in
    let h = c.head-h.ensures in
    let v = c.vectors-failed.ensures in
    let w = c.mark.ensures in
    record {
      kept = kept_others start.1.sized v.0 h.1;
      moves = λ E b us s st hs. steps_moves {memo = []} {memo' = []} {k = 0} {t = 0} (vector_step st start.0 _ _ _ (h.2 E st.holding.describes) roomy.few (omega (arith, roomy.few, roomy.values_long)) _ c.in-Vector.is (λ deep room. absurd (omega (arith, room))) v.1);
      steps = λ E b us s st m. vector_step st start.0 _ _ _ (h.2 E st.holding.describes) roomy.few (omega (arith, roomy.few, roomy.values_long)) _ c.in-Vector.is w.1 v.1;
      memo_long = w.0.long;
      below = below_tracked (nest_of c.args.frame.depth) w.0;
      heads = λ E b us s st hs. heads_tracked (nest_of c.args.frame.depth) hs roomy.few (nest_fits _) w.0;
      learnt = λ E b us s st m. knows_tracked m (nest_of c.args.frame.depth) roomy.few (nest_fits _) w.0;
    }

pub statement-returns-in-Assigns : goal.statement-returns-in-Assigns
statement-returns-in-Assigns t c =
    let start = c.requires in
    let roomy = start.1.sized.roomy in
    let h = c.head-h.ensures in
    let v = c.put.ensures in
    let w = c.mark-in-Assigns.ensures in
    rw c.goes_on.ensures (record {
      kept = kept_others start.1.sized v.0 h.1;
      moves = λ E b us s st hs. steps_moves {memo = []} {memo' = []} {k = 0} {t = 0} (assigns_step st start.0 _ _ _ (h.2 E st.holding.describes) roomy.few (omega (arith, roomy.few, roomy.values_long)) c.in-Assigns.is (λ deep room. absurd (omega (arith, room))) v.1);
      steps = λ E b us s st m. assigns_step st start.0 _ _ _ (h.2 E st.holding.describes) roomy.few (omega (arith, roomy.few, roomy.values_long)) c.in-Assigns.is w.1 v.1;
      memo_long = w.0.long;
      below = below_tracked (nest_of c.args.frame.depth) w.0;
      heads = λ E b us s st hs. heads_tracked (nest_of c.args.frame.depth) hs roomy.few (nest_fits _) w.0;
      learnt = λ E b us s st m. knows_tracked m (nest_of c.args.frame.depth) roomy.few (nest_fits _) w.0;
    })

pub statement-returns-in-Chooses : goal.statement-returns-in-Chooses
statement-returns-in-Chooses t c =
    let start = c.requires in
    let h = c.head-h.ensures in
    rw c.goes_on-in-Chooses.ensures (record {
      kept = kept_args start.1.sized h.1;
      moves = λ E b us s st hs. steps_moves {memo = []} {memo' = []} {k = 0} {t = 0} (chooses_step st start.0 _ _ _ (h.2 E st.holding.describes) _ c.in-Chooses.is st.shows);
      steps = λ E b us s st m. chooses_step st start.0 _ _ _ (h.2 E st.holding.describes) _ c.in-Chooses.is st.shows;
      memo_long = refl;
      below = below_none;
      heads = λ E b us s st hs. hs;
      learnt = λ E b us s st m. m;
    })

pub statement-returns-in-Loops : goal.statement-returns-in-Loops
statement-returns-in-Loops t c =
    let start = c.requires in
    let h = c.head-h.ensures in
    let v = c.looped.ensures in
    let is = c.in-Loops.is in
    record {
      kept = kept_then (kept_args start.1.sized h.1) v.1.kept;
      moves = λ E b us s st hs. (
          let i = in_loop st start.0 _ _ _ (h.2 E st.holding.describes) _ is in
          inside_moves i.1 v.0 (v.1.ended E i.1.body i.1.between s (loop_standing st i.1 st.shows) hs));
      steps = λ E b us s st m. (
          let i = in_loop st start.0 _ _ _ (h.2 E st.holding.describes) _ is in
          loop_step st i.1 _ _ v.0 (v.1.plays E i.1.body i.1.between s (loop_standing st i.1 st.shows) m (loop_plain i.1))
          (v.1.tracks E i.1.body i.1.between s (loop_standing st i.1 st.shows) m (loop_plain i.1)));
      memo_long = v.1.memo_long;
      below = v.1.below;
      heads = λ E b us s st hs. (
          let i = in_loop st start.0 _ _ _ (h.2 E st.holding.describes) _ is in
          v.1.heads E i.1.body i.1.between s (loop_standing st i.1 st.shows) hs);
      learnt = λ E b us s st m. (
          let i = in_loop st start.0 _ _ _ (h.2 E st.holding.describes) _ is in
          v.1.learnt E i.1.body i.1.between s (loop_standing st i.1 st.shows) m (loop_plain i.1));
    }

pub statement-returns-in-Shifts : goal.statement-returns-in-Shifts
statement-returns-in-Shifts t c =
    let start = c.requires in
    let roomy = start.1.sized.roomy in
    let h = c.head-h.ensures in
    let v = c.shift_on.ensures in
    record {
      kept = kept_then (kept_args start.1.sized h.1) v.shifted_is.kept;
      moves = λ E b us s st hs. (
          let i = in_shift_lem st start.0 _ _ _ (h.2 E st.holding.describes) c.in-Shifts.is in
          steps_moves (shift_step st i _ _ v.shifted_is.goes_on (v.shifted_is.plays E _ _ i.between s (shift_standing st i st.shows)) (v.tracks E _ _ i.between s (shift_standing st i st.shows))));
      steps = λ E b us s st m. (
          let i = in_shift_lem st start.0 _ _ _ (h.2 E st.holding.describes) c.in-Shifts.is in
          shift_step st i _ _ v.shifted_is.goes_on (v.shifted_is.plays E _ _ i.between s (shift_standing st i st.shows)) (v.tracks E _ _ i.between s (shift_standing st i st.shows)));
      memo_long = v.at_level.long;
      below = below_tracked (nest_of c.args.frame.depth) v.at_level;
      heads = λ E b us s st hs. heads_tracked (nest_of c.args.frame.depth) hs roomy.few (nest_fits _) v.at_level;
      learnt = λ E b us s st m. knows_tracked m (nest_of c.args.frame.depth) roomy.few (nest_fits _) v.at_level;
    }

pub statement-returns-in-Uses : goal.statement-returns-in-Uses
statement-returns-in-Uses t c =
    let start = c.requires in
    let h = c.head-h.ensures in
    let is = c.in-Uses.is in
    let v = c.uses.ensures in
    record {
      kept = kept_then (kept_args start.1.sized h.1) v.2.kept;
      moves = λ E b us s st hs. (
          let d = called st start.0 _ _ _ (h.2 E st.holding.describes) _ _ is in
          called_moves _ d v.0 v.1 (served_fed v.2 st.shows.args_are));
      steps = λ E b us s st m. (
          let d = called st start.0 _ _ _ (h.2 E st.holding.describes) _ _ is in
          let i = called_invoking st.holding d st.shows in
          called_step st d c.uses.result _ _ v.0 v.1 (v.2.told E d.body d.after d.arguments s i m) (v.2.tracks E d.body d.after d.arguments s i m));
      memo_long = v.2.memo_long;
      below = v.2.below;
      heads = λ E b us s st hs. (
          let d = called st start.0 _ _ _ (h.2 E st.holding.describes) _ _ is in
          v.2.heads E d.body d.after d.arguments s (called_invoking st.holding d st.shows) hs);
      learnt = λ E b us s st m. (
          let d = called st start.0 _ _ _ (h.2 E st.holding.describes) _ _ is in
          v.2.learnt E d.body d.after d.arguments s (called_invoking st.holding d st.shows) m);
    }

pub statements-loop-frame-init : goal.statements-loop-frame-init
statements-loop-frame-init t c =
    let start = c.requires in
    record {
      kept = kept_none;
      resumes = λ E b us s st hs. resumed start.0 st;
      onward = λ E b us s st m. going start.0 st;
      memo_long = refl;
      below = below_none;
      heads = λ E b us s st hs. hs;
      learnt = λ E b us s st m. m;
    }

pub statements-statement-r-requires : goal.statements-statement-r-requires
statements-statement-r-requires t c =
    let pre' = c.requires in
    let loop' = c.loop-frame in
    let stood = pre'.1 in
    let inv = loop'.invariant in
    let o = inv.resumes stood.env stood.body stood.rest stood.state stood.standing pre'.2 in (
      omega arith,
      (
        o.on,
        record {
          env = stood.env;
          body = o.rest;
          rest = stood.rest;
          state = _;
          standing = resumed_standing o _ stood.standing.holding;
          sized = sized_kept stood.sized inv.kept;
        },
        inv.heads stood.env stood.body stood.rest stood.state stood.standing pre'.2,
      ),
    )

pub statements-returns-then-r : goal.statements-returns-then-r
statements-returns-then-r t c =
    let inv = c.loop-frame.invariant in
    let step = c.statement-r.ensures in
    record {
      kept = kept_then inv.kept step.kept;
      ended = λ E b us s st hs e. (
          let o = inv.resumes E b us s st hs in resumed_end o (step.moves E o.rest us _ (resumed_standing o _ st.holding) (inv.heads E b us s st hs)) c.if-r.true e);
      plays = λ E b us s st m f. (
          let o = inv.onward E b us s st m in gone inv.memo_long o (step.steps E o.rest us o.state o.standing (inv.learnt E b us s st m)) c.if-r.true);
      memo_long = step.memo_long ∙ inv.memo_long;
      below = below_then inv.below step.below;
      heads = λ E b us s st hs. (let o = inv.resumes E b us s st hs in step.heads E o.rest us _ (resumed_standing o _ st.holding) (inv.heads E b us s st hs));
      learnt = λ E b us s st m f. (let o = inv.onward E b us s st m in step.learnt E o.rest us o.state o.standing (inv.learnt E b us s st m));
      tracks = λ E b us s st m f e. (
          let o = inv.onward E b us s st m in gone_tracked inv.memo_long o (step.steps E o.rest us o.state o.standing (inv.learnt E b us s st m)) c.if-r.true e);
    }

pub statements-loop-frame-smaller : goal.statements-loop-frame-smaller
statements-loop-frame-smaller t c =
    let pre' = c.requires in
    let loop' = c.loop-frame in
    let statement' = c.statement-r in
    let if1' = c.if-r in
    let stood = pre'.1 in
    let o = loop'.invariant.resumes stood.env stood.body stood.rest stood.state stood.standing pre'.2 in
    let heads = loop'.invariant.heads stood.env stood.body stood.rest stood.state stood.standing pre'.2 in
    resumed_less o (statement'.ensures.moves stood.env o.rest stood.rest _ (resumed_standing o _ stood.standing.holding) heads) if1'.false

pub statements-loop-frame-preserved : goal.statements-loop-frame-preserved
statements-loop-frame-preserved t c =
    let inv = c.loop-frame.invariant in
    let step = c.statement-r.ensures in
    let left' = c.if-r.false in
    record {
      kept = kept_then inv.kept step.kept;
      resumes = λ E b us s st hs. (
          let o = inv.resumes E b us s st hs in resumed_on o (step.moves E o.rest us _ (resumed_standing o _ st.holding) (inv.heads E b us s st hs)) left');
      onward = λ E b us s st m. (
          let o = inv.onward E b us s st m in going_on inv.memo_long o (step.steps E o.rest us o.state o.standing (inv.learnt E b us s st m)) left');
      memo_long = step.memo_long ∙ inv.memo_long;
      below = below_then inv.below step.below;
      heads = λ E b us s st hs. (let o = inv.resumes E b us s st hs in step.heads E o.rest us _ (resumed_standing o _ st.holding) (inv.heads E b us s st hs));
      learnt = λ E b us s st m. (let o = inv.onward E b us s st m in step.learnt E o.rest us o.state o.standing (inv.learnt E b us s st m));
    }

pub used-overflow_sub-within : goal.used-overflow_sub-within
used-overflow_sub-within t c = omega (arith, c.requires.0.invoking.fits.levels, c.requires.0.invoking.some_more)

pub used-overflow_sub-within-2 : goal.used-overflow_sub-within-2
used-overflow_sub-within-2 t c = omega (arith, c.requires.0.invoking.fits.levels, c.requires.0.invoking.some_more)

pub used-fresh-requires : goal.used-fresh-requires
used-fresh-requires t c = (nest_fits _, c.requires.0.sized.roomy.few)

pub used-overflow_add-frame : goal.used-overflow_add-frame
used-overflow_add-frame t c = omega (arith, c.requires.0.sized.roomy.inside_levels)

pub used-supply-requires : goal.used-supply-requires
used-supply-requires t c =
    let s = c.requires.0 in
    (s.given_long, s.sized.args_long, s.sized.roomy.feeds_long, omega (arith, s.invoking.fits.levels))

pub used-play_body-left-requires : goal.used-play_body-left-requires
used-play_body-left-requires t c =
    let start = c.requires in
    let w = c.fresh.ensures in
    let f = c.supply.ensures in
    let s = start.0 in
    let sized = s.sized in
    let kept = kept_used sized sized.args_long refl (λ i h. refl) f.0 f.1 in
    let v = s.invoking in (
      omega arith,
      (
        record {
          env = s.env;
          body = s.body;
          rest = s.rest;
          arguments = s.arguments;
          state = s.state;
          use' = invoked_using v (shows_supplied v.shows f.1) (f.2 _ _ v.supplied);
          sized = sized_kept sized kept;
        },
        heads_tracked (nest_of (c.args.frame.depth - 1)) start.1 sized.roomy.few (nest_fits _) w.0,
      ),
    )

pub used-returns-then-left : goal.used-returns-then-left
used-returns-then-left t c =
    let start = c.requires in
    let w = c.fresh.ensures in
    let f = c.supply.ensures in
    let sized = start.0.sized in
    let kept = kept_used sized sized.args_long refl (λ i h. refl) f.0 f.1 in
    let p = c.play_body-left.ensures in
    let next = invoked_next start.0.invoking in
    record {
      kept = kept_then kept p.kept;
      own = λ s h. p.own s h ∙ f.1 _ s h (λ z. omega arith);
      told = λ E b us a s v m. p.told E b us a s (invoked_using v (shows_supplied v.shows f.1) (f.2 _ _ v.supplied)) (knows_tracked m (nest_of (c.args.frame.depth - 1)) sized.roomy.few (nest_fits _) w.0);
      memo_long = p.memo_long ∙ w.0.long;
      below = below_around (nest_of c.args.frame.depth) next (below_then (below_tracked (nest_of (c.args.frame.depth - 1)) w.0) p.below);
      heads = λ E b us a s v hs. p.heads E b us a s (invoked_using v (shows_supplied v.shows f.1) (f.2 _ _ v.supplied)) (heads_tracked (nest_of (c.args.frame.depth - 1)) hs sized.roomy.few (nest_fits _) w.0);
      learnt = λ E b us a s v m. p.learnt E b us a s (invoked_using v (shows_supplied v.shows f.1) (f.2 _ _ v.supplied)) (knows_tracked m (nest_of (c.args.frame.depth - 1)) sized.roomy.few (nest_fits _) w.0);
      tracks = λ E b us a s v m e. true_false c.if-left.true e;
    }

pub used-remember-requires : goal.used-remember-requires
used-remember-requires t c =
    let roomy = c.requires.0.sized.roomy in
    (nest_fits _, roomy.few, roomy_values roomy.few roomy.values_long c.play_body-left.ensures.kept.values_long)

pub used-overflow_sub-frame : goal.used-overflow_sub-frame
used-overflow_sub-frame t c = omega (arith, c.requires.0.invoking.fits.levels, c.requires.0.invoking.some_more)

pub used-rise-requires : goal.used-rise-requires
used-rise-requires t c = (nest_less c.requires.0.invoking.some_more, c.requires.0.sized.roomy.few)

pub used-shape_of-feeds : goal.used-shape_of-feeds
used-shape_of-feeds t c = c.play_body-left.ensures.kept.feeds_long ∙ c.supply.ensures.0 ∙ sym c.requires.0.sized.roomy.feeds_long

pub used-shape_of-memo : goal.used-shape_of-memo
used-shape_of-memo t c = c.rise.ensures.0.long ∙ c.remember.ensures.long ∙ c.play_body-left.ensures.memo_long ∙ c.fresh.ensures.0.long

pub used-returns : goal.used-returns
used-returns t c =
    let start = c.requires in
    let depth = c.args.frame.depth in
    let w = c.fresh.ensures in
    let f = c.supply.ensures in
    let sized = start.0.sized in
    let roomy = sized.roomy in
    let next = invoked_next start.0.invoking in
    let kept = kept_used sized sized.args_long refl (λ i h. refl) f.0 f.1 in
    let p = c.play_body-left.ensures in
    let r = rw c.use_at-u.ensures at c.remember.ensures in
    let z = c.rise.ensures in
    record {
      kept = kept_then kept p.kept;
      own = λ s h. p.own s h ∙ f.1 _ s h (λ z. omega arith);
      told = λ E b us a s v m. p.told E b us a s (invoked_using v (shows_supplied v.shows f.1) (f.2 _ _ v.supplied)) (knows_tracked m (nest_of (depth - 1)) roomy.few (nest_fits (depth - 1)) w.0);
      memo_long = z.0.long ∙ r.long ∙ p.memo_long ∙ w.0.long;
      below = below_then (below_then (below_around (nest_of depth) next (below_then (below_tracked (nest_of (depth - 1)) w.0) p.below)) (below_remembered (nest_of depth) (nest_fits depth) r)) (below_tracked (nest_of depth) z.0);
      heads = λ E b us a s v hs. (
          let u = invoked_using v (shows_supplied v.shows f.1) (f.2 _ _ v.supplied) in
          let hs' = heads_tracked (nest_of (depth - 1)) hs roomy.few (nest_fits (depth - 1)) w.0 in
          heads_tracked (nest_of depth) (heads_more r (p.heads E b us a s u hs') (start.2.each E v.holding.describes)) roomy.few (nest_fits depth) z.0);
      learnt = λ E b us a s v m. (
          let u = invoked_using v (shows_supplied v.shows f.1) (f.2 _ _ v.supplied) in
          let m' = knows_tracked m (nest_of (depth - 1)) roomy.few (nest_fits (depth - 1)) w.0 in
          knows_tracked (used_knows v p u m' c.if-left.false (λ room. w.1 (as_long (sym w.0.long) room)) r start.2) (nest_of depth) roomy.few (nest_fits depth) z.0);
      tracks = λ E b us a s v m e. (
          let u = invoked_using v (shows_supplied v.shows f.1) (f.2 _ _ v.supplied) in
          let m' = knows_tracked m (nest_of (depth - 1)) roomy.few (nest_fits (depth - 1)) w.0 in
          tracking_joined (λ some room. (
            p.tracks E b us a s u m' e (as_long w.0.long room) (w.1 room),
            λ j l. (
                let less = nest_less start.0.invoking.some_more in
                let below = few_below roomy.few l in
                risen (nest_of depth) j next w.0 p.below less below (remembered_joins (nest_of depth) j r less below (z.1 some (as_long (r.long ∙ p.memo_long ∙ w.0.long) room) j l))),
          )));
    }

pub uses-pass-requires : goal.uses-pass-requires
uses-pass-requires t c =
    let s = c.requires.0 in
    (s.sized.waves_long, s.sized.roomy.few, s.invoking.declared, s.given_long, s.sized.args_long, s.sized.roomy.values_long)

pub uses-overflow_sub-frame : goal.uses-overflow_sub-frame
uses-overflow_sub-frame t c = omega (arith, c.requires.0.invoking.fits.levels, c.requires.0.invoking.some_more)

pub uses-mark_passed-requires : goal.uses-mark_passed-requires
uses-mark_passed-requires t c =
    (nest_fits _, c.requires.0.sized.roomy.few, c.in-Some.ensures.room)

pub uses-returns-in-Some : goal.uses-returns-in-Some
uses-returns-in-Some t c =
    let start = c.requires in
    let depth = c.args.frame.depth in
    let sized = start.0.sized in
    let few = sized.roomy.few in
    let q = c.in-Some.ensures in
    let w = c.mark_passed.ensures in
    rw c.goes_on.ensures (
      refl,
      refl,
      record {
        kept = kept_passed sized sized.args_long q.long q.rows;
        own = λ s h. refl;
        told = λ E b us a s v m. q.told E b us a s _ _ _ 0 (invoked_calling v m.summed) v.shows;
        memo_long = w.0.long;
        below = below_tracked (nest_of depth) w.0;
        heads = λ E b us a s v hs. heads_tracked (nest_of depth) hs few (nest_fits depth) w.0;
        learnt = λ E b us a s v m. knows_tracked m (nest_of depth) few (nest_fits depth) w.0;
        tracks = λ E b us a s v m e. tracking_joined {m = λ j. (w.1 j).0} (λ some room. (
          q.tracks E b us a s _ _ _ (λ j. (w.1 j).0) (invoked_calling v m.summed) v.shows (λ j l. ((w.1 j).1 some room l).0),
          λ j l. ((w.1 j).1 some room l).1,
        ));
      },
    )

pub uses-used-r-requires : goal.uses-used-r-requires
uses-used-r-requires t c =
    let start = c.requires in
    let s = start.0 in
    let same = c.in_default.ensures in (
      omega arith,
      (
        record {
          env = s.env;
          body = s.body;
          rest = s.rest;
          arguments = s.arguments;
          state = s.state;
          invoking = invoking_untouched s.invoking same;
          sized = sized_kept s.sized (kept_passed s.sized s.sized.args_long (ap length same) (λ j h. ap (λ l. get_or l j 0) same));
          given_long = s.given_long;
        },
        start.1,
        start.2,
      ),
    )

pub uses-returns : goal.uses-returns
uses-returns t c =
    let sized = c.requires.0.sized in
    let same = c.in_default.ensures in
    let v = c.used-r.ensures in (
      refl,
      refl,
      record {
        kept = kept_then (kept_passed sized sized.args_long (ap length same) (λ j h. ap (λ l. get_or l j 0) same)) v.kept;
        own = v.own;
        told = λ E b us a s i m. v.told E b us a s (invoking_untouched i same) m;
        memo_long = v.memo_long;
        below = v.below;
        heads = λ E b us a s i hs. v.heads E b us a s (invoking_untouched i same) hs;
        learnt = λ E b us a s i m. v.learnt E b us a s (invoking_untouched i same) m;
        tracks = λ E b us a s i m. v.tracks E b us a s (invoking_untouched i same) m;
      },
    )
