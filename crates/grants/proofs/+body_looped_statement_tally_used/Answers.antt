-- Statements, one statement, Loops, used bodies: one proof for all, since each calls the others where bodies may stand one level less deep.
use native.Mathlib.Omega.{arith}
use Prim.Native.Nat.{◌*◌}
use mathlib.Core.Path.{refl, sym, ◌∙◌}
use lib.ListN.{length-replicate}
use Rattle.meaning.specs.Bounds.{signals_most}
use Rattle.assigns.proofs.Table.{gave_zeros}
use Rattle.grants.proofs.Keeping.{sized_kept, kept_then, kept_none, kept_only, kept_deeper, sized_loop, below_loop, kept_loop, open_fixed, room}
use Rattle.grants.proofs.Stepping.{ends_step, vector_step, assigns_step, chooses_step, table_within, in_loop, in_shift_lem, calling, use_step, loop_deeper, loop_plain, loop_standing, one_vector, shift_holds, inside_step}
use Rattle.grants.proofs.Entering.{loop_gone, other_body, use_spoilt, use_macro, use_procedure}
use Rattle.grants.proofs.Bodies.{body_standing, stands_on, body_sized, bodied_twice, bodied_shifted, bodied_summed, body_long, body_within, body_set_long}
use Rattle.grants.proofs.Going.{going_on, all_gone, going}
use Prim.Native.Nat.{ℕ}
use Rattle.grants.proofs.+body_looped_statement_tally_used.Goals as goal

pub body-bounds-marks-i : goal.body-bounds-marks-i
body-bounds-marks-i t c = let s = c.requires in omega (arith, s.declared.number, s.marks_long)

pub body-returns-then-marks-i-ne0 : goal.body-returns-then-marks-i-ne0
body-returns-then-marks-i-ne0 t c = record { kept = λ r. kept_none; summed = λ E b us d u. u }

pub body-bounds-marks-i-2 : goal.body-bounds-marks-i-2
body-bounds-marks-i-2 t c = let s = c.requires in omega (arith, s.declared.number, s.marks_long)

pub body-clear-requires : goal.body-clear-requires
body-clear-requires t c = let s = c.requires in (omega (arith, s.declared.number, s.sums_long))

pub body-tally-x-requires : goal.body-tally-x-requires
body-tally-x-requires t c =
    let s = c.requires in
    let n = s.declared.number in
    let there = c.cursor_at-c.ensures in (
      omega arith,
      (
        stands_on there,
        record {
          env = s.env;
          body = s.body;
          rest = s.rest;
          standing = body_standing there (c.start_at.ensures (omega (arith, n))) s.declared;
          sized = body_sized s c.if-marks-i-ne0.false c.clear.ensures.0;
        },
      ),
    )

pub body-shape_of-marks-then-x : goal.body-shape_of-marks-then-x
body-shape_of-marks-then-x t c = body_long c.requires c.tally-x.ensures

pub body-returns-then-x : goal.body-returns-then-x
body-returns-then-x t c =
    let s = c.requires in
    bodied_twice s c.if-marks-i-ne0.false c.clear.ensures.0 c.clear.ensures.1 c.cursor_at-c.ensures (c.start_at.ensures (omega (arith, s.declared.number))) c.tally-x.ensures

pub body-bounds-marks-i-then-x-2 : goal.body-bounds-marks-i-then-x-2
body-bounds-marks-i-then-x-2 t c = body_within c.requires c.tally-x.ensures

pub body-shape_of-marks-then-x-2 : goal.body-shape_of-marks-then-x-2
body-shape_of-marks-then-x-2 t c = body_set_long c.requires c.tally-x.ensures _

pub body-returns-then-x-2 : goal.body-returns-then-x-2
body-returns-then-x-2 t c =
    let s = c.requires in
    bodied_shifted s c.if-marks-i-ne0.false c.clear.ensures.0 c.clear.ensures.1 c.cursor_at-c.ensures (c.start_at.ensures (omega (arith, s.declared.number))) c.tally-x.ensures c.if-x.false

pub body-bounds-marks-i-3 : goal.body-bounds-marks-i-3
body-bounds-marks-i-3 t c = body_within c.requires c.tally-x.ensures

pub body-shape_of-marks : goal.body-shape_of-marks
body-shape_of-marks t c = body_set_long c.requires c.tally-x.ensures _

pub body-returns : goal.body-returns
body-returns t c =
    let s = c.requires in
    bodied_summed s c.if-marks-i-ne0.false c.clear.ensures.0 c.clear.ensures.1 c.cursor_at-c.ensures (c.start_at.ensures (omega (arith, s.declared.number))) c.tally-x.ensures c.if-x.false c.if-x-2.false

pub looped-overflow_sub-row : goal.looped-overflow_sub-row
looped-overflow_sub-row t c = omega (arith, c.requires.1.levels)

pub looped-clear-requires : goal.looped-clear-requires
looped-clear-requires t c = let s = c.requires.1 in (omega (arith, s.some_more, s.levels, s.sized.sums_long))

pub looped-overflow_sub-depth : goal.looped-overflow_sub-depth
looped-overflow_sub-depth t c = omega (arith, c.requires.1.some_more)

pub looped-tally-x-requires : goal.looped-tally-x-requires
looped-tally-x-requires t c =
    let s = c.requires.1 in (
      omega (arith, s.some_more),
      (
        c.requires.0,
        record {
          env = s.env;
          body = s.body;
          rest = s.rest;
          standing = s.standing;
          sized = sized_loop (omega arith) s.some_more s.levels s.sized c.clear.ensures.0;
        },
      ),
    )

pub looped-turns-requires : goal.looped-turns-requires
looped-turns-requires t c =
    let s = c.requires.1 in
    let l = c.tally-x.ensures.kept.sums_long in
    let m = c.clear.ensures.0.long in (
      omega (arith, room s.sized),
      omega (arith, s.some_more, s.levels, s.sized.sums_long),
      (λ e. below_loop (omega arith) s.some_more s.levels (open_fixed s.sized.row) (sym e)),
      s.sized.waves_long,
      s.sized.few,
      s.some_turn,
    )

pub looped-returns : goal.looped-returns
looped-returns t c =
    let s = c.requires.1 in
    let o = c.clear.ensures in
    let p = c.tally-x.ensures in
    let f = c.turns.ensures in
    record {
      kept = kept_then (kept_loop (omega arith) s.some_more s.levels _ o.0 p.kept) (kept_only f.0);
      goes_on = refl;
      gone = λ E b us st plain.
          loop_gone (omega arith) s.some_more s.levels s.sized.row o.0 o.1 p.kept (p.gone E b us st) plain _ f.0 (f.1 _ (_, _, _, st.holding.held));
    }

pub statement-head-h-requires : goal.statement-head-h-requires
statement-head-h-requires t c =
    let s = c.requires.1 in
    (record { env = s.env; describes = s.standing.holding.describes }, (omega arith), gave_zeros, length-replicate {A = ℕ} (signals_most * 2) 0)

pub statement-vector-requires : goal.statement-vector-requires
statement-vector-requires t c = let s = c.requires.1.sized in (room s, c.head-h.ensures.0, s.waves_long, s.few)

pub statement-assign-requires : goal.statement-assign-requires
statement-assign-requires t c = let s = c.requires.1.sized in (room s, c.head-h.ensures.0)

pub statement-choose-requires : goal.statement-choose-requires
statement-choose-requires t c =
    let s = c.requires.1 in
    let st = s.standing in
    (room s.sized, table_within st c.requires.0 _ _ _ (c.head-h.ensures.2 s.env st.holding.describes) _ c.in-Chooses.is)

pub statement-looped-requires : goal.statement-looped-requires
statement-looped-requires t c =
    let s = c.requires.1 in
    let st = s.standing in
    let i = in_loop st c.requires.0 _ _ _ (c.head-h.ensures.2 s.env st.holding.describes) _ c.in-Loops.is in (
      omega arith,
      (
        i.1.on,
        record {
          env = s.env;
          body = i.1.body;
          rest = i.1.between;
          standing = loop_standing st i.1;
          some_turn = i.0;
          some_more = loop_deeper st i.1;
          levels = st.levels;
          sized = s.sized;
        },
      ),
    )

pub statement-shift-requires : goal.statement-shift-requires
statement-shift-requires t c =
    let s = c.requires.1 in
    let st = s.standing in
    let i = in_shift_lem st c.requires.0 _ _ _ (c.head-h.ensures.2 s.env st.holding.describes) c.in-Shifts.is in (
      i.on,
      record {
        env = s.env;
        place = (one_vector st i).0;
        assigns = (one_vector st i).1;
        rest = i.between;
        holding = st.holding;
        holds = shift_holds st i;
        room = room s.sized;
        waves_long = s.sized.waves_long;
        few = s.sized.few;
      },
    )

pub statement-used-requires : goal.statement-used-requires
statement-used-requires t c =
    let s = c.requires.1 in
    let st = s.standing in
    let i = calling st c.requires.0 _ _ _ (c.head-h.ensures.2 s.env st.holding.describes) _ _ c.in-Uses.is in (
      omega arith,
      record {
        env = s.env;
        body = i.body;
        rest = i.after;
        arguments = i.arguments;
        use' = i.use';
        some_more = i.some_more;
        levels = st.levels;
        given_long = c.head-h.ensures.0;
        sized = s.sized;
      },
    )

pub statement-returns-in-Ends : goal.statement-returns-in-Ends
statement-returns-in-Ends t c =
    let p = c.requires in
    let h = c.head-h.ensures in
    let told = c.in-Ends.is in
    record { kept = kept_none; steps = λ E b us st. ends_step st p.0 _ _ _ (h.2 E st.holding.describes) told }

pub statement-returns-in-Vector : goal.statement-returns-in-Vector
statement-returns-in-Vector t c =
    let p = c.requires in
    let h = c.head-h.ensures in
    let v = c.vector.ensures in
    let told = c.in-Vector.is in
    let x = c.behind.ensures in
    record { kept = kept_only v.0; steps = λ E b us st. vector_step st p.0 _ _ _ (h.2 E st.holding.describes) p.1.sized.row v.0 x _ told v.1 }

pub statement-returns-in-Assigns : goal.statement-returns-in-Assigns
statement-returns-in-Assigns t c =
    let p = c.requires in
    let h = c.head-h.ensures in
    let v = c.assign.ensures in
    let told = c.in-Assigns.is in
    let x = c.behind-in-Assigns.ensures in
    record { kept = kept_only v.0; steps = λ E b us st. assigns_step st p.0 _ _ _ (h.2 E st.holding.describes) p.1.sized.row v.0 x told v.1 }

pub statement-returns-in-Chooses : goal.statement-returns-in-Chooses
statement-returns-in-Chooses t c =
    let p = c.requires in
    let h = c.head-h.ensures in
    let v = c.choose.ensures in
    let told = c.in-Chooses.is in
    let x = c.behind-in-Chooses.ensures in
    record { kept = kept_only v.0; steps = λ E b us st. chooses_step st p.0 _ _ _ (h.2 E st.holding.describes) p.1.sized.row v.0 x _ told v.1 }

pub statement-returns-in-Loops : goal.statement-returns-in-Loops
statement-returns-in-Loops t c =
    let p = c.requires in
    let h = c.head-h.ensures in
    let l = c.looped.ensures in
    let told = c.in-Loops.is in
    record {
      kept = l.kept;
      steps = λ E b us st. (
          let i = (in_loop st p.0 _ _ _ (h.2 E st.holding.describes) _ told).1 in
          inside_step st i i.body refl l.goes_on (l.gone E i.body i.between (loop_standing st i) (loop_plain st i)));
    }

pub statement-returns-in-Shifts : goal.statement-returns-in-Shifts
statement-returns-in-Shifts t c =
    let p = c.requires in
    let h = c.head-h.ensures in
    let l = c.shift.ensures _ _ p.1.sized in
    let told = c.in-Shifts.is in
    record {
      kept = l.kept;
      steps = λ E b us st. (
          let i = in_shift_lem st p.0 _ _ _ (h.2 E st.holding.describes) told in
          let o = one_vector st i in
          inside_step st i _ o.2 l.goes_on (l.gone E o.0 o.1 i.between st.holding (shift_holds st i)));
    }

pub statement-returns-in-Uses : goal.statement-returns-in-Uses
statement-returns-in-Uses t c =
    let p = c.requires in
    let h = c.head-h.ensures in
    let u = c.used.ensures in
    let told = c.in-Uses.is in
    let x = c.behind-in-Uses.ensures in
    record { kept = u.kept; steps = λ E b us st. use_step st p.0 _ _ _ (h.2 E st.holding.describes) _ _ told x (u.added E) }

pub tally-loop-cursor-init : goal.tally-loop-cursor-init
tally-loop-cursor-init t c = record { kept = kept_none; onward = λ E b us st. going c.requires.0 st }

pub tally-statement-x-requires : goal.tally-statement-x-requires
tally-statement-x-requires t c =
    let s = c.requires.1 in
    let inv = c.loop-cursor.invariant in
    let o = inv.onward s.env s.body s.rest s.standing in
    (omega arith, (o.on, record { env = s.env; body = o.rest; rest = s.rest; standing = o.standing; sized = sized_kept inv.kept s.sized }))

pub tally-returns-then-x : goal.tally-returns-then-x
tally-returns-then-x t c =
    let inv = c.loop-cursor.invariant in
    let h = c.statement-x.ensures in
    let e = c.if-x.true in
    record {
      kept = kept_then inv.kept h.kept;
      gone = λ E b us st. (let o = inv.onward E b us st in all_gone o (h.steps E o.rest us o.standing) e);
    }

pub tally-loop-cursor-smaller : goal.tally-loop-cursor-smaller
tally-loop-cursor-smaller t c =
    let s = c.requires.1 in
    let o = c.loop-cursor.invariant.onward s.env s.body s.rest s.standing in
    (c.statement-x.ensures.steps s.env o.rest s.rest o.standing).less c.if-x.false

pub tally-loop-cursor-preserved : goal.tally-loop-cursor-preserved
tally-loop-cursor-preserved t c =
    let inv = c.loop-cursor.invariant in
    let h = c.statement-x.ensures in
    let e = c.if-x.false in
    record {
      kept = kept_then inv.kept h.kept;
      onward = λ E b us st. (let o = inv.onward E b us st in going_on o (h.steps E o.rest us o.standing) e);
    }

pub used-overflow_sub-depth : goal.used-overflow_sub-depth
used-overflow_sub-depth t c = omega (arith, c.requires.some_more)

pub used-body-requires : goal.used-body-requires
used-body-requires t c =
    let s = c.requires in (
      omega (arith, s.some_more),
      record {
        env = s.env;
        body = s.body;
        rest = s.rest;
        declared = s.use'.declared;
        marks_long = s.sized.marks_long;
        sums_long = s.sized.sums_long;
        waves_long = s.sized.waves_long;
        few = s.sized.few;
      },
    )

pub used-bounds-marks-i : goal.used-bounds-marks-i
used-bounds-marks-i t c = let s = c.requires in omega (arith, s.use'.declared.number, s.sized.marks_long, (c.body.ensures.kept 0).marks_long)

pub used-spoil-requires : goal.used-spoil-requires
used-spoil-requires t c = let s = c.requires in (omega (arith, room s.sized, (c.body.ensures.kept 0).sums_long))

pub used-returns-then-not-usable : goal.used-returns-then-not-usable
used-returns-then-not-usable t c =
    let s = c.requires in
    let d = c.body.ensures in
    let v = c.spoil.ensures in
    record {
      kept = kept_then (kept_deeper (d.kept _)) (kept_only v.0.only);
      added = λ E b us a x. use_spoilt s.sized.row d.kept v.0.only x (d.summed E b us x.declared) v.1;
    }

pub used-in_place-requires : goal.used-in_place-requires
used-in_place-requires t c =
    let s = c.requires in
    let d = c.body.ensures in
    let l = (d.kept 0).sums_long in
    let n = s.use'.declared.number in (
      omega (arith, room s.sized),
      omega (arith, n, s.sized.sums_long),
      other_body s d.kept (sym c.usable.ensures ∙ c.if-not-usable.false),
      s.sized.waves_long,
      s.sized.few,
      s.given_long,
      s.use'.supplied.long,
    )

pub used-returns-then-i-lt-PROCEDURES : goal.used-returns-then-i-lt-PROCEDURES
used-returns-then-i-lt-PROCEDURES t c =
    let s = c.requires in
    let d = c.body.ensures in
    let v = c.in_place.ensures in
    let e = sym c.usable.ensures ∙ c.if-not-usable.false in
    let l = c.if-i-lt-PROCEDURES.true in
    record {
      kept = kept_then (kept_deeper (d.kept _)) (kept_only v.0);
      added = λ E b us a x.
          use_macro s.sized.row d.kept v.0 x (d.summed E b us x.declared) e l (v.2 a x.supplied _ (_, _, _, x.declared.standing.holding.held));
    }

pub used-called-requires : goal.used-called-requires
used-called-requires t c =
    let s = c.requires in
    let d = c.body.ensures in
    let l = (d.kept 0).sums_long in
    let n = s.use'.declared.number in (
      omega (arith, room s.sized),
      omega (arith, n, s.sized.sums_long),
      other_body s d.kept (sym c.usable.ensures ∙ c.if-not-usable.false),
      s.sized.waves_long,
      s.sized.few,
      s.given_long,
      s.use'.supplied.long,
    )

pub used-returns : goal.used-returns
used-returns t c =
    let s = c.requires in
    let d = c.body.ensures in
    let v = c.called.ensures in
    let e = sym c.usable.ensures ∙ c.if-not-usable.false in
    let l = c.if-i-lt-PROCEDURES.false in
    record {
      kept = kept_then (kept_deeper (d.kept _)) (kept_only v.0.only);
      added = λ E b us a x.
          use_procedure s.sized.row d.kept v.0.only x (d.summed E b us x.declared) e l (λ q. v.1 a x.supplied _ (_, _, _, x.declared.standing.holding.held));
    }
