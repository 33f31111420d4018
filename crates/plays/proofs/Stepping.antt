-- One statement of a body that is held: what it plays, and the rest of the body behind it.
use Prim.Native.Nat.{ℕ, ◌+◌, ◌-◌, ◌<◌, ◌≤◌}
use native.Mathlib.Omega.{arith}
use mathlib.Core.Path.{◌≡◌, refl, sym, ap, ◌∙◌, subst}
use mathlib.Core.Bool.{Bool, true, false}
use mathlib.Core.List.{List, []}
use lib.ListN.{length, get_or}
use Rattle.meaning.specs.Bounds.{signals_most, tables_most}
use Rattle.memos.specs.Tracks.{Joins, shown_marks, tracks_length, marks_at, Tracking}
use Rattle.memos.proofs.Marking.{joins_zero}
use Rattle.memos.proofs.Tracking.{tracking_same, tracking_none, tracking_joined}
use Rattle.plays.proofs.Tracks.{assigns_tracked, vector_tracked, chosen_tracked, pins_wide}
use lib.Dec.{ltb}
use borrow.Author.Tests.{lt-ltb}
use Rattle.tokens.specs.Tokens.{Toks, toks, left}
use Rattle.tokens.proofs.Bools.{true_false}
use Rattle.meaning.specs.Lists.{inside, count}
use Rattle.meaning.specs.Timing.{Tables}
use Rattle.meaning.specs.Body.{Assigns, Args, assigning, choosing, Way, looped, shifted, entered, Body, done, vec, inner, marked, outside, shifting, supplied}
use Rattle.meaning.specs.Data.{assigned}
use Rattle.meaning.specs.Run.{shift_of, State, Played as Play, puts, changed, follow, again, entering}
use Rattle.meaning.specs.Meaning.{first_failing}
use Rattle.meaning.specs.Statements.{Decl, Env, Head, ends, vecs, sets, loops, shifts, uses}
use Rattle.meaning.proofs.Turns.{Plain, Good}
use Rattle.held.specs.Held.{free_head, HeadAt, Holds}
use Rattle.turns.specs.Few.{loop_few, playing_few, play_few}
use Rattle.words.specs.Cursor.{alive, stream}
use Rattle.words.specs.declared.Cursor.{Cursor}
use Rattle.sets.proofs.Tidy.{TidyBelow, has_below}
use Rattle.timing.specs.Makes.{Makes}
use Rattle.timing.specs.Held.{Held}
use Rattle.measures.specs.Uses.{Given}
use Rattle.measures.specs.Book.{bodies, start_at}
use Rattle.arguments.specs.Supplied.{Supplied}
use Rattle.sums.specs.Parts.{Exact}
use Rattle.heads.specs.declared.What.{What}
use Rattle.heads.specs.declared.What.TheVariants.{Ends, Vector, Assigns as AssignsOnly, Chooses, Loops, Shifts, Uses as UsesBody}
use Rattle.heads.specs.Heads.{kind_of, Tells}
use Rattle.pins.specs.Shown.{table_of, Feeding, Shows, Playable, Told, vector}
use Rattle.pins.proofs.Callers.{vector_once}
use Rattle.plays.specs.declared.Played.{Played}
use Rattle.plays.specs.Plays.{Ground, Holding, alone, Past, Passes, Summed, Single, Fits, Arrays, arrays, Showing, Standing, Telling, Plays, Ended, nest_of, Steps, Moves, Using, Invoking, Calling}
use Rattle.plays.proofs.Supply.{same_puts, same_changed, same_playing, same_play}
use Rattle.plays.proofs.Fitting.{inside_parts, fits_again, fits_behind_vec, fits_behind_set, fits_behind_inner, fits_some, fits_looped, fits_shifted, fits_entered}
use Rattle.plays.proofs.Following.{first_fails, second_alike, alike_same, alike_then}
use Rattle.plays.proofs.Heading.{holds_less, Met, met, met_split, met_fine, met_exact, met_less}

-- ---- from the first statement to the rest

module _ {g : Ground} {memo memo' : List ℕ} {ts : Toks} {more level : ℕ} {y : Arrays} {E : Env} {us : Toks} {k t : ℕ} {b : Body} {s : State} {r : Played} where
  -- behind the first statement, which is played by `step`, `rest` is held
  pub steps_on : (step : State → Play) (rest : Body) → ((z : State) → play_few k t b z ≡ follow (step z) (play_few k t rest)) → Holding g E → Fits more level (step s).0.args rest → r.ends ≡ false
      → Telling g E.tables level y r (step s) → (r.failed ≡ false → Tracking E.tables g.signals (nest_of more) memo memo' s step)
      → (r.failed ≡ false → (alive r.cursor ≡ true) × Holds E (stream g.text r.cursor) rest us × (left (stream g.text r.cursor) < left ts))
      → Steps g memo memo' ts more level y E us k t b s r
  steps_on step rest is holding fits more-comes told tracked on = record {
    fails = λ h. ap (λ (q : Play). first_failing E.tables q.1) (is s) ∙ first_fails E.tables (step s) (play_few k t rest) (told.fails h);
    ended = λ h q. absurd (goes_on q);
    last = λ h q. absurd (goes_on q);
    goes = λ h q. (
      record {
        rest = rest;
        state = (step s).0;
        on = (on h).0;
        standing = record { holding = holding; holds = (on h).1; fits = fits; shows = told.shows h };
        same = alike_then (alike_same (is s)) (second_alike E.tables (step s) (play_few k t rest) (told.sound h));
        step = step;
        is = is;
        here = refl;
        tracks = tracked h;
      },
      (on h).2,
    );
  }
    where
      goes_on : r.ends ≡ true → ⊥
      goes_on q = let z : true ≡ false = sym q ∙ more-comes in let w : ◌≡◌ {A = ℕ} 0 1 = cc in omega arith

-- what holds of the arguments whatever the sums say
pub steps_moves : {g : Ground} {memo memo' : List ℕ} {ts : Toks} {more level : ℕ} {y : Arrays} {E : Env} {us : Toks} {k t : ℕ} {b : Body} {s : State} {r : Played}
    → Steps g memo memo' ts more level y E us k t b s r → Moves g ts more level y E us s.args r
steps_moves {k = k} {t = t} {b = b} {s = s} h = record {
  ended = λ e f. (
      let p = h.ended e f in
      record {
        on = (p.behind e).0;
        there = (p.behind e).1;
        fed = record { rest = (play_few k t b s).0.args; same = same_play k t b s; feeding = (p.told.shows e).args_are };
      });
  goes = λ e f. (
      let o = (h.goes e f).0 in
      let same = sym (same_play k t o.rest o.state) ∙ ap (λ (z : State). supplied z.args) (sym o.same.left_same) ∙ same_play k t b s in (
        record {
          rest = o.rest;
          on = o.on;
          holds = o.standing.holds;
          fits = fits_again (sym same) o.standing.fits;
          fed = record { rest = o.state.args; same = same; feeding = o.standing.shows.args_are };
        },
        (h.goes e f).1,
      ));
}

-- no cycle was played
pub told_none : {tabs : Tables} {text : List ℕ} {n : ℕ} {values : List ℕ} {table : ℕ} {feeds : List ℕ} {level place : ℕ} {s : State}
    → Shows text n values table feeds level s → Told tabs text n values table feeds level false place (s, [])
unfolding first_failing
told_none h = record { fails = λ q. (let z : ◌≡◌ {A = ℕ} 0 1 = cc in absurd (omega arith)); sound = λ q. refl; shows = λ q. h }

-- ---- assignments that can be made

pub vec_playable : {n more level p : ℕ} {args : Args} {a : Assigns} {r : Body} → TidyBelow n (assigned a) → Fits more level args (vec p a r) → Playable n a args
unfolding outside
vec_playable {n} {more} {level} {p} {args} {a} {r} h f = record { below = has_below h; fed = (inside_parts (marked a) (outside r) (supplied args) f.fed).0 }

pub set_playable : {n : ℕ} {args : Args} {a : Assigns} → TidyBelow n (assigned a) → marked a ≡ [] → Playable n a args
unfolding inside
set_playable h e = record { below = has_below h; fed = rw e }

-- ---- each head

module _ {g : Ground} {c r : Cursor} {more level table : ℕ} {x : Arrays} {E : Env} {b : Body} {us : Toks} {s : State} (st : Standing g (stream g.text c) more level table x E b us s)
    (on : alive c ≡ true) (given args : List ℕ) (what : What) (m : Makes g.text c (free_head E) r (Tells g.text g.book g.rows given args g.known.tables what)) where
  abbrev pub Meets : What → Type 0
  Meets w = Met g.text E g.signals b us c r (Tells g.text g.book g.rows given args g.known.tables w)

  pub meets : (w : What) → what ≡ w → Meets w
  meets w q = subst Meets q (met st.holding.tidy st.holds on m)

  module _ {memo : List ℕ} {y : Arrays} {k t : ℕ} where
    pub ends_step : what ≡ Ends → Showing g level table y s → Steps g memo memo (stream g.text c) more level y E us k t b s (record { cursor = r; failed = false; place = 0; table = table; ends = true })
    unfolding Tells play_few
    ends_step q h =
        let i = meets Ends q in
        let d = met_split i ends i.told in
        record {
          fails = λ e. (let z : ◌≡◌ {A = ℕ} 0 1 = cc in absurd (omega arith));
          ended = λ e f. record { told = rw d.0 (told_none h); behind = λ e. (i.on, d.1) };
          last = λ e f. tracking_same (λ z. sym (ap (λ (q : Body). play_few k t q z) d.0)) tracking_none;
          goes = λ e f. (let z : ◌≡◌ {A = ℕ} 0 1 = cc in absurd (omega arith));
        }

    pub chooses_step : (n : ℕ) → what ≡ Chooses n → Showing g level table y s
        → Steps g memo memo (stream g.text c) more level y E us k t b s (record { cursor = r; failed = false; place = 0; table = n; ends = false })
    unfolding Tells play_few changed follow table_of
    chooses_step n q shown =
        let i = meets (Chooses n) q in
        let d = met_split i (sets (choosing n)) i.told.0 in
        let l : ltb n 8 ≡ true = lt-ltb n 8 (omega (arith, i.told.1, st.holding.describes.few_tables)) in
        steps_on (λ z. (changed (choosing n) z, [])) d.0 (λ z. ap (λ (q : Body). play_few k t q z) d.1) st.holding (fits_behind_set (same_changed (choosing n) s) (rw d.1 at st.fits)) refl
        (told_none (record { pins_are = shown.pins_are; table_is = rw (l, table_of); args_are = shown.args_are }))
        (λ h. tracking_joined (λ some room. (chosen_tracked n, λ j l. joins_zero _ 0 refl)))
        λ h. (i.on, d.2, met_less i)

  -- what the assignments of a V or C mark was joined to what was tracked, under this table
  abbrev pub Marking : (memo memo' : List ℕ) → ℕ → Type 0
  Marking memo memo' table =
      0 < nest_of more → tracks_length ≤ length memo → (j : ℕ) → j < g.signals → Joins (marks_at memo (nest_of more) j) (shown_marks (get_or given j 0) table) (marks_at memo' (nest_of more) j)

  module _ {memo memo' : List ℕ} {y : Arrays} {k t : ℕ} (few : g.signals ≤ signals_most) (wide : g.signals ≤ length x.values) where
    pub vector_step : {f : Bool} (p : ℕ) → what ≡ Vector p → Marking memo memo' table
        → ((a : Assigns) (s : State) (tplaces : List ℕ) (tables p : ℕ) (tabs : Tables) → Held g.text tplaces g.waves tables tabs → Given a given
        → Playable g.signals a s.args → Showing g level table x s → Told tabs g.text g.signals y.values table y.feeds level f p (again 1 (vector p a) s))
        → Steps g memo memo' (stream g.text c) more level y E us k t b s (record { cursor = r; failed = f; place = p; table = table; ends = false })
    unfolding Tells play_few
    vector_step p q joins told =
        let i = meets (Vector p) q in
        let a = i.told.0 in
        let d = met_split i (vecs p a) i.told.1 in
        let fits : Fits more level s.args (vec p a d.0) = rw d.1 at st.fits in
        let once-told = rw (vector_once p a s) at (told a s g.tplaces g.known.tables p E.tables st.holding.held i.told.2 (vec_playable (met_fine i (vecs p a) i.told.1) fits) st.shows) in
        steps_on (vector p a) d.0 (λ z. ap (λ (q : Body). play_few k t q z) d.1) st.holding (fits_behind_vec (same_puts a s) fits) refl once-told
        (λ h. tracking_joined (λ some room. (vector_tracked i.told.2 few table p (pins_wide st.shows wide) st.shows.table_is (once-told.sound h), joins some room)))
        λ h. (i.on, d.2, met_less i)

    pub assigns_step : what ≡ AssignsOnly → Marking memo memo' tables_most
        → ((a : Assigns) (s : State) (table : ℕ) → Given a given → Playable g.signals a s.args → Showing g level table x s → Showing g level table y (puts a s))
        → Steps g memo memo' (stream g.text c) more level y E us k t b s (record { cursor = r; failed = false; place = 0; table = table; ends = false })
    unfolding Tells play_few changed follow
    assigns_step q joins shown =
        let i = meets AssignsOnly q in
        let a = i.told.0 in
        let e = i.told.1 in
        let d = met_split i (sets (assigning a)) e in
        let f = met_fine i (sets (assigning a)) e in
        steps_on (λ z. (puts a z, [])) d.0 (λ z. ap (λ (q : Body). play_few k t q z) d.1) st.holding (fits_behind_set (same_puts a s) (rw d.1 at st.fits)) refl
        (told_none (shown a s table i.told.2 (set_playable f.0 f.1) st.shows))
        (λ h. tracking_joined (λ some room. (assigns_tracked i.told.2 few tables_most (pins_wide st.shows wide), joins some room)))
        λ h. (i.on, d.2, met_less i)

-- ---- heads with a body in them

-- behind the head of a Loop or a Shift, r, its body is held
pub record Inside (g : Ground) (c r : Cursor) (more level : ℕ) (E : Env) (b : Body) (us : Toks) (s : State) (w : Way) : Type 0 where
  pub body : Body
  pub rest : Body
  pub between : Toks
  pub is : b ≡ inner w body rest
  pub fits : Fits more level s.args (inner w body rest)
  pub on : alive r ≡ true
  pub holds : Holds E (stream g.text r) body between
  pub behind : Holds E between rest us
  pub less : left between < left (stream g.text c)

-- behind the head that uses the body of number i, r, statements go on; that body is held where it was declared
pub record Called (g : Ground) (c r : Cursor) (more level : ℕ) (E : Env) (b : Body) (us : Toks) (s : State) (i t : ℕ) (given args : List ℕ) : Type 0 where
  pub body : Body
  pub arguments : Args
  pub rest : Body
  pub after : Toks
  pub is : b ≡ inner (entered (kind_of i) t arguments) body rest
  pub fits : Fits more level s.args (inner (entered (kind_of i) t arguments) body rest)
  pub body_fits : Fits (more - 1) (level + 1) arguments body
  pub on : alive r ≡ true
  pub declared : i < bodies
  pub holds : Holds E (toks g.text (start_at g.book i)) body after
  pub behind : Holds E (stream g.text r) rest us
  pub less : left (stream g.text r) < left (stream g.text c)
  pub supplied : Supplied g.text arguments given args
  pub exact : ((j : ℕ) → count j (shifting body) ≤ 1) → Exact t body arguments
  pub head_is : (d : Decl) × (vs : Toks) × HeadAt E (stream g.text c) (uses (kind_of i) d t arguments) vs × (d.body ≡ body)

module _ {g : Ground} {c r : Cursor} {more level table : ℕ} {x : Arrays} {E : Env} {b : Body} {us : Toks} {s : State} (st : Standing g (stream g.text c) more level table x E b us s)
    (on : alive c ≡ true) (given args : List ℕ) (what : What) (m : Makes g.text c (free_head E) r (Tells g.text g.book g.rows given args g.known.tables what)) where
  pub in_loop : (n : ℕ) → what ≡ Loops n → (0 < n) × Inside g c r more level E b us s (looped n)
  unfolding Tells
  in_loop n q =
      let i = meets st on given args what m (Loops n) q in
      let d = met_split i (loops n) i.told.0 in (
        omega (arith, i.told.1),
        record {
          body = d.0;
          rest = d.1;
          between = d.2;
          is = d.3;
          fits = rw d.3 at st.fits;
          on = i.on;
          holds = d.4;
          behind = d.5;
          less = omega (arith, met_less i, holds_less E _ d.0 d.2 d.4);
        },
      )

  pub in_shift_lem : what ≡ Shifts → Inside g c r more level E b us s shifted
  unfolding Tells
  in_shift_lem q =
      let i = meets st on given args what m Shifts q in
      let d = met_split i shifts i.told in
      record {
        body = d.0;
        rest = d.1;
        between = d.2;
        is = d.3;
        fits = rw d.3 at st.fits;
        on = i.on;
        holds = d.4;
        behind = d.5;
        less = omega (arith, met_less i, holds_less E _ d.0 d.2 d.4);
      }

  pub called : (i t : ℕ) → what ≡ UsesBody i t → Called g c r more level E b us s i t given args
  unfolding Tells
  called i t q =
      let w = meets st on given args what m (UsesBody i t) q in
      let z = w.told.1 in
      let a = w.told.2 in
      let e = w.told.3 in
      let d = met_split w (uses (kind_of i) z t a) e in
      let fits : Fits more level s.args (inner (entered (kind_of i) t a) z.body d.0) = rw d.1 at st.fits in
      record {
        body = z.body;
        arguments = a;
        rest = d.0;
        after = d.2.0;
        is = d.1;
        fits = fits;
        body_fits = fits_entered fits (met_fine w (uses (kind_of i) z t a) e);
        on = w.on;
        declared = w.told.4;
        holds = rw (← w.told.5.entry.from) d.2.1;
        behind = d.3;
        less = met_less w;
        supplied = w.told.6;
        exact = met_exact w (kind_of i) z t a e;
        head_is = (z, stream g.text r, subst (λ (h : Head). HeadAt E (stream g.text c) h (stream g.text r)) e w.read, refl);
      }

-- a Loop's body has no `#` of its own
pub loop_plain : {g : Ground} {c r : Cursor} {more level n : ℕ} {E : Env} {b : Body} {us : Toks} {s : State} (i : Inside g c r more level E b us s (looped n)) → Plain i.body
unfolding Good
loop_plain i = i.fits.good.0

-- a Shift holds one V
pub one_vector : {g : Ground} {c r : Cursor} {more level : ℕ} {E : Env} {b : Body} {us : Toks} {s : State} (i : Inside g c r more level E b us s shifted)
    → (p : ℕ) × (a : Assigns) × (i.body ≡ vec p a done)
unfolding Single
one_vector i = i.fits.single.0

-- what the body of a Loop or a Shift played, and then the rest
inside_step : {g : Ground} {memo memo' : List ℕ} {c r : Cursor} {more level : ℕ} {y : Arrays} {E : Env} {b : Body} {us : Toks} {s : State} {w : Way} {k t : ℕ} {z : Played} → Holding g E
    → (i : Inside g c r more level E b us s w) → z.ends ≡ false
    → Plays g E.tables level y i.between z (playing_few k t w (λ j. play_few j (shift_of t w) i.body) s)
    → (z.failed ≡ false → Tracking E.tables g.signals (nest_of more) memo memo' s (playing_few k t w (λ j. play_few j (shift_of t w) i.body)))
    → Steps g memo memo' (stream g.text c) more level y E us k t b s z
unfolding play_few
inside_step {s = s} {w = w} {k = k} {t = t} holding i more-comes p tracked =
    steps_on (playing_few k t w (λ j. play_few j (shift_of t w) i.body)) i.rest (λ z. ap (λ (q : Body). play_few k t q z) i.is) holding
    (fits_behind_inner (same_playing k t w (λ j. play_few j (shift_of t w) i.body) (λ j. same_play j (shift_of t w) i.body) s) i.fits) more-comes p.told tracked
    λ h. let q = p.behind h in (q.0, rw q.1 i.behind, rw q.1 i.less)

-- a body that was gone through, and the rest behind it
pub inside_moves : {g : Ground} {c r : Cursor} {more level : ℕ} {y : Arrays} {E : Env} {b : Body} {us : Toks} {s : State} {w : Way} {z : Played}
    (i : Inside g c r more level E b us s w) → z.ends ≡ false → (z.failed ≡ false → Ended g level y i.between s.args z.cursor)
    → Moves g (stream g.text c) more level y E us s.args z
inside_moves i more-comes h = record {
  ended = λ e f. (let q : true ≡ false = sym f ∙ more-comes in let w : ◌≡◌ {A = ℕ} 0 1 = cc in absurd (omega arith));
  goes = λ e f. (
      let q = h e in
      (record { rest = i.rest; on = q.on; holds = rw q.there i.behind; fits = fits_behind_inner refl i.fits; fed = q.fed }, rw q.there i.less));
}

-- ---- a statement that is read no more

-- at c a statement has a body in it, and behind it, at r, statements go on
module _ {g : Ground} {c r : Cursor} {more level table : ℕ} {x : Arrays} {E : Env} {b : Body} {us : Toks} {s : State} (st : Standing g (stream g.text c) more level table x E b us s)
    (on : alive r ≡ true) (h : Passes g E c r) where
  pub reused : Past E (stream g.text c) (stream g.text r) b us
  reused = h.each b us st.holds

  pub reused_holds : Holds E (stream g.text c) (inner reused.way reused.body reused.rest) us
  reused_holds = rw reused.is at st.holds

  reused_fits : Fits more level s.args (inner reused.way reused.body reused.rest)
  reused_fits = rw reused.is at st.fits

  pub reused_moves : {y : Arrays} (z : Played) → z.cursor ≡ r → z.ends ≡ false → Feeding g.text y.feeds level s.args → Moves g (stream g.text c) more level y E us s.args z
  reused_moves z there more-comes fed =
      let p = reused in
      record {
        ended = λ e f. true_false f more-comes;
        goes = λ e f. rw there (
          record { rest = p.rest; on = on; holds = p.behind; fits = fits_behind_inner refl reused_fits; fed = record { rest = s.args; same = refl; feeding = fed } },
          p.less,
        );
      }

  pub reused_step : {memo memo' : List ℕ} {y : Arrays} (z : Played) (k t : ℕ) → z.cursor ≡ r → z.ends ≡ false → Telling g E.tables level y z (alone k t reused.way reused.body s)
      → (z.failed ≡ false → Tracking E.tables g.signals (nest_of more) memo memo' s (alone k t reused.way reused.body))
      → Steps g memo memo' (stream g.text c) more level y E us k t b s z
  unfolding play_few
  reused_step z k t there more-comes told tracked =
      let p = reused in
      let play : ℕ → State → Play = λ j. play_few j (shift_of t p.way) p.body in
      steps_on (alone k t p.way p.body) p.rest (λ z. ap (λ (q : Body). play_few k t q z) p.is) st.holding
      (fits_behind_inner (same_playing k t p.way play (λ j. same_play j (shift_of t p.way) p.body) s) reused_fits) more-comes told tracked
      λ h. rw there (on, p.behind, p.less)

-- where the sums are known, a used body may be passed
pub invoked_calling : {g : Ground} {c : Cursor} {i t more level table : ℕ} {marks sums given : List ℕ} {x : Arrays} {E : Env} {b : Body} {us : Toks} {a : Args} {s : State}
    → Invoking g c i t more level table given x E b us a s → Summed g marks sums E → Calling g marks sums i t given x.args E b us a
invoked_calling v m = record { held = v.holding.held; holds = v.holds; good = v.fits.good; supplied = v.supplied; exact = v.exact; summed = m }

pub called_invoking : {g : Ground} {c r : Cursor} {more level table i u : ℕ} {values feeds given args : List ℕ} {E : Env} {b : Body} {us : Toks} {s : State} → Holding g E
    → (d : Called g c r more level E b us s i u given args) → Showing g level table (arrays values feeds args) s
    → Invoking g c i u more level table given (arrays values feeds args) E d.body d.after d.arguments s
called_invoking holding d shown = record {
  holding = holding;
  head_is = d.head_is;
  declared = d.declared;
  holds = d.holds;
  some_more = fits_some d.fits;
  fits = d.body_fits;
  shows = shown;
  supplied = d.supplied;
  exact = d.exact;
}

pub called_moves : {g : Ground} {c r : Cursor} {more level : ℕ} {y : Arrays} {E : Env} {b : Body} {us : Toks} {s : State} {i u : ℕ} {given args : List ℕ} (z : Played)
    → Called g c r more level E b us s i u given args → z.cursor ≡ r → z.ends ≡ false → Feeding g.text y.feeds level s.args
    → Moves g (stream g.text c) more level y E us s.args z
called_moves {s = s} z d there more-comes fed = record {
  ended = λ e f. true_false f more-comes;
  goes = λ e f. rw there (record { rest = d.rest; on = d.on; holds = d.behind; fits = fits_behind_inner refl d.fits; fed = record { rest = s.args; same = refl; feeding = fed } }, d.less);
}

module _ {g : Ground} {c r : Cursor} {more level table : ℕ} {x y : Arrays} {E : Env} {b : Body} {us : Toks} {s : State} (st : Standing g (stream g.text c) more level table x E b us s)
  where
    module _ {n : ℕ} (i : Inside g c r more level E b us s (looped n)) where
      pub loop_standing : Showing g level table y s → Standing g (stream g.text r) (more - 1) level table y E i.body i.between s
      loop_standing shown = record { holding = st.holding; holds = i.holds; fits = fits_looped i.fits; shows = shown }

      pub loop_step : {memo memo' : List ℕ} {z : Played} (k t : ℕ) → z.ends ≡ false → Plays g E.tables level y i.between z (loop_few n k (λ j. play_few j t i.body) s)
          → (z.failed ≡ false → Tracking E.tables g.signals (nest_of more) memo memo' s (loop_few n k (λ j. play_few j t i.body)))
          → Steps g memo memo' (stream g.text c) more level y E us k t b s z
      unfolding playing_few shift_of
      loop_step k t more-comes p tracked = inside_step st.holding i more-comes p tracked

    module _ (i : Inside g c r more level E b us s shifted) where
      pub shift_standing : Showing g level table y s → Standing g (stream g.text r) more level table y E (vec (one_vector i).0 (one_vector i).1 done) i.between s
      shift_standing shown =
          record { holding = st.holding; holds = rw (one_vector i).2 at i.holds; fits = fits_shifted i.fits _ _ (one_vector i).2; shows = shown }

      pub shift_step : {memo memo' : List ℕ} {z : Played} (k t : ℕ) → z.ends ≡ false
          → Plays g E.tables level y i.between z (again t (play_few k t (vec (one_vector i).0 (one_vector i).1 done)) s)
          → (z.failed ≡ false → Tracking E.tables g.signals (nest_of more) memo memo' s (again t (play_few k t (vec (one_vector i).0 (one_vector i).1 done))))
          → Steps g memo memo' (stream g.text c) more level y E us k t b s z
      unfolding playing_few shift_of
      shift_step {memo} {memo'} {z} k t more-comes p tracked = inside_step st.holding i more-comes (rw (one_vector i).2 p)
          λ e. subst (λ (q : Body). Tracking E.tables g.signals (nest_of more) memo memo' s (again t (play_few k t q))) (sym (one_vector i).2) (tracked e)

    module _ {i u : ℕ} {given args : List ℕ} (d : Called g c r more level E b us s i u given args) where
      pub called_using : Showing g level table y s → Feeding g.text y.feeds (level + 1) d.arguments
          → Using g i more level table y E d.body d.after d.arguments s
      called_using shown fed = record {
        holding = st.holding;
        declared = d.declared;
        holds = d.holds;
        some_more = fits_some d.fits;
        fits = d.body_fits;
        shows = shown;
        fed = fed;
      }

      -- what a used body played, and then the rest
      pub called_step : {memo memo' : List ℕ} (z : Played) (k t : ℕ) → z.cursor ≡ r → z.ends ≡ false → Telling g E.tables level y z (entering (kind_of i) d.arguments (play_few k u d.body) s)
          → (z.failed ≡ false → Tracking E.tables g.signals (nest_of more) memo memo' s (entering (kind_of i) d.arguments (play_few k u d.body)))
          → Steps g memo memo' (stream g.text c) more level y E us k t b s z
      unfolding play_few playing_few shift_of
      called_step z k t there more-comes p tracked =
          let w = entered (kind_of i) u d.arguments in
          steps_on (entering (kind_of i) d.arguments (play_few k u d.body)) d.rest (λ z. ap (λ (q : Body). play_few k t q z) d.is) st.holding
          (fits_behind_inner (same_playing k t w (λ j. play_few j u d.body) (λ j. same_play j u d.body) s) d.fits) more-comes p tracked
          λ h. rw there (d.on, d.behind, d.less)
