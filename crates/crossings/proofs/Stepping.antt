-- One statement of a body that is held: what it plays, and the rest of the body behind it.
use Prim.Native.Nat.{ℕ, ◌<◌}
use native.Mathlib.Omega.{arith}
use mathlib.Core.Path.{◌≡◌, refl, sym, ap, ◌∙◌, subst}
use mathlib.Core.Bool.{Bool, true, false, true≢false}
use mathlib.Core.List.{List, []}
use lib.Dec.{ltb}
use borrow.Author.Tests.{lt-ltb}
use Rattle.tokens.specs.Written.{bytes}
use Rattle.tokens.specs.Tokens.{Toks, left}
use Rattle.meaning.specs.Timing.{Tables}
use Rattle.meaning.specs.Reader.{due_of}
use Rattle.meaning.specs.Body.{Assigns, assigning, choosing, Way, looped, shifted, entered, Body, done, vec, inner, supplied}
use Rattle.meaning.specs.Run.{shift_of, State, Played as Play, puts, changed, follow, again, entering, playing, play}
use Rattle.meaning.specs.Statements.{Env, Head, ends, vecs, sets}
use Rattle.meaning.proofs.Turns.{Good}
use Rattle.held.specs.Held.{free_head, Holds}
use Rattle.turns.proofs.Decides.{few_left}
use Rattle.meaning.specs.Edges.{failing_behind}
use Rattle.words.specs.Cursor.{alive, stream, Goes as Follows}
use Rattle.words.specs.declared.Cursor.{Cursor}
use Rattle.timing.specs.Makes.{Makes}
use Rattle.measures.specs.Uses.{Given}
use Rattle.heads.specs.declared.What.{What}
use Rattle.heads.specs.declared.What.TheVariants.{Ends, Vector, Assigns as AssignsOnly, Chooses}
use Rattle.heads.specs.Heads.{kind_of, Tells as HeadTells}
use Rattle.pins.specs.Shown.{table_of, Shows, Playable, vector}
use Rattle.pins.proofs.Callers.{vector_once}
use Rattle.plays.specs.declared.Played.{Played}
use Rattle.plays.specs.Plays.{Ground, Holding, Fits, Arrays, Showing, Standing}
use Rattle.plays.proofs.Supply.{Same, same_puts, same_changed, same_play}
use Rattle.plays.proofs.Fitting.{fits_behind_vec, fits_behind_set, fits_behind_inner}
use Rattle.words.proofs.Flow.{went}
use Rattle.plays.proofs.Heading.{head_token, vector_place, end_due, fine_head, met_split, met_fine, met_less}
use Rattle.plays.proofs.Shifting.{token_at_lem, tells_given}
use Rattle.plays.proofs.Stepping.{vec_playable, set_playable, meets, Inside, Called, one_vector}
use Rattle.crossings.specs.declared.Seen.{Seen}
use Rattle.crossings.specs.Rows.{rows_of, row_at, Clock, Timed}
use Rattle.crossings.specs.Crossings.{Told, Tells, Plays, Vectored, Steps}
use Rattle.crossings.proofs.Passing.{passed_none, passed_as, stays_failing}

-- ---- from the first statement to the rest

module _ {g : Ground} {ts : Toks} {more level t : ℕ} {y : Arrays} {v w : Seen} {E : Env} {us : Toks} {b : Body} {s : State} {r : Played} where
  -- behind the first statement, whose play is `first`, `rest` is held
  pub steps_on : (first : Play) (rest : Body) → play t b s ≡ follow first (play t rest) → Holding g E → Fits more level first.0.args rest → r.ends ≡ false
      → Tells g E.tables level (rows_of more) y v w r first
      → (r.failed ≡ false → (alive r.cursor ≡ true) × Holds E (stream g.text r.cursor) rest us × (left (stream g.text r.cursor) < left ts))
      → Steps g ts more level t y v w E us b s r
  unfolding follow
  steps_on first rest is holding fits more-comes told on = record {
    fails = λ h. ap (λ (q : Play). failing_behind E.tables (row_at g.signals v 0) q.1) is ∙ stays_failing E.tables _ first.1 (play t rest first.0).1 (told.passed.fails h);
    ended = λ h q. absurd (true≢false (sym q ∙ more-comes));
    goes = λ h q. record {
      first = first;
      rest = rest;
      is = is;
      passed = passed_as h refl told.passed;
      on = (on h).0;
      standing = record { holding = holding; holds = (on h).1; fits = fits; shows = told.shows h };
      fewer = (on h).2;
    };
  }

-- no cycle was played
pub told_none : {tabs : Tables} {text : List ℕ} {n : ℕ} {values : List ℕ} {table : ℕ} {feeds : List ℕ} {level rows place : ℕ} {v : Seen} {s : State}
    → Shows text n values table feeds level s → Told tabs text n values table feeds level rows v v false place (s, [])
told_none h = record { passed = passed_none; shows = λ e. h }

-- ---- each head without a body in it

module _ {g : Ground} {c r : Cursor} {more level table : ℕ} {x : Arrays} {E : Env} {b : Body} {us : Toks} {s : State} (st : Standing g (stream g.text c) more level table x E b us s)
    (on : alive c ≡ true) (given args : List ℕ) (what : What) (m : Makes g.text c (free_head E) r (HeadTells g.text g.book g.rows given args g.known.tables what)) where
  module _ {y : Arrays} {t : ℕ} {v : Seen} where
    pub ends_step : what ≡ Ends → Showing g level table y s
        → Steps g (stream g.text c) more level t y v v E us b s (record { cursor = r; failed = false; place = 0; table = table; ends = true })
    unfolding HeadTells play
    ends_step q shown =
        let i = meets st on given args what m Ends q in
        let d = met_split i ends i.told in
        record {
          fails = λ e. absurd (true≢false (sym e));
          ended = λ e f. record { tells = rw d.0 (told_none shown); behind = λ e. (i.on, d.1) };
          goes = λ e f. absurd (true≢false f);
        }

    pub vector_step : {w : Seen} {f : Bool} {k : Clock} (p : ℕ) → what ≡ Vector p → Timed E.tables k
        → Vectored g.text given k g.signals level table p 1 (rows_of more) x.values y.values x.feeds y.feeds v w f
        → Steps g (stream g.text c) more level t y v w E us b s (record { cursor = r; failed = f; place = p; table = table; ends = false })
    unfolding HeadTells play
    vector_step p q runs told =
        let i = meets st on given args what m (Vector p) q in
        let a = i.told.0 in
        let d = met_split i (vecs p a) i.told.1 in
        let fits : Fits more level s.args (vec p a d.0) = rw d.1 at st.fits in
        let once = rw (vector_once p a s) at (told.told E.tables runs a s i.told.2 (vec_playable (met_fine i (vecs p a) i.told.1) fits) st.shows) in
        steps_on (vector p a s) d.0 (ap (λ (q : Body). play t q s) d.1) st.holding (fits_behind_vec (same_puts a s) fits) refl once
        λ h. (i.on, d.2, met_less i)

    pub assigns_step : what ≡ AssignsOnly
        → ((a : Assigns) (s : State) (table : ℕ) → Given a given → Playable g.signals a s.args → Showing g level table x s → Showing g level table y (puts a s))
        → Steps g (stream g.text c) more level t y v v E us b s (record { cursor = r; failed = false; place = 0; table = table; ends = false })
    unfolding HeadTells play changed follow
    assigns_step q shown =
        let i = meets st on given args what m AssignsOnly q in
        let a = i.told.0 in
        let e = i.told.1 in
        let d = met_split i (sets (assigning a)) e in
        let f = met_fine i (sets (assigning a)) e in
        steps_on (puts a s, []) d.0 (ap (λ (q : Body). play t q s) d.1) st.holding (fits_behind_set (same_puts a s) (rw d.1 at st.fits)) refl
        (told_none (shown a s table i.told.2 (set_playable f.0 f.1) st.shows))
        λ h. (i.on, d.2, met_less i)

    pub chooses_step : (n : ℕ) → what ≡ Chooses n → Showing g level table y s
        → Steps g (stream g.text c) more level t y v v E us b s (record { cursor = r; failed = false; place = 0; table = n; ends = false })
    unfolding HeadTells play changed follow table_of
    chooses_step n q shown =
        let i = meets st on given args what m (Chooses n) q in
        let d = met_split i (sets (choosing n)) i.told.0 in
        let l : ltb n 8 ≡ true = lt-ltb n 8 (omega (arith, i.told.1, st.holding.describes.few_tables)) in
        steps_on (changed (choosing n) s, []) d.0 (ap (λ (q : Body). play t q s) d.1) st.holding (fits_behind_set (same_changed (choosing n) s) (rw d.1 at st.fits)) refl
        (told_none (record { pins_are = shown.pins_are; table_is = rw (l, table_of); args_are = shown.args_are }))
        λ h. (i.on, d.2, met_less i)

-- ---- heads with a body in them

-- the signals that have an argument stay
pub same_played : (t : ℕ) (b : Body) → Good b → (s : State) → Same s (play t b s).0
same_played t b good s = subst (λ (u : State). supplied u.args ≡ supplied s.args) (few_left t b good s 0) (same_play 0 t b s)

same_inner : (t : ℕ) (w : Way) (b : Body) → Good (inner w b done) → (s : State) → Same s (playing t w (play (shift_of t w) b) s).0
unfolding play follow
same_inner t w b good s = same_played t (inner w b done) good s

module _ {g : Ground} {c r : Cursor} {more level : ℕ} {y : Arrays} {v w : Seen} {E : Env} {b : Body} {us : Toks} {s : State} {t : ℕ} (holding : Holding g E) where
  -- what the body of a Loop or a Shift played, and then the rest
  inside_step : {way : Way} {z : Played} (i : Inside g c r more level E b us s way) → z.ends ≡ false
      → Plays g E.tables level (rows_of more) y v w i.between z (playing t way (play (shift_of t way) i.body) s)
      → Steps g (stream g.text c) more level t y v w E us b s z
  unfolding play Good
  inside_step {way} i more-comes p =
      steps_on (playing t way (play (shift_of t way) i.body) s) i.rest (ap (λ (q : Body). play t q s) i.is) holding
      (fits_behind_inner (same_inner t way i.body (i.fits.good.0, i.fits.good.1, tt) s) i.fits) more-comes p.tells
      λ h. let q = p.behind h in (q.0, rw q.1 i.behind, rw q.1 i.less)

  pub loop_step : {n : ℕ} {z : Played} (i : Inside g c r more level E b us s (looped n)) → z.ends ≡ false
      → Plays g E.tables level (rows_of more) y v w i.between z (again n (play t i.body) s) → Steps g (stream g.text c) more level t y v w E us b s z
  unfolding playing shift_of
  loop_step i more-comes p = inside_step i more-comes p

  pub shift_step : {z : Played} (i : Inside g c r more level E b us s shifted) → z.ends ≡ false
      → Plays g E.tables level (rows_of more) y v w i.between z (again t (play t (vec (one_vector i).0 (one_vector i).1 done)) s) → Steps g (stream g.text c) more level t y v w E us b s z
  unfolding playing shift_of
  shift_step i more-comes p = inside_step i more-comes (rw (one_vector i).2 p)

  -- what a used body played, and then the rest
  pub called_step : {i u : ℕ} {given args : List ℕ} (z : Played) (d : Called g c r more level E b us s i u given args) → z.cursor ≡ r → z.ends ≡ false
      → Tells g E.tables level (rows_of more) y v w z (entering (kind_of i) d.arguments (play u d.body) s) → Steps g (stream g.text c) more level t y v w E us b s z
  unfolding play playing shift_of Good
  called_step {i} {u} z d there more-comes told =
      steps_on (entering (kind_of i) d.arguments (play u d.body) s) d.rest (ap (λ (q : Body). play t q s) d.is) holding
      (fits_behind_inner (same_inner t (entered (kind_of i) u d.arguments) d.body (d.fits.good.0, d.fits.good.1, tt) s) d.fits) more-comes told
      λ h. rw there (d.on, d.behind, d.less)

-- ---- a Shift

module _ {g : Ground} {c r d : Cursor} {more level table : ℕ} {x y : Arrays} {v w : Seen} {E : Env} {us : Toks} {s : State} {p : ℕ} {a : Assigns} (t : ℕ) (given args : List ℕ) (what : What) {f : Bool} {k : Clock}
  where
    pub shift_plays : Standing g (stream g.text c) more level table x E (vec p a done) us s → alive c ≡ true
        → Makes g.text c (free_head E) r (HeadTells g.text g.book g.rows given args g.known.tables what) → Timed E.tables k
        → Vectored g.text given k g.signals level table c.at t (rows_of more) x.values y.values x.feeds y.feeds v w f
        → Follows g.text r (due_of (bytes "}")) d r.at
        → Plays g E.tables level (rows_of more) y v w us (record { cursor = d; failed = f; place = c.at; table = table; ends = false }) (again t (play t (vec p a done)) s)
    unfolding Holds play follow
    shift_plays st on m runs told close =
        let h = st.holds in
        let o = went m.goes on h.1 in
        let n = head_token E _ _ _ h.1 in
        let at : c.at ≡ p = token_at_lem g.text c n.0 n.1 n.2 ∙ vector_place E _ n.0 n.1 n.2 p a _ h.1 in
        let gave = tells_given g.text g.book g.rows given args g.known.tables what p a
        (subst (λ (z : Head). HeadTells g.text g.book g.rows given args g.known.tables what z) o.is (m.held o.on)) in
        let fine = (fine_head E g.signals st.holding.tidy).all _ _ _ h.1 in
        let q = end_due E (stream g.text r) us (rw o.behind h.2) in
        let z = went close o.on q.1 in
        let all = told.told E.tables runs a s gave (vec_playable fine st.fits) st.shows in
        record {
          tells = subst (λ (i : ℕ). Told E.tables g.text g.signals y.values table y.feeds level (rows_of more) v w f c.at (again t (vector i a) s)) at all;
          behind = λ e. (z.on, z.behind);
        }
