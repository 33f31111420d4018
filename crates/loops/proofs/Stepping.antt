-- One statement of a plain body that is held: its measure, and the rest of the body behind it.
use Prim.Native.Nat.{ℕ, ◌-◌, ◌<◌}
use native.Mathlib.Omega.{arith}
use mathlib.Core.Path.{◌≡◌, subst}
use mathlib.Core.Bool.{true, false}
use mathlib.Core.List.{List}
use Rattle.tokens.specs.Tokens.{Toks, left}
use Rattle.meaning.specs.Body.{Assigns, Args, Setting, assigning, choosing, Kind, looped, entered, Body, done, vec, set', inner, depth}
use Rattle.meaning.specs.Statements.{Env, ends, vecs, sets, loops, shifts, uses}
use Rattle.meaning.proofs.Turns.{Plain}
use Rattle.held.specs.Held.{free_head, Holds}
use Rattle.words.specs.Cursor.{alive, stream}
use Rattle.words.specs.declared.Cursor.{Cursor}
use Rattle.timing.specs.Makes.{Makes}
use Rattle.measures.specs.Measures.{Measures, joined}
use Rattle.measures.specs.Book.{bodies, measure_at}
use Rattle.measures.specs.declared.Measure.{Measure}
use Rattle.measures.proofs.Joined.{depth_joined}
use Rattle.heads.specs.declared.What.{What}
use Rattle.heads.specs.declared.What.TheVariants.{Ends, Vector, Assigns as AssignsOnly, Chooses, Loops, Shifts, Uses as UsesBody}
use Rattle.heads.specs.Heads.{kind_of, Tells}
use Rattle.plays.proofs.Heading.{holds_less, Met, met, met_split, met_less}
use Rattle.loops.specs.Held.{Tables, Standing, Steps}

plain_rest : (a b : Body) → Plain (joined a b) → Plain b
unfolding joined Plain
plain_rest done b h = h
plain_rest (vec p x r) b h = plain_rest r b h.1
plain_rest (set' x r) b h = plain_rest r b h.1
plain_rest (inner w c r) b h = plain_rest r b h.1

-- behind the statement `one` of measure x the rest is held, from v on
steps_on : {g : Tables} {ts : Toks} {more : ℕ} {E : Env} {b : Body} {us : Toks} {v : Cursor} {x : Measure} → Standing g ts more E b us → (one rest : Body)
    → b ≡ joined one rest → Measures one x → alive v ≡ true → Holds E (stream g.text v) rest us → left (stream g.text v) < left ts
    → Steps g ts more E b us (record { cursor = v; measure = x; ends = false })
steps_on st one rest is m on holds less =
    let deep = rw is at st.deep in
    record {
      on = on;
      ended = λ e. (let z : ◌≡◌ {A = ℕ} 0 1 = cc in absurd (omega arith));
      goes = λ e. record {
        one = one;
        rest = rest;
        is = is;
        measured = m;
        standing = record {
          describes = st.describes;
          tidy = st.tidy;
          holds = holds;
          deep = omega (arith, depth_joined one rest);
          levels = st.levels;
          plain = plain_rest one rest (rw is at st.plain);
        };
        less = less;
      };
    }

-- ---- each head

module _ {g : Tables} {c r : Cursor} {more : ℕ} {E : Env} {b : Body} {us : Toks} (st : Standing g (stream g.text c) more E b us) (on : alive c ≡ true) (given args : List ℕ) (what : What)
    (m : Makes g.text c (free_head E) r (Tells g.text g.book g.rows given args g.known.tables what)) where
  abbrev Meets : What → Type 0
  Meets w = Met g.text E g.signals b us c r (Tells g.text g.book g.rows given args g.known.tables w)

  meets : (w : What) → what ≡ w → Meets w
  meets w q = subst Meets q (met st.tidy st.holds on m)

  pub ends_step : (x : Measure) → what ≡ Ends → Steps g (stream g.text c) more E b us (record { cursor = r; measure = x; ends = true })
  unfolding Tells
  ends_step x q =
      let i = meets Ends q in
      record {
        on = i.on;
        ended = λ e. met_split i ends i.told;
        goes = λ e. (let z : ◌≡◌ {A = ℕ} 0 1 = cc in absurd (omega arith));
      }

  pub vector_step : {x : Measure} (p : ℕ) → what ≡ Vector p → ((p : ℕ) (a : Assigns) → Measures (vec p a done) x)
      → Steps g (stream g.text c) more E b us (record { cursor = r; measure = x; ends = false })
  unfolding Tells joined
  vector_step p q measured =
      let i = meets (Vector p) q in
      let a = i.told.0 in
      let d = met_split i (vecs p a) i.told.1 in
      steps_on st (vec p a done) d.0 d.1 (measured p a) i.on d.2 (met_less i)

  module _ {x : Measure} (measured : (s : Setting) → Measures (set' s done) x) where
    pub assigns_step : what ≡ AssignsOnly → Steps g (stream g.text c) more E b us (record { cursor = r; measure = x; ends = false })
    unfolding Tells joined
    assigns_step q =
        let i = meets AssignsOnly q in
        let s = assigning i.told.0 in
        let d = met_split i (sets s) i.told.1 in
        steps_on st (set' s done) d.0 d.1 (measured s) i.on d.2 (met_less i)

    pub chooses_step : (k : ℕ) → what ≡ Chooses k → Steps g (stream g.text c) more E b us (record { cursor = r; measure = x; ends = false })
    unfolding Tells joined
    chooses_step k q =
        let i = meets (Chooses k) q in
        let d = met_split i (sets (choosing k)) i.told.0 in
        steps_on st (set' (choosing k) done) d.0 d.1 (measured (choosing k)) i.on d.2 (met_less i)

  -- a plain body has no Shift of its own
  pub no_shift : what ≡ Shifts → ⊥
  unfolding Tells Plain
  no_shift q =
      let i = meets Shifts q in
      let d = met_split i shifts i.told in
      (rw d.3 at st.plain).0

  pub declared : (i t : ℕ) → what ≡ UsesBody i t → i < bodies
  unfolding Tells
  declared i t q = (meets (UsesBody i t) q).told.4

  pub used_step : {x : Measure} (i t : ℕ) → what ≡ UsesBody i t
      → ((k : Kind) (a : Args) (b : Body) → Measures b (measure_at g.book i) → Measures (inner (entered k t a) b done) x)
      → Steps g (stream g.text c) more E b us (record { cursor = r; measure = x; ends = false })
  unfolding Tells joined
  used_step i t q measured =
      let w = meets (UsesBody i t) q in
      let z = w.told.1 in
      let a = w.told.2 in
      let d = met_split w (uses (kind_of i) z t a) w.told.3 in
      steps_on st (inner (entered (kind_of i) t a) z.body done) d.0 d.1 (measured (kind_of i) a z.body w.told.5.entry.measured) w.on d.3 (met_less w)

-- ---- a Loop

-- behind the head of a Loop, r, its body is held
pub record Inside (g : Tables) (c r : Cursor) (more : ℕ) (E : Env) (b : Body) (us : Toks) (n : ℕ) : Type 0 where
  pub body : Body
  pub rest : Body
  pub between : Toks
  pub is : b ≡ inner (looped n) body rest
  pub on : alive r ≡ true
  pub deeper : 0 < more
  pub standing : Standing g (stream g.text r) (more - 1) E body between
  pub behind : Holds E between rest us
  pub less : left between < left (stream g.text c)

module _ {g : Tables} {c r : Cursor} {more : ℕ} {E : Env} {b : Body} {us : Toks} (st : Standing g (stream g.text c) more E b us) where
  pub in_loop : alive c ≡ true → (given args : List ℕ) (what : What)
      → Makes g.text c (free_head E) r (Tells g.text g.book g.rows given args g.known.tables what)
      → (n : ℕ) → what ≡ Loops n → Inside g c r more E b us n
  unfolding Tells depth Plain
  in_loop on given args what m n q =
      let i = meets st on given args what m (Loops n) q in
      let d = met_split i (loops n) i.told.0 in
      let deep = rw d.3 at st.deep in
      record {
        body = d.0;
        rest = d.1;
        between = d.2;
        is = d.3;
        on = i.on;
        deeper = omega arith;
        standing = record {
          describes = st.describes;
          tidy = st.tidy;
          holds = d.4;
          deep = omega arith;
          levels = omega (arith, st.levels);
          plain = (rw d.3 at st.plain).0;
        };
        behind = d.5;
        less = omega (arith, met_less i, holds_less E _ d.0 d.2 d.4);
      }

  -- what its body measures, and then the rest
  pub loop_step : {n : ℕ} {x : Measure} {v : Cursor} (i : Inside g c r more E b us n) → Measures (inner (looped n) i.body done) x → alive v ≡ true
      → stream g.text v ≡ i.between → Steps g (stream g.text c) more E b us (record { cursor = v; measure = x; ends = false })
  unfolding joined
  loop_step {n = n} i m on there =
      steps_on st (inner (looped n) i.body done) i.rest i.is m on (rw there i.behind) (rw there i.less)
