-- One statement of a body that is held: what it adds to a row, and the rest of the body behind it.
use Prim.Native.Nat.{ℕ, ◌-◌, ◌<◌, ◌≤◌}
use native.Mathlib.Omega.{arith}
use mathlib.Core.Path.{◌≡◌, refl, sym, ap, ◌∙◌, subst}
use mathlib.Core.Bool.{true, false}
use mathlib.Core.List.{List}
use Rattle.tokens.specs.Tokens.{Toks, left}
use Rattle.meaning.specs.Bounds.{tables_most}
use Rattle.meaning.specs.Timing.{Tables}
use Rattle.meaning.specs.Body.{Assigns, Args, assigning, choosing, Way, looped, shifted, entered, Body, done, vec, set', inner, depth, turns}
use Rattle.meaning.specs.Statements.{Env, ends, vecs, sets, loops, shifts, uses}
use Rattle.meaning.proofs.Turns.{Plain, Good}
use Rattle.held.specs.Held.{free_head, Holds}
use Rattle.words.specs.Cursor.{alive, stream}
use Rattle.words.specs.declared.Cursor.{Cursor}
use Rattle.timing.specs.Makes.{Makes}
use Rattle.measures.specs.Measures.{joined}
use Rattle.measures.specs.Uses.{Given}
use Rattle.measures.proofs.Joined.{depth_joined}
use Rattle.heads.specs.declared.What.{What}
use Rattle.heads.specs.declared.What.TheVariants.{Ends, Vector, Assigns as AssignsOnly, Chooses, Loops, Shifts, Uses as UsesBody}
use Rattle.heads.specs.Heads.{kind_of, Tells}
use Rattle.plays.specs.Plays.{Ground, Single}
use Rattle.plays.proofs.Heading.{holds_less, Met, met, met_split, met_fine, met_less, Turned, turned_head}
use Rattle.sums.specs.Sums.{Sum}
use Rattle.sums.specs.Parts.{Assigned, Chosen, Cycled, Exact}
use Rattle.sums.proofs.Statements.{assigned_sums, chosen_sums, vector_sums}
use Rattle.sums.proofs.Exact.{fits_exact}
use Rattle.tallies.specs.Rows.{sum_at, Only, Marked}
use Rattle.grants.specs.declared.Tallied.{Tallied}
use Rattle.grants.specs.Grants.{Open, Added, Once, Standing, Gone, Steps, Using}
use Rattle.grants.proofs.Adding.{added_none, added_one, once_done, once_vec, once_set, once_use}

-- ---- the rest of a body

single_rest : (a b : Body) → Single (joined a b) → Single b
unfolding joined Single
single_rest done b h = h
single_rest (vec p x r) b h = single_rest r b h
single_rest (set' x r) b h = single_rest r b h
single_rest (inner w c r) b h = single_rest r b h.2

good_rest : (a b : Body) → Good (joined a b) → Good b
unfolding joined Good
good_rest done b h = h
good_rest (vec p x r) b h = good_rest r b h
good_rest (set' x r) b h = good_rest r b h
good_rest (inner w c r) b h = good_rest r b h.2

-- what a statement without a Shift answers
abbrev pub plainly : Cursor → Tallied
plainly v = record { cursor = v; ends = false; shifts = false; twice = false }

module _ {g : Ground} {ts : Toks} {more r : ℕ} {marks marks' sums sums' : List ℕ} {E : Env} {b : Body} {us : Toks} (st : Standing g ts more E b us) where
  -- behind the statement `one` the rest is held
  steps_on : {x : Tallied} (one rest : Body) → b ≡ joined one rest → x.ends ≡ false → Added g E r marks marks' sums sums' x.shifts one → Once x.shifts x.twice one
      → alive x.cursor ≡ true → Holds E (stream g.text x.cursor) rest us → left (stream g.text x.cursor) < left ts
      → Steps g ts more r marks marks' sums sums' E b us x
  steps_on one rest is goes added once on holds less =
      let deep = rw is at st.deep in
      record {
        one = one;
        rest = rest;
        is = is;
        added = added;
        once = once;
        on = on;
        ended = λ e. (let z : true ≡ false = sym e ∙ goes in let w : ◌≡◌ {A = ℕ} 0 1 = cc in absurd (omega arith));
        standing = λ e. record {
          holding = st.holding;
          holds = holds;
          deep = omega (arith, depth_joined one rest);
          levels = st.levels;
          single = single_rest one rest (rw is at st.single);
          good = good_rest one rest (rw is at st.good);
        };
        less = λ e. less;
      }

-- behind the head of a Loop or a Shift, v, its body is held
pub record Inside (g : Ground) (c v : Cursor) (more : ℕ) (E : Env) (b : Body) (us : Toks) (w : Way) : Type 0 where
  pub body : Body
  pub rest : Body
  pub between : Toks
  pub is : b ≡ inner w body rest
  pub on : alive v ≡ true
  pub holds : Holds E (stream g.text v) body between
  pub behind : Holds E between rest us
  pub less : left between < left (stream g.text c)

-- behind the head that uses the body of number i, v, statements go on; that body is held where it was declared
pub record Calls (g : Ground) (c v : Cursor) (more : ℕ) (E : Env) (b : Body) (us : Toks) (i t : ℕ) (given args : List ℕ) : Type 0 where
  pub body : Body
  pub after : Toks
  pub arguments : Args
  pub rest : Body
  pub is : b ≡ inner (entered (kind_of i) t arguments) body rest
  pub use' : Using g more i t given args E body after arguments
  pub some_more : 0 < more
  pub on : alive v ≡ true
  pub behind : Holds E (stream g.text v) rest us
  pub less : left (stream g.text v) < left (stream g.text c)

-- ---- each head

module _ {g : Ground} {c v : Cursor} {more : ℕ} {E : Env} {b : Body} {us : Toks} (st : Standing g (stream g.text c) more E b us) (on : alive c ≡ true) (given args : List ℕ) (what : What)
    (m : Makes g.text c (free_head E) v (Tells g.text g.book g.rows given args g.known.tables what)) where
  abbrev Meets : What → Type 0
  Meets w = Met g.text E g.signals b us c v (Tells g.text g.book g.rows given args g.known.tables w)

  meets : (w : What) → what ≡ w → Meets w
  meets w q = subst Meets q (met st.holding.tidy st.holds on m)

  abbrev marked : Marked g.waves E.tables
  marked = (g.text, g.tplaces, g.known.tables, st.holding.held)

  pub ends_step : {r : ℕ} {marks sums : List ℕ} → what ≡ Ends
      → Steps g (stream g.text c) more r marks marks sums sums E b us (record { cursor = v; ends = true; shifts = false; twice = false })
  unfolding Tells joined
  ends_step q =
      let i = meets Ends q in
      record {
        one = done;
        rest = b;
        is = refl;
        added = added_none false;
        once = once_done false false;
        on = i.on;
        ended = λ e. met_split i ends i.told;
        standing = λ e. (let z : ◌≡◌ {A = ℕ} 0 1 = cc in absurd (omega arith));
        less = λ e. (let z : ◌≡◌ {A = ℕ} 0 1 = cc in absurd (omega arith));
      }

  module _ {r : ℕ} {marks sums sums' : List ℕ} {x : Tallied} (o : Open more marks r) (only : Only r sums sums') (is : x ≡ plainly v) where
    abbrev OneStep : Type 0
    OneStep = Steps g (stream g.text c) more r marks marks sums sums' E b us x

    plain_step : Steps g (stream g.text c) more r marks marks sums sums' E b us (plainly v) → OneStep
    plain_step = subst (λ (y : Tallied). Steps g (stream g.text c) more r marks marks sums sums' E b us y) (sym is)

    pub vector_step : (p : ℕ) → what ≡ Vector p
        → ((tabs : Tables) (a : Assigns) → Marked g.waves tabs → Given a given → (A : Sum) × Assigned g.signals a (sum_at sums r) A × Cycled tabs g.signals A (sum_at sums' r))
        → OneStep
    unfolding Tells joined
    vector_step p q f =
        let i = meets (Vector p) q in
        let a = i.told.0 in
        let d = met_split i (vecs p a) i.told.1 in
        let z = f E.tables a marked i.told.2 in
        plain_step (steps_on st (vec p a done) d.0 d.1 refl (added_one o only false _ (λ front t h y. vector_sums y z.1 z.2 p)) (once_vec p a) i.on d.2 (met_less i))

    pub assigns_step : what ≡ AssignsOnly → ((n : ℕ) (a : Assigns) → Given a given → Assigned n a (sum_at sums r) (sum_at sums' r)) → OneStep
    unfolding Tells joined
    assigns_step q f =
        let i = meets AssignsOnly q in
        let a = i.told.0 in
        let d = met_split i (sets (assigning a)) i.told.1 in
        let z = f g.signals a i.told.2 in
        plain_step (steps_on st (set' (assigning a) done) d.0 d.1 refl
        (added_one o only false _ (λ front t h y. assigned_sums y (met_fine i (sets (assigning a)) i.told.1).1 z)) (once_set _) i.on d.2 (met_less i))

    pub chooses_step : (k : ℕ) → what ≡ Chooses k → ((n : ℕ) → Chosen n k (sum_at sums r) (sum_at sums' r)) → OneStep
    unfolding Tells joined
    chooses_step k q f =
        let i = meets (Chooses k) q in
        let d = met_split i (sets (choosing k)) i.told.0 in
        plain_step (steps_on st (set' (choosing k) done) d.0 d.1 refl (added_one o only false _ (λ front t h y. chosen_sums y (f g.signals))) (once_set _) i.on d.2 (met_less i))

  pub table_within : (k : ℕ) → what ≡ Chooses k → k < tables_most
  unfolding Tells
  table_within k q = omega (arith, (meets (Chooses k) q).told.1, st.holding.describes.few_tables)

  -- ---- heads with a body in them

  pub in_loop : (n : ℕ) → what ≡ Loops n → (1 ≤ n) × Inside g c v more E b us (looped n)
  unfolding Tells
  in_loop n q =
      let i = meets (Loops n) q in
      let d = met_split i (loops n) i.told.0 in (
        i.told.1,
        record { body = d.0; rest = d.1; between = d.2; is = d.3; on = i.on; holds = d.4; behind = d.5; less = omega (arith, met_less i, holds_less E _ d.0 d.2 d.4) },
      )

  pub in_shift_lem : what ≡ Shifts → Inside g c v more E b us shifted
  unfolding Tells
  in_shift_lem q =
      let i = meets Shifts q in
      let d = met_split i shifts i.told in
      record { body = d.0; rest = d.1; between = d.2; is = d.3; on = i.on; holds = d.4; behind = d.5; less = omega (arith, met_less i, holds_less E _ d.0 d.2 d.4) }

  -- a used body, held where it was declared
  pub calling : (i t : ℕ) → what ≡ UsesBody i t → Calls g c v more E b us i t given args
  unfolding Tells Single Good depth
  calling i t q =
      let w = meets (UsesBody i t) q in
      let z = w.told.1 in
      let a = w.told.2 in
      let e = w.told.3 in
      let d = met_split w (uses (kind_of i) z t a) e in
      let deep = rw d.1 at st.deep in
      let same : t ≡ turns z.body a = subst Turned e ((turned_head E).all _ w.it _ w.read) in
      record {
        body = z.body;
        after = d.2.0;
        arguments = a;
        rest = d.0;
        is = d.1;
        use' = record {
          declared = record {
            number = w.told.4;
            standing = record {
              holding = st.holding;
              holds = rw (← w.told.5.entry.from) d.2.1;
              deep = omega arith;
              levels = omega (arith, st.levels);
              single = (rw d.1 at st.single).1;
              good = (rw d.1 at st.good).1;
            };
          };
          supplied = w.told.6;
          exact = λ once. subst (λ (k : ℕ). Exact k z.body a) (sym same) (fits_exact z.body a once (met_fine w (uses (kind_of i) z t a) e));
        };
        some_more = omega arith;
        on = w.on;
        behind = d.3;
        less = met_less w;
      }

  pub use_step : {r : ℕ} {marks marks' sums sums' : List ℕ} {x : Tallied} (i t : ℕ) → what ≡ UsesBody i t → x ≡ plainly v
      → ((z : Body) (ws : Toks) (a : Args) → Using g more i t given args E z ws a → Added g E r marks marks' sums sums' false (inner (entered (kind_of i) t a) z done))
      → Steps g (stream g.text c) more r marks marks' sums sums' E b us x
  unfolding joined
  use_step {r} {marks} {marks'} {sums} {sums'} i t q is f =
      let u = calling i t q in
      subst (λ (y : Tallied). Steps g (stream g.text c) more r marks marks' sums sums' E b us y) (sym is)
      (steps_on st (inner (entered (kind_of i) t u.arguments) u.body done) u.rest u.is refl (f u.body u.after u.arguments u.use') (once_use _ _ _ _) u.on u.behind
      u.less)

module _ {g : Ground} {c v : Cursor} {more : ℕ} {E : Env} {b : Body} {us : Toks} (st : Standing g (stream g.text c) more E b us) where
  -- a Loop's body
  module _ {n : ℕ} (i : Inside g c v more E b us (looped n)) where
    pub loop_deeper : 0 < more
    unfolding depth
    loop_deeper = let deep = rw i.is at st.deep in omega arith

    pub loop_plain : Plain i.body
    unfolding Good
    loop_plain = (rw i.is at st.good).0

    pub loop_standing : Standing g (stream g.text v) (more - 1) E i.body i.between
    unfolding depth Single Good
    loop_standing =
        let deep = rw i.is at st.deep in
        record {
          holding = st.holding;
          holds = i.holds;
          deep = omega arith;
          levels = omega (arith, st.levels);
          single = (rw i.is at st.single).1;
          good = (rw i.is at st.good).1;
        }

  -- a Shift's V
  module _ (i : Inside g c v more E b us shifted) where
    pub one_vector : (p : ℕ) × (a : Assigns) × (i.body ≡ vec p a done)
    unfolding Single
    one_vector = (rw i.is at st.single).0

    pub shift_holds : Holds E (stream g.text v) (vec one_vector.0 one_vector.1 done) i.between
    shift_holds = rw (← one_vector.2) i.holds

  -- it was summed up, and the rest is left
  pub inside_step : {r : ℕ} {marks marks' sums sums' : List ℕ} {w : Way} {x : Tallied} (i : Inside g c v more E b us w) (body : Body) → i.body ≡ body
      → x.ends ≡ false → Gone g E i.between r marks marks' sums sums' (inner w body done) x → Steps g (stream g.text c) more r marks marks' sums sums' E b us x
  unfolding joined
  inside_step {w = w} i body e goes h =
      steps_on st (inner w body done) i.rest (i.is ∙ ap (λ (z : Body). inner w z i.rest) e) goes h.added h.once h.on (rw h.behind i.behind) (rw h.behind i.less)
