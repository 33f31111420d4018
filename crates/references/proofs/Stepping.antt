-- One statement of a pattern's body that is held: its X name, how many cycles come before what follows, and the rest of the body.
use Prim.Native.Nat.{ℕ, zero, suc, ◌+◌, ◌*◌, ◌-◌, ◌≤◌, ◌<◌, max}
use native.Mathlib.Omega.{arith}
use native.Mathlib.Nat.{suc-mul}
use mathlib.Core.Path.{◌≡◌, refl, sym, ap, ◌∙◌, subst}
use mathlib.Core.Bool.{true, false}
use mathlib.Core.List.{List, [], ◌++◌}
use Rattle.tokens.specs.Tokens.{Tok, Toks, left}
use Rattle.meaning.specs.Bounds.{cycles_most}
use Rattle.meaning.specs.Body.{Args, assigning, choosing, Kind, looped, entered, Body, done, inner, depth}
use Rattle.meaning.specs.Statements.{Env, Head, ends, vecs, sets, loops, shifts, uses}
use Rattle.meaning.specs.Run.{turns_of, shift_of, cycles}
use Rattle.meaning.proofs.Turns.{Plain}
use Rattle.held.specs.Held.{free_head, HeadAt, Holds}
use Rattle.held.proofs.Turn.{takes_head}
use Rattle.held.proofs.Only.{Split, head_held}
use Rattle.words.specs.Cursor.{alive, stream}
use Rattle.words.specs.declared.Cursor.{Cursor}
use Rattle.words.proofs.Flow.{went, Went}
use Rattle.timing.specs.Makes.{Makes}
use Rattle.measures.specs.Measures.{Measures}
use Rattle.measures.specs.Book.{bodies, measure_at}
use Rattle.measures.specs.declared.Measure.{Measure}
use Rattle.measures.proofs.Within.{cycles_within}
use Rattle.heads.specs.declared.What.{What}
use Rattle.heads.specs.declared.What.TheVariants.{Ends, Vector, Assigns as AssignsOnly, Chooses, Loops, Shifts, Uses as UsesBody}
use Rattle.heads.specs.Heads.{kind_of, Tells}
use Rattle.references.specs.References.{name_at, behind_head, behind_body, referred}
use Rattle.references.specs.Filled.{Filled, Tables, Standing, Fills, Steps}
use Rattle.references.specs.declared.Passed.{Passed}
use Rattle.references.proofs.Filling.{filled_none}
use Rattle.references.proofs.Behind.{behind_head_lem, behind_body_lem}

abbrev FilledIn : Tables → List ℕ → List (Tok × ℕ) → List ℕ → Type 0
FilledIn g table xs table' = Filled g.text g.labels g.count table xs table'

-- behind a statement with the X names xs the rest is held, from v on
steps_on : {g : Tables} {ts : Toks} {more n m : ℕ} {E : Env} {b : Body} {us : Toks} {table table' : List ℕ} {v : Cursor} → Standing g ts more n E b us
    → (xs : List (Tok × ℕ)) (rest : Body) → alive v ≡ true → FilledIn g table xs table' → referred E ts n b ≡ xs ++ referred E (stream g.text v) m rest
    → n + cycles 0 b ≡ m + cycles 0 rest → Holds E (stream g.text v) rest us → depth rest ≤ depth b → Plain rest → left (stream g.text v) < left ts
    → Steps g ts more n E b us table (record { cursor = v; cycles = m; ends = false }) table'
steps_on st xs rest on filled all sum holds deep plain less = record {
  on = on;
  ended = λ e. (let z : ◌≡◌ {A = ℕ} 0 1 = cc in absurd (omega arith));
  goes = λ e. record {
    xs = xs;
    rest = rest;
    filled = filled;
    all = all;
    sum = sum;
    standing = record {
      describes = st.describes;
      holds = holds;
      deep = omega (arith, st.deep);
      plain = plain;
      few = omega (arith, st.few);
    };
    less = less;
  };
}

-- ---- each head

module _ {g : Tables} {c r : Cursor} {more n : ℕ} {E : Env} {b : Body} {us : Toks} (st : Standing g (stream g.text c) more n E b us) (on : alive c ≡ true) (given args : List ℕ) (what : What)
    (m : Makes g.text c (free_head E) r (Tells g.text g.book g.rows given args g.known.tables what)) where
  abbrev Step : List ℕ → Passed → List ℕ → Type 0
  Step table p table' = Steps g (stream g.text c) more n E b us table p table'

  it : Head
  it = (head_held E (stream g.text c) b us st.holds).0

  gone : Went g.text r m.it it (head_held E (stream g.text c) b us st.holds).1
  unfolding it
  gone = went m.goes on (head_held E (stream g.text c) b us st.holds).2

  tells : (w : What) → what ≡ w → Tells g.text g.book g.rows given args g.known.tables w it
  tells w q =
      subst (λ (z : What). Tells g.text g.book g.rows given args g.known.tables z it) q
      (subst (Tells g.text g.book g.rows given args g.known.tables what) gone.is (m.held gone.on))

  -- the head h was read, up to r, and begins the body
  record Begun (h : Head) : Type 0 where
    read : HeadAt E (stream g.text c) h (stream g.text r)
    split : Split E h (stream g.text r) b us
    less : left (stream g.text r) < left (stream g.text c)

  begun : (h : Head) → it ≡ h → Begun h
  unfolding it
  begun h q =
      let x = head_held E (stream g.text c) b us st.holds in
      let read : HeadAt E (stream g.text c) it (stream g.text r) = rw gone.behind x.2 in
      subst Begun q (record { read = read; split = rw gone.behind x.3; less = (takes_head E _ _ _).falls _ _ _ read })

  pub ends_step : {table : List ℕ} → what ≡ Ends → Step table (record { cursor = r; cycles = n; ends = true }) table
  unfolding Tells
  ends_step q =
      let i = begun ends (tells Ends q) in
      record {
        on = gone.on;
        ended = λ e. record {
          is = i.split.0;
          there = i.split.1;
          cycles_are = refl;
          filled = filled_none;
          less = rw (← i.split.1) i.less;
        };
        goes = λ e. (let z : ◌≡◌ {A = ℕ} 0 1 = cc in absurd (omega arith));
      }

  -- a V: one cycle more
  module _ (p : ℕ) (q : what ≡ Vector p) where
    pub vector_step : {table : List ℕ} → Step table (record { cursor = r; cycles = n + 1; ends = false }) table
    unfolding Tells referred cycles depth Plain
    vector_step =
        let t = tells (Vector p) q in
        let i = begun (vecs p t.0) t.1 in
        let d = i.split in
        let count : cycles 0 b ≡ 1 + cycles 0 d.0 = ap (cycles 0) d.1 in
        let deep : depth b ≡ depth d.0 = ap depth d.1 in
        steps_on st [] d.0 gone.on filled_none
        (ap (referred E (stream g.text c) n) d.1 ∙ ap (λ (vs : Toks). referred E vs (n + 1) d.0) (behind_head_lem E (stream g.text c) i.read))
        (omega arith) d.2 (omega arith) (subst Plain d.1 st.plain).1 i.less

    pub vector_few : n + 1 ≤ cycles_most
    unfolding Tells cycles
    vector_few =
        let t = tells (Vector p) q in
        let d = (begun (vecs p t.0) t.1).split in
        let count : cycles 0 b ≡ 1 + cycles 0 d.0 = ap (cycles 0) d.1 in
        omega (arith, st.few)

  -- C or X
  pub assigns_step : {table table' : List ℕ} → what ≡ AssignsOnly → FilledIn g table (name_at n (stream g.text c)) table'
      → Step table (record { cursor = r; cycles = n; ends = false }) table'
  unfolding Tells referred cycles depth Plain
  assigns_step q filled =
      let t = tells AssignsOnly q in
      let i = begun (sets (assigning t.0)) t.1 in
      let d = i.split in
      let count : cycles 0 b ≡ cycles 0 d.0 = ap (cycles 0) d.1 in
      let deep : depth b ≡ depth d.0 = ap depth d.1 in
      steps_on st (name_at n (stream g.text c)) d.0 gone.on filled
      (ap (referred E (stream g.text c) n) d.1
      ∙ ap (λ (vs : Toks). name_at n (stream g.text c) ++ referred E vs n d.0) (behind_head_lem E (stream g.text c) i.read))
      (omega arith) d.2 (omega arith) (subst Plain d.1 st.plain).1 i.less

  -- W
  pub chooses_step : {table : List ℕ} (k : ℕ) → what ≡ Chooses k → Step table (record { cursor = r; cycles = n; ends = false }) table
  unfolding Tells referred cycles depth Plain
  chooses_step k q =
      let i = begun (sets (choosing k)) (tells (Chooses k) q).0 in
      let d = i.split in
      let count : cycles 0 b ≡ cycles 0 d.0 = ap (cycles 0) d.1 in
      let deep : depth b ≡ depth d.0 = ap depth d.1 in
      steps_on st [] d.0 gone.on filled_none
      (ap (referred E (stream g.text c) n) d.1 ∙ ap (λ (vs : Toks). referred E vs n d.0) (behind_head_lem E (stream g.text c) i.read))
      (omega arith) d.2 (omega arith) (subst Plain d.1 st.plain).1 i.less

  -- a pattern has no Shift of its own
  pub no_shift : what ≡ Shifts → ⊥
  unfolding Tells Plain
  no_shift q = (subst Plain (begun shifts (tells Shifts q)).split.3 st.plain).0

  -- a used body: all its cycles
  module _ (i t : ℕ) (q : what ≡ UsesBody i t) where
    pub declared : i < bodies
    unfolding Tells
    declared = (tells (UsesBody i t) q).4

    module _ {x : Measure} (measured : (k : Kind) (a : Args) (b : Body) → Measures b (measure_at g.book i) → Measures (inner (entered k t a) b done) x) where
      -- its cycles and those behind it
      record Used : Type 0 where
        body : Body
        rest : Body
        handed : Args
        is : b ≡ inner (entered (kind_of i) t handed) body rest
        count : cycles 0 b ≡ cycles t body + cycles 0 rest
        exact : x.cycles ≡ cycles t body
        deep : depth rest ≤ depth b
        head : behind_head E (stream g.text c) ≡ stream g.text r
        holds : Holds E (stream g.text r) rest us
        less : left (stream g.text r) < left (stream g.text c)

      used : Used
      unfolding Tells cycles turns_of shift_of depth
      used =
          let w = tells (UsesBody i t) q in
          let z = w.1 in
          let a = w.2 in
          let u = begun (uses (kind_of i) z t a) w.3 in
          let d = u.split in
          let count : cycles 0 b ≡ 1 * cycles t z.body + cycles 0 d.0 = ap (cycles 0) d.1 in
          let levels : depth b ≡ max (suc (depth z.body)) (depth d.0) = ap depth d.1 in
          let here = cycles_within (measured (kind_of i) a z.body w.5.entry.measured) (omega (arith, st.few)) in
          record {
            body = z.body;
            rest = d.0;
            handed = a;
            is = d.1;
            count = omega arith;
            exact = omega (arith, here);
            deep = omega (arith, levels);
            head = behind_head_lem E (stream g.text c) u.read;
            holds = d.3;
            less = u.less;
          }

      pub used_step : {table : List ℕ} → Step table (record { cursor = r; cycles = n + x.cycles; ends = false }) table
      unfolding referred Plain
      used_step =
          let u = used in
          steps_on st [] u.rest gone.on filled_none
          (ap (referred E (stream g.text c) n) u.is
          ∙ ap (λ (vs : Toks). referred E vs (n + cycles t u.body) u.rest) u.head
          ∙ ap (λ (k : ℕ). referred E (stream g.text r) (n + k) u.rest) (sym u.exact))
          (omega (arith, u.count, u.exact)) u.holds u.deep (subst Plain u.is st.plain).1 u.less

      pub used_few : n + x.cycles ≤ cycles_most
      used_few = omega (arith, used.count, used.exact, st.few)

-- ---- a Loop

-- a body's cycles are no more than those of all its turns
once_most : (m c : ℕ) → 1 ≤ m → c ≤ m * c
once_most zero c h = absurd (omega arith)
once_most (suc m) c h = omega (arith, suc-mul m c)

-- what all turns come to, from where the first ends
all_turns : (m n c x : ℕ) → x ≡ n + c → n + m * (x - n) ≡ n + m * c
all_turns m n c x e = let q : x - n ≡ c = omega arith in ap (λ (k : ℕ). n + m * k) q

-- behind the head of a Loop, r, its body is held
pub record Inside (g : Tables) (c r : Cursor) (more n : ℕ) (E : Env) (b : Body) (us : Toks) (m : ℕ) : Type 0 where
  pub body : Body
  pub rest : Body
  pub between : Toks
  pub is : b ≡ inner (looped m) body rest
  pub on : alive r ≡ true
  pub deeper : 0 < more
  pub count : cycles 0 b ≡ m * cycles 0 body + cycles 0 rest
  pub head : behind_head E (stream g.text c) ≡ stream g.text r
  pub standing : Standing g (stream g.text r) (more - 1) n E body between
  pub behind : Holds E between rest us
  pub less : left (stream g.text r) < left (stream g.text c)

module _ {g : Tables} {c r : Cursor} {more n : ℕ} {E : Env} {b : Body} {us : Toks} (st : Standing g (stream g.text c) more n E b us) where
  pub in_loop : alive c ≡ true → (given args : List ℕ) (what : What)
      → Makes g.text c (free_head E) r (Tells g.text g.book g.rows given args g.known.tables what)
      → (m : ℕ) → what ≡ Loops m → Inside g c r more n E b us m
  unfolding Tells depth Plain cycles turns_of shift_of
  in_loop on given args what makes m q =
      let t = tells st on given args what makes (Loops m) q in
      let i = begun st on given args what makes (loops m) t.0 in
      let d = i.split in
      let deep = rw d.3 at st.deep in
      let count : cycles 0 b ≡ m * cycles 0 d.0 + cycles 0 d.1 = ap (cycles 0) d.3 in
      record {
        body = d.0;
        rest = d.1;
        between = d.2;
        is = d.3;
        on = (gone st on given args what makes).on;
        deeper = omega arith;
        count = count;
        head = behind_head_lem E (stream g.text c) i.read;
        standing = record {
          describes = st.describes;
          holds = d.4;
          deep = omega arith;
          plain = (subst Plain d.3 st.plain).0;
          few = omega (arith, once_most m (cycles 0 d.0) t.1, st.few);
        };
        behind = d.5;
        less = i.less;
      }

  module _ {m : ℕ} (i : Inside g c r more n E b us m) {table table' : List ℕ} {p : Passed} (s : Fills g (stream g.text r) n E i.body i.between table p table') where
    turns_are : n + m * (p.cycles - n) ≡ n + m * cycles 0 i.body
    turns_are = all_turns m n (cycles 0 i.body) p.cycles s.cycles_are

    pub turns_rise : n ≤ p.cycles
    turns_rise = omega (arith, s.cycles_are)

    pub turns_few : n + m * (p.cycles - n) ≤ cycles_most
    turns_few = omega (arith, turns_are, i.count, st.few)

    -- its X names, and then the rest behind all its turns
    pub loop_step : {x : ℕ} → x ≡ n + m * (p.cycles - n)
        → Steps g (stream g.text c) more n E b us table (record { cursor = p.cursor; cycles = x; ends = false }) table'
    unfolding referred depth Plain
    loop_step {x} e =
        let here = e ∙ turns_are in
        let there : behind_body E (stream g.text r) i.body ≡ stream g.text p.cursor =
        behind_body_lem E (stream g.text r) i.body i.between i.standing.holds ∙ sym s.there in
        let deep : depth i.rest ≤ depth b = rw i.is (omega arith) in
        steps_on st (referred E (stream g.text r) n i.body) i.rest s.on s.filled
        (ap (referred E (stream g.text c) n) i.is
        ∙ ap (λ (vs : Toks). referred E vs n i.body ++ referred E (behind_body E vs i.body) (n + m * cycles 0 i.body) i.rest) i.head
        ∙ ap (λ (ws : Toks). referred E (stream g.text r) n i.body ++ referred E ws (n + m * cycles 0 i.body) i.rest) there
        ∙ ap (λ (k : ℕ). referred E (stream g.text r) n i.body ++ referred E (stream g.text p.cursor) k i.rest) (sym here))
        (omega (arith, here, i.count)) (rw s.there i.behind) deep (subst Plain i.is st.plain).1
        (rw s.there (omega (arith, s.less, i.less)))
