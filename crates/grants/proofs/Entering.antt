-- Bodies that are entered: a Loop's, and those of macros and procedures; a spoilt row tells nothing.
use Prim.Native.Nat.{ℕ, ◌*◌, ◌-◌, ◌<◌, ◌≤◌}
use native.Mathlib.Omega.{arith}
use mathlib.Core.Path.{◌≡◌, refl, sym, ◌∙◌, subst}
use mathlib.Core.Bool.{Bool, true, false, true≢false}
use mathlib.Core.List.{List, []}
use lib.ListN.{replicate, length-replicate}
use borrow.Author.Tests.{lt-ltb, le-ltb}
use Rattle.tokens.specs.Tokens.{Toks}
use Rattle.meaning.specs.Bounds.{signals_most, depth_most}
use Rattle.meaning.specs.Lists.{has, repeats}
use Rattle.meaning.specs.Timing.{Tables}
use Rattle.meaning.specs.Body.{Args, looped, entered, Body, done, inner, supplied, arg_of}
use Rattle.meaning.specs.Statements.{Env}
use Rattle.meaning.proofs.Turns.{Plain}
use Rattle.arguments.specs.Supplied.{marks_of, Supplied}
use Rattle.assigns.proofs.Table.{gave_zeros}
use Rattle.measures.specs.Measures.{joined}
use Rattle.measures.specs.Book.{first_procedure}
use Rattle.heads.specs.Heads.{kind_of}
use Rattle.plays.specs.Plays.{Ground, Summed}
use Rattle.plays.proofs.Summing.{usable, known_sum}
use Rattle.sums.specs.Sums.{Sum, Sums}
use Rattle.sums.specs.Parts.{Nothing, InPlace, Called, Exact, no_args, Looped}
use Rattle.sums.proofs.Statements.{nothing_sums}
use Rattle.sums.proofs.Bodies.{spoilt_loop, spoilt_use, loop_sums, macro_sums, procedure_sums}
use Rattle.tallies.specs.Rows.{sum_at, Only}
use Rattle.grants.specs.declared.Tallied.{Tallied}
use Rattle.grants.specs.Grants.{loop_row, rows, Open, Kept, Added, Gone, Using, UseStood}
use Rattle.grants.proofs.Keeping.{open_fixed, open_kept, kept_sum, kept_deeper, open_loop, below_loop, kept_loop}
use Rattle.grants.proofs.Adding.{summed_only, once_loop}

-- ---- a Loop

-- its body has no argument
pub no_arguments : (text : List ℕ) → Supplied text [] (replicate signals_most 0) (replicate (signals_most * 2) 0)
unfolding marks_of supplied repeats has
no_arguments text = record {
  gave = gave_zeros;
  long = length-replicate {A = ℕ} (signals_most * 2) 0;
  once = refl;
  below = λ s h. absurd (true≢false (sym h));
  each = λ s h. absurd (true≢false (sym h));
}

module _ {tabs : Tables} {n m : ℕ} {S U R : Sum} where
  pub looped_once : 1 ≤ m → m ≤ 1 → InPlace tabs n S U no_args R → Looped tabs n m S U R
  looped_once some few x = record { some_turn = some; once = λ h. x; twice = λ h. absurd (omega arith) }

  pub looped_twice : {A W : Sum} → W ≡ U → 1 < m → InPlace tabs n S U no_args A → InPlace tabs n A W no_args R → Looped tabs n m S U R
  looped_twice {A} e some x y = record {
    some_turn = omega arith;
    once = λ h. absurd (omega arith);
    twice = λ h. (A, x, subst (λ (W : Sum). InPlace tabs n A W no_args R) e y);
  }

-- the first turn isn't spoilt where both aren't
module _ {g : Ground} {E : Env} {us : Toks} {more r row : ℕ} {b : Body} {marks marks₂ sums sums₁ sums₂ : List ℕ} {x : Tallied} (is : row ≡ loop_row more) (some : 0 < more)
    (levels : more ≤ depth_most) (o : Open more marks r) (cleared : Only row sums sums₁) (nothing : (n : ℕ) → Nothing n (sum_at sums₁ row))
    (k : Kept (more - 1) row marks marks₂ sums₁ sums₂) (y : Gone g E us row marks marks₂ sums₁ sums₂ b x) (plain : Plain b) where
  begun : Summed g marks sums E → Summed g marks sums₁ E
  begun = summed_only (open_loop is some levels) cleared

  body_sums : Summed g marks sums E → (t : ℕ) → (x.shifts ≡ true → 1 ≤ t) → Sums E.tables g.signals t b (sum_at sums₂ row)
  unfolding joined
  body_sums u t h = y.added.sums_are (begun u) done t h (nothing_sums (nothing g.signals))

  loop_open : Open more marks₂ r
  loop_open = open_kept (kept_loop is some levels r cleared k) o

  loop_same : sum_at sums₂ r ≡ sum_at sums r
  loop_same = kept_sum (kept_loop is some levels row cleared k) (open_fixed o) (below_loop is some levels (open_fixed o))

  pub loop_gone : (n : ℕ) {sums₃ : List ℕ} → Only r sums₂ sums₃
      → ((sum_at sums₃ r).bad ≡ false → Looped E.tables g.signals n (sum_at sums₂ r) (sum_at sums₂ row) (sum_at sums₃ r))
      → Gone g E us r marks marks₂ sums sums₃ (inner (looped n) b done) (record { cursor = x.cursor; ends = false; shifts = x.shifts; twice = false })
  loop_gone n {sums₃} only f = record {
    added = record {
      summed = λ u. summed_only loop_open only (y.added.summed (begun u));
      sums_are = λ u front t h v. by u front t h (subst (Sums E.tables g.signals t front) (sym loop_same) v) (sum_at sums₃ r).bad refl;
    };
    once = once_loop x.shifts n b;
    on = y.on;
    behind = y.behind;
  }
    where
      by : Summed g marks sums E → (front : Body) (t : ℕ) → (x.shifts ≡ true → 1 ≤ t) → Sums E.tables g.signals t front (sum_at sums₂ r)
          → (w : Bool) → (sum_at sums₃ r).bad ≡ w → Sums E.tables g.signals t (joined front (inner (looped n) b done)) (sum_at sums₃ r)
      by u front t h v true e = spoilt_loop v e n b plain
      by u front t h v false e = loop_sums (body_sums u t h) plain v (f e)

-- ---- a body that is used

-- such a body's row is another
pub other_body : {g : Ground} {more i t r : ℕ} {given args marks marks₁ sums sums₁ : List ℕ} → UseStood g more i t r given args marks sums
    → ((q : ℕ) → Kept (more - 1) q marks marks₁ sums sums₁) → usable marks₁ i t ≡ true → i ≡ r → ⊥
other_body {r = r} s k e z =
    let o = open_kept (kept_deeper (k r)) s.sized.row in
    true≢false (sym e ∙ rw (z, o.begun (omega (arith, s.use'.declared.number))))

module _ {more r : ℕ} {marks marks₁ sums sums₁ : List ℕ} (o : Open more marks r) (k : (q : ℕ) → Kept (more - 1) q marks marks₁ sums sums₁) where
  use_open : Open more marks₁ r
  use_open = open_kept (kept_deeper (k r)) o

  use_same : sum_at sums₁ r ≡ sum_at sums r
  use_same = kept_sum (kept_deeper {more = more} (k rows)) (open_fixed o) (λ e. omega (arith, o.within))

  module _ {g : Ground} {i t : ℕ} {given args sums₂ : List ℕ} (only : Only r sums₁ sums₂) {E : Env} {b : Body} {us : Toks} {a : Args} (x : Using g more i t given args E b us a) (bodied : Summed g marks sums E → Summed g marks₁ sums₁ E) where
    abbrev one : Body
    one = inner (entered (kind_of i) t a) b done

    use_added : ((front : Body) (u : ℕ) → Summed g marks₁ sums₁ E → Sums E.tables g.signals u front (sum_at sums₁ r) → Sums E.tables g.signals u (joined front one) (sum_at sums₂ r))
        → Added g E r marks marks₁ sums sums₂ false one
    use_added f = record {
      summed = λ u. summed_only use_open only (bodied u);
      sums_are = λ u front t' h v. f front t' (bodied u) (subst (Sums E.tables g.signals t' front) (sym use_same) v);
    }

    pub use_spoilt : (sum_at sums₂ r).bad ≡ true → Added g E r marks marks₁ sums sums₂ false one
    use_spoilt e = use_added (λ front u s v. spoilt_use v e (kind_of i) t a b)

    module _ (known : usable marks₁ i t ≡ true) where
      sum_known : Summed g marks₁ sums₁ E → Sums E.tables g.signals t b (sum_at sums₁ i) × Exact t b a
      sum_known s = known_sum i t b us s x.declared.number x.declared.standing.holds x.exact known

      pub use_macro : i < first_procedure → ((sum_at sums₂ r).bad ≡ false → InPlace E.tables g.signals (sum_at sums₁ r) (sum_at sums₁ i) (λ j. arg_of j a) (sum_at sums₂ r))
          → Added g E r marks marks₁ sums sums₂ false one
      unfolding kind_of
      use_macro l f = use_added (λ front u s v. by front u s v (sum_at sums₂ r).bad refl)
        where
          by : (front : Body) (u : ℕ) → Summed g marks₁ sums₁ E → Sums E.tables g.signals u front (sum_at sums₁ r) → (w : Bool) → (sum_at sums₂ r).bad ≡ w
              → Sums E.tables g.signals u (joined front one) (sum_at sums₂ r)
          by front u s v true e = spoilt_use v e (kind_of i) t a b
          by front u s v false e = let z = sum_known s in rw (lt-ltb i first_procedure l, kind_of) (macro_sums z.0 z.1 v (f e))

      pub use_procedure : first_procedure ≤ i → ((sum_at sums₂ r).bad ≡ false → Called E.tables g.signals (sum_at sums₁ r) (sum_at sums₁ i) (λ j. arg_of j a) (sum_at sums₂ r))
          → Added g E r marks marks₁ sums sums₂ false one
      unfolding kind_of
      use_procedure l f = use_added (λ front u s v. by front u s v (sum_at sums₂ r).bad refl)
        where
          by : (front : Body) (u : ℕ) → Summed g marks₁ sums₁ E → Sums E.tables g.signals u front (sum_at sums₁ r) → (w : Bool) → (sum_at sums₂ r).bad ≡ w
              → Sums E.tables g.signals u (joined front one) (sum_at sums₂ r)
          by front u s v true e = spoilt_use v e (kind_of i) t a b
          by front u s v false e = let z = sum_known s in rw (le-ltb i first_procedure l, kind_of) (procedure_sums z.0 z.1 v (f e))
