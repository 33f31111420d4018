-- Behind a front of known sum a Loop, a macro or a procedure, whose body has a known sum too.
use Prim.Native.Nat.{ℕ, zero, suc}
use native.Mathlib.Nat.{mul-zero}
use native.Mathlib.Omega.{arith}
use mathlib.Core.Path.{◌≡◌, refl, sym, ap, ap₂, ◌∙◌, subst}
use mathlib.Core.Option.{or_else}
use mathlib.Core.Bool.{true}
use mathlib.Core.List.{[], append-nil}
use lib.ListN.{length, drop, length-replicate, drop_of_length-le}
use Rattle.meaning.specs.Lists.{count}
use Rattle.meaning.specs.Timing.{Tables}
use Rattle.meaning.specs.Body.{Args, Kind, macro, procedure, listed, looped, entered, Body, done, inner, outside, in_shift, shifting, arg_of}
use Rattle.meaning.specs.Run.{shift_of, State, Played, bare, follow, again, entering, playing, play}
use Rattle.meaning.specs.Meaning.{first_failing}
use Rattle.meaning.proofs.Turns.{Plain, keeps, plain_twice, copies, loop_turns_lem, fails-++, fails_copies}
use Rattle.measures.specs.Measures.{joined}
use Rattle.sums.specs.Sums.{Sum, Asks, Leaves, due, Enough, Sums}
use Rattle.sums.specs.Parts.{Kept, InPlace, Called, Exact, no_args, Looped}
use Rattle.sums.proofs.Taken.{plain_due}
use Rattle.sums.proofs.Asked.{asks_kept, asks_placed, asks_called}
use Rattle.sums.proofs.Left.{leaves_alike, leaves_placed}
use Rattle.sums.proofs.Adds.{Takes, Plays, spoilt, added}
use Rattle.sums.proofs.Free.{feeding, plain_free}
use Rattle.sums.proofs.Statements.{kept_both}

-- ---- of the arguments around them they take none

loop_takes : (t m : ℕ) (b : Body) → Plain b → Takes t (inner (looped m) b done)
unfolding Plain
loop_takes t m b plain s i = ap (arg_of i) (keeps t (inner (looped m) b done) (plain, tt) s) ∙ rw (plain_due t (inner (looped m) b done) i (plain, tt))

use_takes : (t : ℕ) (k : Kind) (u : ℕ) (a : Args) (b : Body) → Takes t (inner (entered k u a) b done)
unfolding play playing shift_of entering follow due outside shifting in_shift count
use_takes t macro u a b s i = rw mul-zero
use_takes t procedure u a b s i = rw mul-zero
use_takes t listed u a b s i = rw mul-zero

module _ {tabs : Tables} {n t : ℕ} {front : Body} {S R : Sum} (x : Sums tabs n t front S) (bad : R.bad ≡ true) where
  pub spoilt_loop : (m : ℕ) (b : Body) → Plain b → Sums tabs n t (joined front (inner (looped m) b done)) R
  spoilt_loop m b plain = spoilt tabs n x _ (loop_takes t m b plain) bad

  pub spoilt_use : (k : Kind) (u : ℕ) (a : Args) (b : Body) → Sums tabs n t (joined front (inner (entered k u a) b done)) R
  spoilt_use k u a b = spoilt tabs n x _ (use_takes t k u a b) bad

module _ {tabs : Tables} {n : ℕ} where
  -- ---- a Loop's turns

  module _ {t : ℕ} {b : Body} {U : Sum} (v : Sums tabs n t b U) (plain : Plain b) where
    -- one turn behind S: as without arguments, for it sees none
    turn : {S R : Sum} {s s₁ : State} → InPlace tabs n S U no_args R → Leaves n S s s₁ → Asks tabs n R s → Plays tabs n R s (play t b s₁)
    unfolding arg_of
    turn {R} {s} {s₁} x l h =
        let s₂ = (play t b s₁).0 in
        let free = plain_free [] t b plain s₁ in
        let r = v.each (feeding [] s₁) l.wide (λ i. omega (arith, plain_due t b i plain)) (asks_placed h x l [] (λ i k b e c g. g)) in
        let m = leaves_placed l (subst (Leaves n U (feeding [] s₁)) (ap (λ (y : Played). y.0) free) r.1) no_args (λ i b e. (refl, refl)) x.pins_are x.table_is in
        let same : feeding s₁.args s₂ ≡ s₂ = ap (λ (a : Args). feeding a s₂) (sym (keeps t b plain s₁)) in
        (ap (λ (y : Played). first_failing tabs y.1) (sym free) ∙ r.0, subst (Leaves n R s) same m)

    module _ {S R : Sum} where
      -- all turns: one, or the first and copies of the second
      loop_plays : (m : ℕ) → Looped tabs n m S U R → {s s₁ : State} → Leaves n S s s₁ → Asks tabs n R s → Plays tabs n R s (again m (play t b) s₁)
      unfolding again follow or_else
      loop_plays zero x l h = absurd (omega (arith, x.some_turn))
      loop_plays (suc zero) x l h = let r = turn (x.once (omega arith)) l h in (rw append-nil r.0, r.1)
      loop_plays (suc (suc k)) x {s} {s₁} l h =
          let y = x.twice (omega arith) in
          let first = turn y.1 l (asks_kept y.2.entered.kept h) in
          let s₂ = (play t b s₁).0 in
          let second = turn y.2 first.1 h in
          let fails = fails-++ tabs (play t b s₁).1 (copies (suc k) (play t b s₂).1) ∙ ap₂ or_else first.0 (fails_copies tabs k (play t b s₂).1 ∙ second.0) in
          subst (Plays tabs n R s) (sym (loop_turns_lem t b plain (suc k) s₁)) (fails, subst (Leaves n R s) (plain_twice t b plain s₁) second.1)

      loop_kept : (m : ℕ) → Looped tabs n m S U R → Kept n S R
      loop_kept zero x = absurd (omega (arith, x.some_turn))
      loop_kept (suc zero) x = (x.once (omega arith)).entered.kept
      loop_kept (suc (suc k)) x = let y = x.twice (omega arith) in kept_both y.1.entered.kept y.2.entered.kept

      pub loop_sums : {front : Body} {m : ℕ} → Sums tabs n t front S → Looped tabs n m S U R → Sums tabs n t (joined front (inner (looped m) b done)) R
      unfolding play playing shift_of follow
      loop_sums {front} {m} x y = added tabs n x (record {
        used = loop_takes t m b plain;
        kept = loop_kept m y;
        each = λ s s₁ l e h. let r = loop_plays m y l h in (rw append-nil r.0, r.1);
      })

  -- ---- a body with arguments that fit

  module _ {u : ℕ} {b : Body} {a : Args} {U : Sum} (v : Sums tabs n u b U) (exact : Exact u b a) where
    enough : Enough u b a
    enough i = omega (arith, exact.lengths i)

    -- all of them are used
    pub consumed : (s : State) (i : ℕ) → s.args ≡ a → arg_of i (play u b s).0.args ≡ []
    consumed s i e =
        v.used s i ∙ ap (λ (l : Args). drop (due u b i) (arg_of i l)) e
        ∙ drop_of_length-le (arg_of i a) {i = due u b i} (omega (arith, exact.lengths i))

    module _ {t : ℕ} {front : Body} {S R : Sum} (x : Sums tabs n t front S) where
      pub macro_sums : InPlace tabs n S U (λ i. arg_of i a) R → Sums tabs n t (joined front (inner (entered macro u a) b done)) R
      unfolding play playing shift_of entering follow
      macro_sums y = added tabs n x (record {
        used = use_takes t macro u a b;
        kept = y.entered.kept;
        each = λ s s₁ l e h. (
            let s₂ : State = record { pins = s₁.pins; table = s₁.table; args = a } in
            let r = v.each s₂ l.wide enough (asks_placed h y l a (λ i k b e c g. g)) in
            (rw append-nil r.0, leaves_placed l r.1 (λ i. arg_of i a) (λ i b e. (refl, consumed s₂ i refl)) y.pins_are y.table_is)
            );
      })

      pub procedure_sums : Called tabs n S U (λ i. arg_of i a) R → Sums tabs n t (joined front (inner (entered procedure u a) b done)) R
      unfolding play playing shift_of entering follow bare
      procedure_sums y = added tabs n x (record {
        used = use_takes t procedure u a b;
        kept = y.entered.kept;
        each = λ s s₁ l e h. (
            let r = v.each _ (length-replicate (length s₁.pins) 0 ∙ l.wide) enough (asks_called h a y l) in
            (rw append-nil r.0, leaves_alike l y.pins_are y.table_is)
            );
      })
