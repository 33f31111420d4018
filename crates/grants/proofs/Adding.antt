-- Statements that are added to what a row sums up: one after the other, and each that has no body in it.
use Prim.Native.Nat.{ℕ, suc, ◌+◌, ◌≤◌}
use native.Mathlib.Omega.{arith}
use mathlib.Core.Path.{◌≡◌, refl, sym, ap, subst}
use mathlib.Core.Bool.{Bool, true, false, ◌||◌, ◌&&◌}
use mathlib.Core.List.{List, [], ◌∷◌, append-nil}
use lib.Dec.{eqb}
use lib.ListN.{get_or}
use Rattle.tokens.proofs.Bools.{neither}
use Rattle.meaning.specs.Lists.{count}
use Rattle.meaning.specs.Body.{Assigns, mark, Kind, Setting, looped, shifted, entered, Body, done, vec, set', inner, marked, outside, in_shift, shifting}
use Rattle.meaning.specs.Data.{assigned}
use Rattle.meaning.specs.Statements.{Env}
use Rattle.measures.specs.Measures.{joined}
use Rattle.measures.specs.Uses.{flag, Given}
use Rattle.measures.proofs.Joined.{joined_done, joined_assoc}
use Rattle.measures.proofs.Counting.{count_append}
use Rattle.plays.specs.Plays.{Ground, SumOf, Summed}
use Rattle.sums.specs.Sums.{Sum, Sums}
use Rattle.sums.proofs.Exact.{no_more_than_once}
use Rattle.tallies.specs.Rows.{sum_at, Only}
use Rattle.grants.specs.Grants.{Open, Added, Once}
use Rattle.grants.proofs.Same.{other_sum}

-- ---- sums of bodies

pub sum_of_same : {g : Ground} {E : Env} {sums sums' : List ℕ} {i least : ℕ} → sum_at sums' i ≡ sum_at sums i → SumOf g E sums i least → SumOf g E sums' i least
sum_of_same {g} {E} e x = record {
  sums_are = λ b us h t l. subst (λ (S : Sum). Sums E.tables g.signals t b S) (sym e) (x.sums_are b us h t l);
  once = x.once;
}

module _ {g : Ground} {E : Env} {more r : ℕ} {marks sums sums' : List ℕ} (o : Open more marks r) (only : Only r sums sums') where
  -- a row that is written is no body's that is summed up
  pub summed_only : Summed g marks sums E → Summed g marks sums' E
  summed_only u = record {
    each = λ i b e. sum_of_same (other_sum only i (λ z. omega (arith, o.begun (omega arith), ap (λ (q : ℕ). get_or marks q 0) z))) (u.each i b e);
    shifted_each = λ i b e. sum_of_same (other_sum only i (λ z. omega (arith, o.begun (omega arith), ap (λ (q : ℕ). get_or marks q 0) z))) (u.shifted_each i b e);
  }

  pub added_one : (shifts : Bool) (one : Body)
      → ((front : Body) (t : ℕ) → (shifts ≡ true → 1 ≤ t) → Sums E.tables g.signals t front (sum_at sums r) → Sums E.tables g.signals t (joined front one) (sum_at sums' r))
      → Added g E r marks marks sums sums' shifts one
  added_one shifts one f = record { summed = summed_only; sums_are = λ u. f }

-- ---- one after the other

module _ {g : Ground} {E : Env} {r : ℕ} where
  pub added_none : {marks sums : List ℕ} (shifts : Bool) → Added g E r marks marks sums sums shifts done
  added_none {sums = sums} shifts = record {
    summed = λ u. u;
    sums_are = λ u front t h x. subst (λ (b : Body). Sums E.tables g.signals t b (sum_at sums r)) (sym (joined_done front)) x;
  }

  pub added_then : {marks marks₁ marks₂ sums sums₁ sums₂ : List ℕ} {x y : Bool} {one two : Body} → Added g E r marks marks₁ sums sums₁ x one
      → Added g E r marks₁ marks₂ sums₁ sums₂ y two → Added g E r marks marks₂ sums sums₂ (x || y) (joined one two)
  added_then {sums₂ = sums₂} {x = x} {y = y} {one = one} {two = two} a b = record {
    summed = λ u. b.summed (a.summed u);
    sums_are = λ u front t h s.
        subst (λ (c : Body). Sums E.tables g.signals t c (sum_at sums₂ r)) (joined_assoc front one two)
        (b.sums_are (a.summed u) (joined front one) t (λ e. h (right x e)) (a.sums_are u front t (λ e. h (left x y e)) s));
  }
    where
      left : (x y : Bool) → x ≡ true → (x || y) ≡ true
      left true y e = refl
      left false y e = let z : ◌≡◌ {A = ℕ} 0 1 = cc in absurd (omega arith)

      right : (x : Bool) {y : Bool} → y ≡ true → (x || y) ≡ true
      right true e = refl
      right false e = e

shifting_joined : (s : ℕ) (a b : Body) → count s (shifting (joined a b)) ≡ count s (shifting a) + count s (shifting b)
unfolding joined shifting count
shifting_joined s done b = omega arith
shifting_joined s (vec p x r) b = shifting_joined s r b
shifting_joined s (set' x r) b = shifting_joined s r b
shifting_joined s (inner w c r) b =
    omega (arith, count_append s (in_shift w (outside c)) (shifting (joined r b)), count_append s (in_shift w (outside c)) (shifting r), shifting_joined s r b)

-- two Shifts are found
pub once_then : {x y twice more : Bool} {one two : Body} → Once x twice one → Once y more two → Once (x || y) ((twice || more) || (x && y)) (joined one two)
once_then {x} {y} {twice} {more} {one} {two} a b = record {
  once = λ e s. (
      let f = neither (twice || more) (x && y) e in
      let g = neither twice more f.0 in
      by x y f.1 _ _ _ (a.once g.0 s) (b.once g.1 s) (shifting_joined s one two));
}
  where
    by : (x y : Bool) → (x && y) ≡ false → (m n k : ℕ) → m ≤ flag x → n ≤ flag y → k ≡ m + n → k ≤ flag (x || y)
    by true true e m n k h l q = let z : ◌≡◌ {A = ℕ} 0 1 = cc in absurd (omega arith)
    by true false e m n k h l q = omega arith
    by false y e m n k h l q = omega arith

-- ---- statements without a Shift

pub once_done : (x y : Bool) → Once x y done
unfolding shifting count
once_done x y = record { once = λ e s. omega arith }

pub once_vec : (p : ℕ) (a : Assigns) → Once false false (vec p a done)
unfolding shifting count
once_vec p a = record { once = λ e s. omega arith }

pub once_set : (x : Setting) → Once false false (set' x done)
unfolding shifting count
once_set x = record { once = λ e s. omega arith }

pub once_loop : (x : Bool) (n : ℕ) (b : Body) → Once x false (inner (looped n) b done)
unfolding shifting in_shift count
once_loop x n b = record { once = λ e s. omega arith }

pub once_use : (k : Kind) (t : ℕ) (a : _) (b : Body) → Once false false (inner (entered k t a) b done)
unfolding shifting in_shift count
once_use k t a b = record { once = λ e s. omega arith }

-- ---- a Shift of one V

marked_within : (s : ℕ) (a : Assigns) → count s (marked a) ≤ count s (assigned a)
unfolding count marked assigned
marked_within s [] = omega arith
marked_within s (x ∷ a) = by (eqb x.1 mark) (marked_within s a)
  where
    also : (v : Bool) (m n : ℕ) → m ≤ n → elim v [ true ↦ suc m | false ↦ m ] ≤ elim v [ true ↦ suc n | false ↦ n ]
    also true m n h = omega arith
    also false m n h = h

    more : (v : Bool) (m n : ℕ) → m ≤ n → m ≤ elim v [ true ↦ suc n | false ↦ n ]
    more true m n h = omega arith
    more false m n h = h

    by : (w : Bool) → count s (marked a) ≤ count s (assigned a) → count s (elim w [ true ↦ x.0 ∷ marked a | false ↦ marked a ]) ≤ count s (x.0 ∷ assigned a)
    by true ih = also (eqb x.0 s) _ _ ih
    by false ih = more (eqb x.0 s) _ _ ih

pub once_shift : {a : Assigns} {given : List ℕ} (p : ℕ) → Given a given → Once true false (inner shifted (vec p a done) done)
unfolding shifting in_shift outside
once_shift {a} p g = record {
  once = λ e s. rw (append-nil, append-nil) (omega (arith, marked_within s a, no_more_than_once s (assigned a) g.once));
}
