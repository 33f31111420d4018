-- A V with `#`: what the loop over its signals makes of a row is the row of the body with that V.
use Prim.Native.Nat.{ℕ, ◌+◌, ◌<◌, min}
use native.Mathlib.Omega.{arith}
use mathlib.Core.Path.{◌≡◌, refl, sym, ap, ◌∙◌}
use mathlib.Core.Bool.{Bool, true, false, cond, ◌&&◌}
use mathlib.Core.List.{List, ◌++◌, append-nil}
use lib.Dec.{ltb, eqb}
use lib.ListN.{get_or}
use borrow.Author.Tests.{ltb-true, ltb-false}
use Rattle.meaning.specs.Bounds.{signals_most}
use Rattle.meaning.specs.Lists.{has, count}
use Rattle.meaning.specs.Body.{Assigns, shifted, Body, done, vec, inner, mark, marked, outside, in_shift, shifting}
use Rattle.measures.specs.Measures.{joined}
use Rattle.measures.specs.Uses.{uses_cap, flag, Uses, Given}
use Rattle.measures.proofs.Counting.{count_append, flag_has, counted_there, not_counted, there_counted}
use Rattle.measures.proofs.Changed.{Changed}
use Rattle.measures.proofs.Marked.{count_given, marked_below}
use Rattle.measures.proofs.Uses.{outside_joined, shifting_joined}

-- the signals of both
below_joined : (b x : Body) → ((s : ℕ) → has s (outside b ++ shifting b) ≡ true → s < signals_most)
    → ((s : ℕ) → has s (outside x ++ shifting x) ≡ true → s < signals_most) → (s : ℕ) → has s (outside (joined b x) ++ shifting (joined b x)) ≡ true
    → s < signals_most
below_joined b x h k s e = by (has s (outside b ++ shifting b)) refl
  where
    all : 0 < count s ((outside b ++ outside x) ++ (shifting b ++ shifting x))
    all = there_counted s _ (sym (rw (outside_joined b x, shifting_joined b x)) ∙ e)

    by : (z : Bool) → has s (outside b ++ shifting b) ≡ z → s < signals_most
    by true f = h s f
    by false f =
        k s
        (counted_there s (outside x ++ shifting x)
        (omega (
          arith,
          all,
          not_counted s (outside b ++ shifting b) f,
          count_append s (outside b ++ outside x) (shifting b ++ shifting x),
          count_append s (outside b) (outside x),
          count_append s (shifting b) (shifting x),
          count_append s (outside b) (shifting b),
          count_append s (outside x) (shifting x),
        )))

-- one use more of a signal whose character is b, up to the cap
abbrev pub counted : ℕ → ℕ → ℕ
counted b n = cond (eqb b mark && ltb n uses_cap) (n + 1) n

counted_is : (b n u : ℕ) → n ≡ min uses_cap u → counted b n ≡ min uses_cap (u + flag (eqb b mark))
counted_is b n u e = by (eqb b mark) (ltb n uses_cap) refl
  where
    by : (m z : Bool) → ltb n uses_cap ≡ z → cond (m && z) (n + 1) n ≡ min uses_cap (u + flag m)
    by true true q = omega (arith, ltb-true n uses_cap q)
    by true false q = omega (arith, ltb-false n uses_cap q)
    by false z q = omega arith

-- none of a signal without a character
pub counted_none : (b n : ℕ) → b ≡ 0 → counted b n ≡ n
counted_none b n e = rw e

-- the mark of a signal whose character is b
abbrev pub shown : ℕ → ℕ → ℕ
shown b n = cond (eqb b mark) 1 n

shown_is : (b n u : ℕ) → n ≡ min 1 u → shown b n ≡ min 1 (u + flag (eqb b mark))
shown_is b n u e = by (eqb b mark)
  where
    by : (m : Bool) → cond m 1 n ≡ min 1 (u + flag m)
    by true = omega arith
    by false = omega arith

pub shown_none : (b n : ℕ) → b ≡ 0 → shown b n ≡ n
shown_none b n e = rw e

more : {a : Assigns} {given : List ℕ} → Given a given → (s : ℕ) (l m : List ℕ) → s < signals_most → m ≡ l ++ marked a
    → count s m ≡ count s l + flag (eqb (get_or given s 0) mark)
more {a} g s l m h e = ap (count s) e ∙ count_append s l (marked a) ∙ ap (λ (k : ℕ). count s l + k) (count_given g s h)

module _ {a : Assigns} {b : Body} {given row row' : List ℕ} {end : ℕ} (last : end ≡ signals_most) (p : ℕ) (g : Given a given) (u : Uses b row)
  where
    -- outside the Shift
    pub uses_counted : Changed (λ s n. counted (get_or given s 0) n) 0 end row row' → Uses (joined b (vec p a done)) row'
    unfolding outside shifting
    uses_counted x =
        let all = outside_joined b (vec p a done) ∙ ap (λ (l : List ℕ). outside b ++ l) (append-nil (marked a)) in
        record {
          long = x.long ∙ u.long;
          outside_is = λ s h.
              x.changed s s (omega arith) (omega arith) ∙ counted_is (get_or given s 0) (get_or row s 0) (count s (outside b)) (u.outside_is s h)
              ∙ ap (min uses_cap) (sym (more g s (outside b) _ h all));
          shifting_is = λ s h.
              x.behind (signals_most + s) (omega arith) ∙ u.shifting_is s h
              ∙ ap (λ (l : List ℕ). flag (has s l)) (sym (shifting_joined b (vec p a done) ∙ append-nil (shifting b)));
          below = below_joined b (vec p a done) u.below (λ s h. marked_below g s (simp append-nil at h));
        }

    -- in the Shift
    pub uses_shown : Changed (λ s n. shown (get_or given s 0) n) signals_most end row row' → Uses (joined b (inner shifted (vec p a done) done)) row'
    unfolding outside shifting in_shift
    uses_shown x =
        let all : shifting (joined b (inner shifted (vec p a done) done)) ≡ shifting b ++ marked a =
        shifting_joined b (inner shifted (vec p a done) done) ∙ (simp append-nil) in
        record {
          long = x.long ∙ u.long;
          outside_is = λ s h.
              x.ahead s (omega arith) ∙ u.outside_is s h
              ∙ ap (λ (l : List ℕ). min uses_cap (count s l)) (sym (outside_joined b (inner shifted (vec p a done) done) ∙ append-nil (outside b)));
          shifting_is = λ s h.
              x.changed s (signals_most + s) refl (omega arith)
              ∙ shown_is (get_or given s 0) (get_or row (signals_most + s) 0) (count s (shifting b)) (u.shifting_is s h ∙ flag_has s (shifting b))
              ∙ sym (flag_has s _ ∙ ap (min 1) (more g s (shifting b) _ h all));
          below = below_joined b (inner shifted (vec p a done) done) u.below (λ s h. marked_below g s (simp append-nil at h));
        }
