-- A row of V's may be thinned: if a test fails only where at most k of its two cells are known (a signal's character, the table), k second
-- turns open at once show the first V at which it fails. For a second turn shows other cells than the first only where the turn before set
-- one that is not yet known within it: one cell fewer is known there, and one second turn less need be open.
use mathlib.Core.Path.{◌≡◌, refl, sym, ap, ap₂, ◌∙◌}
use Prim.Native.Nat.{ℕ, zero, suc, ◌+◌, ◌<◌, ◌≤◌}
use native.Mathlib.Omega.{arith}
use mathlib.Core.Bool.{Bool, true, false, ◌||◌}
use mathlib.Core.Option.{Option, none, some, or_else}
use mathlib.Core.List.{List, ◌++◌}
use lib.Dec.{leb}
use borrow.Author.Tests.{le-leb, leb-true}
use Rattle.meaning.proofs.Turns.{later}
use Rattle.meaning.proofs.Options.{or_both, or_alike}
use Rattle.turns.specs.Few.{open_most}
use Rattle.turns.proofs.Known.{Known, Met, behind, Test, from, first, first-++, first_behind, first_alike}

-- ---- how many cells are known

unfoldable pub known : {A : Type 0} → Option A → ℕ
known none = 0
known (some c) = 1

-- only where at most k cells are known can the test fail
abbrev pub Forgives : ℕ → Test → Type 0
Forgives k T = (i : ℕ) (p : Option ℕ) (q : Option (Option ℕ)) → k < known p + known q → T i p q ≡ true

known_one : {A : Type 0} (p : Option A) → known p ≤ 1
unfolding known
known_one none = omega arith
known_one (some c) = omega arith

-- of two cells there are never more
pub most_forgive : (T : Test) → Forgives open_most T
most_forgive T i p q h = absurd (omega (arith, known_one p, known_one q))

known_later : {A : Type 0} (e p : Option A) → known p ≤ known (later e p)
unfolding known later
known_later e none = omega arith
known_later e (some c) = omega arith

-- behind e a cell is as it was, or one more is known
data Behind {A : Type 0} (e p : Option A) : Type 0 where
  as_it_was : later e p ≡ p → Behind e p
  one_more_lem : known p < known (later e p) → Behind e p

behind_cell : {A : Type 0} (e p : Option A) → Behind e p
unfolding known later
behind_cell none none = as_it_was refl
behind_cell (some c) none = one_more_lem (omega arith)
behind_cell e (some c) = as_it_was refl

-- a test passed before is passed behind e too, if k cells were known
passed_behind : (k : ℕ) (T : Test) → Forgives k T → (i : ℕ) (e p : Option ℕ) (f q : Option (Option ℕ)) → k ≤ known p + known q → T i p q ≡ true
    → T i (later e p) (later f q) ≡ true
passed_behind k T h i e p f q m t = by (behind_cell e p) (behind_cell f q)
  where
    by : Behind e p → Behind f q → T i (later e p) (later f q) ≡ true
    by (as_it_was a) (as_it_was b) = ap₂ (T i) a b ∙ t
    by (as_it_was a) (one_more_lem b) = h i _ _ (omega (arith, known_later e p))
    by (one_more_lem a) (as_it_was b) = h i _ _ (omega (arith, known_later f q))
    by (one_more_lem a) (one_more_lem b) = h i _ _ (omega arith)

forgives_from : (k : ℕ) (T : Test) (e : Known) → Forgives k T → Forgives k (from e T)
forgives_from k T e h i p q m = h i _ _ (omega (arith, known_later (e.pins i) p, known_later e.table q))

-- ---- the first failing of rows one behind the other

pub or_first : (x y : Option ℕ) → (x ≡ none → y ≡ none) → or_else x y ≡ x
unfolding or_else
or_first none y h = h refl
or_first (some a) y h = refl

-- two turns of a Loop, the second with one less open
unfoldable pub second_few : Known → (ℕ → List Met) → ℕ → List Met
second_few e m zero = m zero
second_few e m (suc k) = m (suc k) ++ behind e (m k)

module _ (n : ℕ) where
  -- m k is l thinned, with at most k second turns open
  pub record Thins (l : List Met) (m : ℕ → List Met) : Type 0 where
    pub within : (T : Test) (k : ℕ) → first n T l ≡ none → first n T (m k) ≡ none
    pub fewer : (T : Test) (k : ℕ) → first n T (m (suc k)) ≡ none → first n T (m k) ≡ none
    pub same : (T : Test) (k : ℕ) → Forgives k T → first n T l ≡ first n T (m k)

  pub thins_all : (l : List Met) → Thins l (λ k. l)
  thins_all l = record { within = λ T k h. h; fewer = λ T k h. h; same = λ T k h. refl }

  row : (T : Test) (a : List Met) (e : Known) (b : List Met) → first n T (a ++ behind e b) ≡ or_else (first n T a) (first n (from e T) b)
  row T a e b = first-++ n T a (behind e b) ∙ ap (or_else (first n T a)) (first_behind n T e b)

  -- none fails in a row, if none fails in its parts and none failed in
  row_none : (T : Test) (e : Known) (a b a' b' : List Met) → (first n T a ≡ none → first n T a' ≡ none)
      → (first n (from e T) b ≡ none → first n (from e T) b' ≡ none)
      → first n T (a ++ behind e b) ≡ none → first n T (a' ++ behind e b') ≡ none
  unfolding or_else
  row_none T e a b a' b' f g h =
      let l = or_both _ _ (sym (row T a e b) ∙ h) in
      row T a' e b' ∙ ap₂ or_else (f l.0) (g l.1)

  pub thins_then : {a b : List Met} {a' b' : ℕ → List Met} (e : Known) → Thins a a' → Thins b b' → Thins (a ++ behind e b) (λ k. a' k ++ behind e (b' k))
  thins_then {a} {b} {a'} {b'} e x y = record {
    within = λ T k. row_none T e a b (a' k) (b' k) (x.within T k) (y.within (from e T) k);
    fewer = λ T k. row_none T e (a' (suc k)) (b' (suc k)) (a' k) (b' k) (x.fewer T k) (y.fewer (from e T) k);
    same = λ T k h. row T a e b ∙ ap₂ or_else (x.same T k h) (y.same (from e T) k (forgives_from k T e h)) ∙ sym (row T (a' k) e (b' k));
  }

  module _ (e : Known) (l : List Met) (m : ℕ → List Met) (x : Thins l m) where
    -- the second turn's test, lifted where k cells are known
    lifted : ℕ → Test → Test
    lifted k T i p q = leb (suc k) (known p + known q) || from e T i p q

    lifts : (k : ℕ) (T : Test) → Forgives k (lifted k T)
    unfolding lifted
    lifts k T i p q h = rw (le-leb (suc k) (known p + known q) h)

    -- where the first turn is passed, nothing is lifted that could fail
    lifted_alike : (k : ℕ) (T : Test) → Forgives (suc k) T → (i : ℕ) (p : Option ℕ) (q : Option (Option ℕ)) → T i p q ≡ true → from e T i p q ≡ lifted k T i p q
    unfolding lifted
    lifted_alike k T h i p q t = by (leb (suc k) (known p + known q)) refl
      where
        by : (w : Bool) → leb (suc k) (known p + known q) ≡ w → from e T i p q ≡ w || from e T i p q
        by true c = passed_behind (suc k) T h i (e.pins i) p e.table q (leb-true (suc k) (known p + known q) c) t
        by false c = refl

    second_same : (T : Test) (k : ℕ) → Forgives (suc k) T → first n T l ≡ none → first n (from e T) l ≡ first n (from e T) (m k)
    second_same T k h o =
        let alike = first_alike n T (from e T) (lifted k T) (lifted_alike k T h) in
        alike l o ∙ x.same (lifted k T) k (lifts k T) ∙ sym (alike (m k) (x.within T k o))

    -- with none open the second turn shows nothing new
    second_none : (T : Test) → Forgives 0 T → first n T l ≡ none → first n (from e T) l ≡ none
    second_none T h o =
        first_alike n T (from e T) T (λ i p q t. passed_behind 0 T h i (e.pins i) p e.table q (omega arith) t ∙ sym t) l o ∙ o

    -- THE CLAIM for a Loop
    loop_same : (T : Test) (k : ℕ) → Forgives k T → first n T (l ++ behind e l) ≡ first n T (second_few e m k)
    unfolding second_few
    loop_same T zero h = row T l e l ∙ or_first _ _ (second_none T h) ∙ x.same T 0 h
    loop_same T (suc k) h =
        row T l e l ∙ or_alike _ _ _ (second_same T k h)
        ∙ ap (λ (o : Option ℕ). or_else o (first n (from e T) (m k))) (x.same T (suc k) h)
        ∙ sym (row T (m (suc k)) e (m k))

    loop_within : (T : Test) (k : ℕ) → first n T (l ++ behind e l) ≡ none → first n T (second_few e m k) ≡ none
    unfolding second_few
    loop_within T zero h = x.within T 0 (or_both _ _ (sym (row T l e l) ∙ h)).0
    loop_within T (suc k) h = row_none T e l l (m (suc k)) (m k) (x.within T (suc k)) (x.within (from e T) k) h

    loop_fewer : (T : Test) (k : ℕ) → first n T (second_few e m (suc k)) ≡ none → first n T (second_few e m k) ≡ none
    unfolding second_few
    loop_fewer T zero h = x.fewer T 0 (or_both _ _ (sym (row T (m 1) e (m 0)) ∙ h)).0
    loop_fewer T (suc k) h = row_none T e (m (suc (suc k))) (m (suc k)) (m (suc k)) (m k) (x.fewer T (suc k)) (x.fewer (from e T) k) h

    pub thins_loop : Thins (l ++ behind e l) (second_few e m)
    thins_loop = record { within = loop_within; fewer = loop_fewer; same = loop_same }
