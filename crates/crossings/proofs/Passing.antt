-- Cycles gone through: a pair, rows of cycles one behind the other, and rows of which more or fewer are in use.
use Prim.Native.Nat.{ℕ, ◌+◌, ◌*◌, ◌<◌, ◌≤◌}
use native.Mathlib.Omega.{arith}
use mathlib.Core.Path.{◌≡◌, refl, sym, ap, ◌∙◌, subst}
use mathlib.Core.Bool.{Bool, true, false, not, true≢false}
use mathlib.Core.Option.{Option, none, some, or_else}
use mathlib.Core.List.{List, [], ◌∷◌, ◌++◌}
use lib.ListN.{get_or}
use borrow.Author.Tests.{not-true, not-false}
use Rattle.meaning.specs.Timing.{Tables}
use Rattle.meaning.specs.Run.{Cycle}
use Rattle.meaning.specs.Edges.{last_behind, in_order, fine_behind, failing_behind}
use Rattle.edges.proofs.Behind.{last-++, failing-++}
use Rattle.crossings.specs.declared.Seen.{Seen}
use Rattle.crossings.specs.Rows.{rows_most, seen, Ample, cycle_in, row_at, Stored, first_seen, at_most_one, Noted, Long, Passed, Fine, Closed}
use Rattle.crossings.proofs.Storing.{cycle_there, row_seen, row_unseen}

-- ---- a pair

module _ {tabs : Tables} {n : ℕ} {shown marks : List ℕ} {c : Cycle} where
  pub fine_none : get_or marks 2 0 ≡ 0 → Fine tabs n (seen shown marks) c true
  unfolding fine_behind
  fine_none h = record { is = ap (λ (o : Option Cycle). fine_behind tabs o c) (sym (row_unseen n (seen shown marks) 0 h)) }

  pub fine_pair : {r : Bool} → (get_or marks 2 0 ≡ 0 → ⊥) → r ≡ in_order tabs (cycle_in n (get_or marks 1 0) (get_or marks 0 0) shown 0) c → Fine tabs n (seen shown marks) c r
  unfolding fine_behind
  fine_pair h e = record { is = e ∙ ap (λ (o : Option Cycle). fine_behind tabs o c) (sym (row_seen n (seen shown marks) 0 h)) }

-- one cycle behind another one, or behind none
one_fails : (tabs : Tables) (o : Option Cycle) (c : Cycle) → fine_behind tabs o c ≡ false → failing_behind tabs o (c ∷ []) ≡ some c.at
unfolding failing_behind
one_fails tabs o c e = rw (e, failing_behind)

one_sound : (tabs : Tables) (o : Option Cycle) (c : Cycle) → fine_behind tabs o c ≡ true → failing_behind tabs o (c ∷ []) ≡ none
unfolding failing_behind
one_sound tabs o c e = rw (e, failing_behind)

module _ {tabs : Tables} {n r : ℕ} {x : Seen} where
  pub closed_none : {p : ℕ} → get_or x.marks (r * 3 + 2) 0 ≡ 0 → Closed tabs n r x false p
  unfolding at_most_one failing_behind
  closed_none h = record {
    fails = λ e. absurd (true≢false (sym e));
    sound = λ e. ap (λ (o : Option Cycle). failing_behind tabs (row_at n x 0) (at_most_one o)) (row_unseen n x r h);
  }

  pub closed_pair : {f : Bool} → (get_or x.marks (r * 3 + 2) 0 ≡ 0 → ⊥) → Fine tabs n x (cycle_there n x r) f
      → Closed tabs n r x (not f) (get_or x.marks (r * 3 + 1) 0)
  unfolding at_most_one
  closed_pair {f} h e =
      let is = ap (λ (o : Option Cycle). failing_behind tabs (row_at n x 0) (at_most_one o)) (row_seen n x r h) in
      record {
        fails = λ q. is ∙ one_fails tabs (row_at n x 0) (cycle_there n x r) (sym e.is ∙ not-true f q);
        sound = λ q. is ∙ one_sound tabs (row_at n x 0) (cycle_there n x r) (sym e.is ∙ not-false f q);
      }

-- a cycle that is played
module _ {tabs : Tables} {n rows : ℕ} {x y : Seen} {c : Cycle} {f : Bool} (h : Fine tabs n x c f) where
  pub cycle_fails : not f ≡ true → Passed tabs n rows x y true c.at (c ∷ [])
  cycle_fails q = record {
    fails = λ e. one_fails tabs (row_at n x 0) c (sym h.is ∙ not-true f q);
    sound = λ e. absurd (true≢false e);
    noted = λ e. absurd (true≢false e);
  }

  pub cycle_noted : {p : ℕ} → not f ≡ false → Noted n rows x y (c ∷ []) → Passed tabs n rows x y false p (c ∷ [])
  cycle_noted q k = record {
    fails = λ e. absurd (true≢false (sym e));
    sound = λ e. one_sound tabs (row_at n x 0) c (sym h.is ∙ not-false f q);
    noted = λ e. k;
  }

-- ---- lengths

pub long_none : {x : Seen} → Long x x
long_none = record { pins_long = refl; marks_long = refl }

pub long_then : {x y z : Seen} → Long x y → Long y z → Long x z
long_then a b = record { pins_long = b.pins_long ∙ a.pins_long; marks_long = b.marks_long ∙ a.marks_long }

pub long_ample : {x y : Seen} → Long x y → Ample x → Ample y
long_ample l a = record { pins_long = l.pins_long ∙ a.pins_long; marks_long = l.marks_long ∙ a.marks_long }

pub long_stored : {n r : ℕ} {o : Option Cycle} {x y : Seen} → Stored n r o x y → Long x y
long_stored s = record { pins_long = s.pins_long; marks_long = s.marks_long }

-- ---- rows of cycles one behind the other

pub first-++ : (o : Option Cycle) (a b : List Cycle) → first_seen (first_seen o a) b ≡ first_seen o (a ++ b)
unfolding first_seen
first-++ (some d) a b = refl
first-++ none [] b = refl
first-++ none (c ∷ a) b = refl

module _ {n rows : ℕ} {x : Seen} where
  pub noted_none : Noted n rows x x []
  unfolding last_behind first_seen
  noted_none = record { last = refl; first = λ i a b. stays (row_at n x i) }
    where
      stays : (o : Option Cycle) → o ≡ first_seen o []
      stays none = refl
      stays (some c) = refl

  pub noted_then : {y z : Seen} {a b : List Cycle} → Noted n rows x y a → Noted n rows y z b → Noted n rows x z (a ++ b)
  noted_then {y} {z} {a} {b} h k = record {
    last = k.last ∙ ap (λ (o : Option Cycle). last_behind o b) h.last ∙ sym (last-++ (row_at n x 0) a b);
    first = λ i l m. k.first i l m ∙ ap (λ (o : Option Cycle). first_seen o b) (h.first i l m) ∙ first-++ (row_at n x i) a b;
  }

-- where the first row passed, both fail as the second does
joins : (tabs : Tables) (o q : Option Cycle) (a b : List Cycle) → failing_behind tabs o a ≡ none → q ≡ last_behind o a → failing_behind tabs o (a ++ b) ≡ failing_behind tabs q b
unfolding or_else
joins tabs o q a b h e =
    failing-++ tabs o a b ∙ ap (λ (v : Option ℕ). or_else v (failing_behind tabs (last_behind o a) b)) h ∙ ap (λ (u : Option Cycle). failing_behind tabs u b) (sym e)

pub stays_failing : (tabs : Tables) (o : Option Cycle) (a b : List Cycle) {p : ℕ} → failing_behind tabs o a ≡ some p → failing_behind tabs o (a ++ b) ≡ some p
unfolding or_else
stays_failing tabs o a b h = failing-++ tabs o a b ∙ ap (λ (v : Option ℕ). or_else v (failing_behind tabs (last_behind o a) b)) h

module _ {tabs : Tables} {n rows : ℕ} {x : Seen} where
  pub passed_none : {p : ℕ} → Passed tabs n rows x x false p []
  unfolding failing_behind
  passed_none = record { fails = λ e. absurd (true≢false (sym e)); sound = λ e. refl; noted = λ e. noted_none }

  pub passed_both : {y z : Seen} {p q : ℕ} {f : Bool} {a b : List Cycle} → Passed tabs n rows x y false p a → Passed tabs n rows y z f q b → Passed tabs n rows x z f q (a ++ b)
  passed_both {y} {z} {p} {q} {f} {a} {b} h k =
      let same = joins tabs (row_at n x 0) (row_at n y 0) a b (h.sound refl) (h.noted refl).last in
      record { fails = λ e. same ∙ k.fails e; sound = λ e. same ∙ k.sound e; noted = λ e. noted_then (h.noted refl) (k.noted e) }

  -- nothing more is told
  pub passed_failing : {z : Seen} {p : ℕ} {f : Bool} {l : List Cycle} → f ≡ true → failing_behind tabs (row_at n x 0) l ≡ some p → Passed tabs n rows x z f p l
  passed_failing e h = record { fails = λ q. h; sound = λ q. absurd (true≢false (sym e ∙ q)); noted = λ q. absurd (true≢false (sym e ∙ q)) }

  -- fewer rows are in use
  pub passed_less : {z : Seen} {p more : ℕ} {f : Bool} {l : List Cycle} → rows ≤ more → Passed tabs n more x z f p l → Passed tabs n rows x z f p l
  passed_less h k = record {
    fails = k.fails;
    sound = k.sound;
    noted = λ e. (let m = k.noted e in record { last = m.last; first = λ i a b. m.first i a (omega arith) });
  }

  -- it does not matter which failing is meant
  pub passed_as : {z : Seen} {p q : ℕ} {f g : Bool} {l : List Cycle} → f ≡ g → p ≡ q → Passed tabs n rows x z f p l → Passed tabs n rows x z g q l
  passed_as e d k = rw (← e, ← d) k

-- the rows in use are as they were
pub record Same (n rows : ℕ) (x y : Seen) : Type 0 where
  pub each : (i : ℕ) → i < rows → row_at n y i ≡ row_at n x i

module _ {tabs : Tables} {n rows : ℕ} {x y z : Seen} where
  pub passed_from_lem : {p : ℕ} {f : Bool} {l : List Cycle} → 0 < rows → Same n rows x y → Passed tabs n rows y z f p l → Passed tabs n rows x z f p l
  passed_from_lem {p} {f} {l} some-row h k =
      let zero_same = h.each 0 some-row in
      record {
        fails = λ e. ap (λ (o : Option Cycle). failing_behind tabs o l) (sym zero_same) ∙ k.fails e;
        sound = λ e. ap (λ (o : Option Cycle). failing_behind tabs o l) (sym zero_same) ∙ k.sound e;
        noted = λ e. (
            let m = k.noted e in
            record {
              last = m.last ∙ ap (λ (o : Option Cycle). last_behind o l) zero_same;
              first = λ i a b. m.first i a b ∙ ap (λ (o : Option Cycle). first_seen o l) (h.each i b);
            });
      }

pub same_stored : {n r rows : ℕ} {o : Option Cycle} {x y : Seen} → rows ≤ r → r < rows_most → Stored n r o x y → Same n rows x y
same_stored h l s = record { each = λ i b. s.others i (omega arith) (λ e. omega arith) }

pub same_then : {n rows : ℕ} {x y z : Seen} → Same n rows x y → Same n rows y z → Same n rows x z
same_then h k = record { each = λ i b. k.each i b ∙ h.each i b }

pub stored_at : {n r q : ℕ} {o : Option Cycle} {x y : Seen} → r ≡ q → Stored n r o x y → Stored n q o x y
stored_at {n} {r} {q} {o} {x} {y} e s = subst (λ (k : ℕ). Stored n k o x y) e s
