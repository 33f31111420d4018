-- A record's offsets, counted, with the first that falls outside the pattern: what is known of those so far, one offset more, and what they are answered.
use Prim.Native.Nat.{ℕ, ◌+◌, ◌-◌, ◌<◌}
use native.Mathlib.Omega.{arith}
use mathlib.Core.Path.{◌≡◌, refl, sym, ap, ◌∙◌}
use mathlib.Core.Bool.{Bool, true, false, not, ◌&&◌}
use mathlib.Core.Option.{Option, none, some}
use mathlib.Core.List.{List, [], ◌∷◌, ◌++◌}
use lib.Dec.{leb, ltb}
use lib.ListN.{length, length-append}
use borrow.Author.Tests.{lt-leb, le-leb, ltb-true, ltb-false}
use Rattle.std.specs.Prelude.{Option as Maybe}
use Rattle.meaning.specs.Reader.{ahead_of, while}
use Rattle.meaning.specs.Meaning.{Answer, given, refused, answering}
use Rattle.words.specs.Cursor.{stream, alive, Goes}
use Rattle.words.specs.Values.{told, value_of}
use Rattle.words.specs.declared.Cursor.{Cursor}
use Rattle.words.proofs.Loops.{Leads, turned, less, room}
use Rattle.reports.specs.Report.{Offset, Fail, not_in_pattern, offset, one_more, answered_at}
use Rattle.reports.specs.Read.{earlier, outside_at, first_outside}
use Rattle.reports.proofs.Passing.{takes_more, more_goes}

-- ---- the first that falls outside

earlier_none : (o : Option ℕ) → o ≡ earlier o none
unfolding earlier
earlier_none none = refl
earlier_none (some p) = refl

earlier_assoc : (x y z : Option ℕ) → earlier x (earlier y z) ≡ earlier (earlier x y) z
unfolding earlier
earlier_assoc none y z = refl
earlier_assoc (some p) y z = refl

first_append : (left : ℕ) (l : List Offset) (o : Offset) → first_outside left (l ++ o ∷ []) ≡ earlier (first_outside left l) (outside_at left o.n o.at)
unfolding first_outside earlier
first_append left [] o = sym (earlier_none (outside_at left o.n o.at))
first_append left (x ∷ l) o =
    ap (earlier (outside_at left x.n x.at)) (first_append left l o)
    ∙ earlier_assoc (outside_at left x.n x.at) (first_outside left l) (outside_at left o.n o.at)

-- ---- the loop

pub record Kept (text close : List ℕ) (c : Cursor) (left : ℕ) (r : Cursor) (count : ℕ) (first : Maybe ℕ) : Type 0 where
  pub so_far : List Offset
  pub leads : Leads text c (while (λ ts. not (ahead_of close ts)) one_more []) r (while (λ ts. not (ahead_of close ts)) one_more so_far)
  pub many : count ≡ length so_far
  pub firsts : value_of first ≡ first_outside left so_far

pub one_more_lem : {text close : List ℕ} {c r r' : Cursor} {left count : ℕ} {first first' : Maybe ℕ} {o : Offset} {b : Bool} → Kept text close c left r count first
    → b ≡ (alive r && not (ahead_of close (stream text r))) → b ≡ true → Goes text r offset r' o
    → value_of first' ≡ earlier (value_of first) (outside_at left o.n o.at) → Kept text close c left r' (count + 1) first'
one_more_lem {left = left} {o = o} k e h g f =
    record {
      so_far = k.so_far ++ o ∷ [];
      leads = turned _ one_more takes_more k.leads e h (more_goes g k.so_far);
      many = omega (arith, k.many, length-append k.so_far (o ∷ []));
      firsts = f ∙ ap (λ (x : Option ℕ). earlier x (outside_at left o.n o.at)) k.firsts ∙ sym (first_append left k.so_far o);
    }

pub fewer : {text : List ℕ} {r r' : Cursor} {o : Offset} → alive r ≡ true → Goes text r offset r' o → room text r' < room text r
fewer e g = less (takes_more []) e (more_goes g [])

-- ---- what they are answered

-- the answers, where none falls outside; `from` is the run's cycle from which they count
unfoldable pub fails_from : ℕ → ℕ → List Offset → List Fail
fails_from from s [] = []
fails_from from s (o ∷ os) = record { cycle = from + o.n; signal = s; letter = o.letter } ∷ fails_from from s os

-- none falls outside, or this one does first
abbrev pub answered_by : Option ℕ → List Fail → Answer (List Fail)
answered_by none fs = given fs
answered_by (some p) fs = refused not_in_pattern p

outside_is : (cycles b n : ℕ) → leb (cycles - b) n ≡ not (ltb (b + n) cycles)
outside_is cycles b n = by (ltb (b + n) cycles) refl
  where
    by : (x : Bool) → ltb (b + n) cycles ≡ x → leb (cycles - b) n ≡ not x
    by true e = lt-leb (cycles - b) n (omega (arith, ltb-true (b + n) cycles e))
    by false e = le-leb (cycles - b) n (omega (arith, ltb-false (b + n) cycles e))

module _ (first cycles : ℕ) (past : List ℕ → Option ℕ) (b s : ℕ) where
  -- so the pass that counts them tells what is answered, behind b cycles of the pattern
  pub answered_by_lem : (os : List Offset) → answered_at first cycles past b s os ≡ answered_by (first_outside (cycles - b) os) (fails_from (first + b) s os)
  unfolding answered_at answering first_outside earlier fails_from
  answered_by_lem [] = refl
  answered_by_lem (o ∷ os) = rw (outside_is cycles b o.n) (by (ltb (b + o.n) cycles) (first_outside (cycles - b) os) (answered_by_lem os))
    where
      rest : List Fail
      rest = fails_from (first + b) s os

      by : (x : Bool) (y : Option ℕ) → answered_at first cycles past b s os ≡ answered_by y rest
          → ◌≡◌ {A = Answer (List Fail)} (elim x [
            | false ↦ refused not_in_pattern o.at
            | true ↦ answering (answered_at first cycles past b s os) λ fs. given (record { cycle = first + (b + o.n); signal = s; letter = o.letter } ∷ fs)
          ]) (answered_by (earlier (told (not x) o.at) y) (record { cycle = first + b + o.n; signal = s; letter = o.letter } ∷ rest))
      by false y e = refl
      by true none e =
          let q : first + (b + o.n) ≡ first + b + o.n = omega arith in
          rw (e, answering) (ap (λ (n : ℕ). given (record { cycle = n; signal = s; letter = o.letter } ∷ rest)) q)
      by true (some p) e = rw (e, answering)
