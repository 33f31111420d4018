-- Decimal numbers and times, read up to a largest one: a number above it stays above it, whatever digits and unit follow.
use Prim.Native.Nat.{ℕ, zero, suc, ◌+◌, ◌*◌, ◌-◌, ◌≤◌, ◌<◌, min}
use native.Mathlib.Omega.{arith}
use mathlib.Core.Path.{◌≡◌, refl, sym, ap, ◌∙◌}
use mathlib.Core.Bool.{Bool, true, false, not, ◌&&◌, and-false}
use mathlib.Core.Option.{Option, none, some}
use mathlib.Core.List.{List, [], ◌∷◌}
use lib.Dec.{leb}
use lib.ListN.{length, get_or, take, drop, drop_of_length-le}
use borrow.Author.Tests.{le-leb, lt-leb, leb-true, leb-false}
use Rattle.tokens.specs.Written.{bytes, same}
use Rattle.tokens.specs.Bytes.{between, digit}
use Rattle.meaning.specs.Refusals.{bad_number}
use Rattle.meaning.specs.Reader.{ok, refuse, after, ◌>>=◌, give, refuse_if}
use Rattle.meaning.specs.Names.{value, number, within}
use Rattle.meaning.specs.Timing.{unit, picoseconds}
use Rattle.meaning.proofs.Others.{same_eq}
use Rattle.words.specs.Cursor.{Goes, Checked}
use Rattle.words.specs.Values.{most, capped, up_to}
use Rattle.words.specs.declared.Cursor.{Cursor}
use Rattle.words.proofs.Words.{cut, rest}
use Rattle.words.proofs.Flow.{then, given, valued, checked, refused_by}

pub digit_bounds : (b : ℕ) → digit b ≡ true → (48 ≤ b) × (b ≤ 57)
unfolding digit between
digit_bounds b h = by (leb 48 b) refl (leb b 57) refl h
  where
    by : (x : Bool) → leb 48 b ≡ x → (y : Bool) → leb b 57 ≡ y → (x && y) ≡ true → (48 ≤ b) × (b ≤ 57)
    by true e true f h = (leb-true 48 b e, leb-true b 57 f)
    by true e false f h = let z : ◌≡◌ {A = ℕ} 0 1 = cc in absurd (omega arith)
    by false e y f h = let z : ◌≡◌ {A = ℕ} 0 1 = cc in absurd (omega arith)

-- ---- numbers

value_capped : (m : ℕ) (s : List ℕ) → capped (value m s) ≡ capped (value (min most m) s)
unfolding value
value_capped m [] = ap some (omega arith)
value_capped m (b ∷ s) = by (digit b) (λ k. value_capped k s)
  where
    by : (z : Bool) → ((k : ℕ) → capped (value k s) ≡ capped (value (min most k) s))
        → capped (elim z [ true ↦ value (m * 10 + (b - 48)) s | false ↦ none ])
        ≡ capped (elim z [ true ↦ value (min most m * 10 + (b - 48)) s | false ↦ none ])
    by true ih =
        let e : min most (m * 10 + (b - 48)) ≡ min most (min most m * 10 + (b - 48)) = omega arith in
        ih (m * 10 + (b - 48)) ∙ ap (λ (x : ℕ). capped (value x s)) e ∙ sym (ih (min most m * 10 + (b - 48)))
    by false ih = refl

module _ (w : List ℕ) (n i : ℕ) where
  pub value_next : {r : ℕ} → i < length w → digit (get_or w i 0) ≡ true → r ≡ min most (n * 10 + (get_or w i 0 - 48))
      → capped (value n (drop i w)) ≡ capped (value r (drop (i + 1) w))
  unfolding value
  value_next {r} h d e =
      (rw (cut w i h) (rw (d, value) (value_capped (n * 10 + (get_or w i 0 - 48)) (drop (i + 1) w))))
      ∙ ap (λ (x : ℕ). capped (value x (drop (i + 1) w))) (sym e)

  pub value_none : i < length w → digit (get_or w i 0) ≡ false → capped (value n (drop i w)) ≡ none
  unfolding value
  value_none h d = rw (cut w i h) (rw (d, value))

  pub value_end : length w ≤ i → n ≤ most → capped (value n (drop i w)) ≡ some n
  unfolding value
  value_end h k = let e : min most n ≡ n = omega arith in rw (drop_of_length-le w h) (ap some e)

pub number_some : (w : List ℕ) → 0 < length w → number w ≡ value 0 w
unfolding number
number_some [] h = absurd (omega arith)
number_some (b ∷ s) h = refl

pub number_none : (w : List ℕ) → length w ≡ 0 → none ≡ capped (number w)
unfolding number
number_none [] h = refl
number_none (b ∷ s) h = absurd (omega arith)

-- ---- numbers up to a largest one

module _ (most : ℕ) where
  pub up_to_within : (n : ℕ) → n ≤ most → some n ≡ up_to most (some n)
  unfolding up_to
  up_to_within n h = rw (le-leb n most h, up_to)

  pub up_to_above : (n : ℕ) → most < n → none ≡ up_to most (some n)
  unfolding up_to
  up_to_above n h = rw (lt-leb n most h, up_to)

  pub nothing_up_to : (w : List ℕ) → length w ≡ 0 → none ≡ up_to most (number w)
  unfolding number up_to
  nothing_up_to [] h = refl
  nothing_up_to (b ∷ w) h = absurd (omega arith)

  -- more digits make it no smaller
  large : (m : ℕ) (s : List ℕ) → most < m → none ≡ up_to most (value m s)
  unfolding value up_to
  large m [] h = up_to_above m h
  large m (b ∷ s) h = by (digit b) (λ k g. large k s g)
    where
      by : (z : Bool) → ((k : ℕ) → most < k → none ≡ up_to most (value k s)) → none ≡ up_to most (elim z [ true ↦ value (m * 10 + (b - 48)) s | false ↦ none ])
      by true ih = ih (m * 10 + (b - 48)) (omega arith)
      by false ih = refl

  module _ (w : List ℕ) (n i : ℕ) where
    pub digit_none : i < length w → digit (get_or w i 0) ≡ false → none ≡ up_to most (value n (drop i w))
    unfolding value up_to
    digit_none h d = rw (cut w i h) (rw (d, value))

    module _ (m : ℕ) (h : i < length w) (d : digit (get_or w i 0) ≡ true) (e : m ≡ get_or w i 0 - 48) where
      pub digit_next : value n (drop i w) ≡ value (n * 10 + m) (drop (i + 1) w)
      unfolding value
      digit_next = (rw (cut w i h) (rw (d, value))) ∙ ap (λ (x : ℕ). value (n * 10 + x) (drop (i + 1) w)) (sym e)

      pub digit_large : none ≡ up_to most (some (n * 10 + m)) → none ≡ up_to most (value n (drop i w))
      unfolding up_to
      digit_large k = by (leb (n * 10 + m) most) refl k
        where
          by : (z : Bool) → leb (n * 10 + m) most ≡ z → none ≡ elim z as (λ x. Option ℕ) [ true ↦ some (n * 10 + m) | false ↦ none ]
              → none ≡ up_to most (value n (drop i w))
          by true f k = let z : ◌≡◌ {A = ℕ} 0 1 = cc in absurd (omega arith)
          by false f k = large (n * 10 + m) (drop (i + 1) w) (leb-false (n * 10 + m) most f) ∙ ap (up_to most) (sym digit_next)

    pub digits_end : length w ≤ i → n ≤ most → some n ≡ up_to most (value n (drop i w))
    unfolding value
    digits_end h k = up_to_within n k ∙ ap (up_to most) (ap (value n) (sym (drop_of_length-le w h)))

-- what is not above m is kept
pub up_to_some : (most n m : ℕ) → some m ≡ up_to most (some n) → (m ≡ n) × (n ≤ most)
unfolding up_to
up_to_some most n m = by (leb n most) refl
  where
    by : (z : Bool) → leb n most ≡ z → some m ≡ elim z as (λ x. Option ℕ) [ true ↦ some n | false ↦ none ] → (m ≡ n) × (n ≤ most)
    by true f e = (cc, leb-true n most f)
    by false f e = let z : ◌≡◌ {A = ℕ} 0 1 = cc in absurd (omega arith)

-- ---- times

unit_capped : (m : ℕ) (s : List ℕ) → capped (unit m s) ≡ capped (unit (min most m) s)
unfolding unit
unit_capped m [] = refl
unit_capped m (b ∷ s) = by (digit b) (same (b ∷ s) (bytes "ns")) (same (b ∷ s) (bytes "ps")) (λ k. unit_capped k s)
  where
    by : (x y z : Bool) → ((k : ℕ) → capped (unit k s) ≡ capped (unit (min most k) s))
        → capped (elim x [
          | true ↦ unit (m * 10 + (b - 48)) s
          | false ↦ elim y [ true ↦ some (m * 1000) | false ↦ elim z [ true ↦ some m | false ↦ none ] ]
        ])
        ≡ capped (elim x [
          | true ↦ unit (min most m * 10 + (b - 48)) s
          | false ↦ elim y [ true ↦ some (min most m * 1000) | false ↦ elim z [ true ↦ some (min most m) | false ↦ none ] ]
        ])
    by true y z ih =
        let e : min most (m * 10 + (b - 48)) ≡ min most (min most m * 10 + (b - 48)) = omega arith in
        ih (m * 10 + (b - 48)) ∙ ap (λ (x : ℕ). capped (unit x s)) e ∙ sym (ih (min most m * 10 + (b - 48)))
    by false true z ih = ap some (omega arith)
    by false false true ih = ap some (omega arith)
    by false false false ih = refl

module _ (w : List ℕ) (n i : ℕ) where
  pub unit_next : {r : ℕ} → i < length w → digit (get_or w i 0) ≡ true → r ≡ min most (n * 10 + (get_or w i 0 - 48))
      → capped (unit n (drop i w)) ≡ capped (unit r (drop (i + 1) w))
  unfolding unit
  unit_next {r} h d e =
      (rw (cut w i h) (rw (d, unit) (unit_capped (n * 10 + (get_or w i 0 - 48)) (drop (i + 1) w))))
      ∙ ap (λ (x : ℕ). capped (unit x (drop (i + 1) w))) (sym e)

  pub unit_end : length w ≤ i → capped (unit n (drop i w)) ≡ none
  unfolding unit
  unit_end h = rw (drop_of_length-le w h)

module _ (m : ℕ) (u : List ℕ) where
  pub unit_ps : same u (bytes "ps") ≡ true → unit m u ≡ some m
  unfolding unit digit between same bytes
  unit_ps h = rw (same_eq u (bytes "ps") h)

  pub unit_ns : same u (bytes "ns") ≡ true → unit m u ≡ some (m * 1000)
  unfolding unit digit between same bytes
  unit_ns h = rw (same_eq u (bytes "ns") h)

pub unit_other : (m : ℕ) (u : List ℕ) → digit (get_or u 0 0) ≡ false → same u (bytes "ps") ≡ false → same u (bytes "ns") ≡ false → unit m u ≡ none
unfolding unit
unit_other m [] d p n = refl
unit_other m (b ∷ s) d p n = rw (d, n, p, unit)

pub time_some : (w : List ℕ) → digit (get_or w 0 0) ≡ true → picoseconds w ≡ unit 0 w
unfolding picoseconds unit
time_some [] d = refl
time_some (b ∷ s) d = rw (d, picoseconds)

pub time_none : (w : List ℕ) (i : ℕ) → i ≡ 0 → digit (get_or w i 0) ≡ false → picoseconds w ≡ none
unfolding picoseconds
time_none [] i e d = refl
time_none (b ∷ s) i e d = rw (rw e at d, picoseconds)

pub first_digit : (w : List ℕ) (i : ℕ) → (0 < i → digit (get_or w 0 0) ≡ true) → digit (get_or w i 0) ≡ true → digit (get_or w 0 0) ≡ true
first_digit w zero h d = d
first_digit w (suc i) h d = h (omega arith)

pub time_unit : (w : List ℕ) (n i : ℕ) {o : Option ℕ} → digit (get_or w 0 0) ≡ true → capped (unit 0 w) ≡ capped (unit n (drop i w))
    → o ≡ capped (unit n (take (length w - i) (drop i w))) → o ≡ capped (picoseconds w)
time_unit w n i d e f = f ∙ ap (λ (u : List ℕ). capped (unit n u)) (rest w i) ∙ sym (ap capped (time_some w d) ∙ e)

pub time_end : (w : List ℕ) (n i : ℕ) → (0 < i → digit (get_or w 0 0) ≡ true) → length w ≤ i → capped (unit 0 w) ≡ capped (unit n (drop i w))
    → capped (picoseconds w) ≡ none
unfolding picoseconds
time_end [] n i h k e = refl
time_end (b ∷ s) n i h k e = ap capped (time_some (b ∷ s) (h (omega arith))) ∙ e ∙ unit_end (b ∷ s) n i k

-- ---- numbers within bounds

same_test : (lo hi n m : ℕ) → hi < most → n ≡ min most m → (leb lo n && leb n hi) ≡ (leb lo m && leb m hi)
same_test lo hi n m h e = by (leb m hi) refl
  where
    by : (z : Bool) → leb m hi ≡ z → (leb lo n && leb n hi) ≡ (leb lo m && leb m hi)
    by true k = let q : n ≡ m = omega (arith, leb-true m hi k) in rw q
    by false k =
        let b : hi < n = omega (arith, leb-false m hi k) in
        rw (lt-leb n hi b, k) (and-false (leb lo n) ∙ sym (and-false (leb lo m)))

-- the code tests what it has of the number, or knows that it has none
pub within_none : {text : List ℕ} {c r : Cursor} {p : ℕ} (lo hi n : ℕ) (o : Option ℕ) → Checked c true bad_number p r → none ≡ capped o
    → Goes text c (within lo hi o p) r n
unfolding within ◌>>=◌ after
within_none lo hi n none k e = refused_by k refl
within_none lo hi n (some m) k e = let z : ◌≡◌ {A = ℕ} 0 1 = cc in absurd (omega arith)

pub within_some : {text : List ℕ} {c r : Cursor} {p : ℕ} (lo hi n : ℕ) → hi < most → (o : Option ℕ) → Checked c (not (leb lo n && leb n hi)) bad_number p r
    → some n ≡ capped o → Goes text c (within lo hi o p) r n
unfolding within ◌>>=◌ after refuse_if give
within_some lo hi n h none k e = let z : ◌≡◌ {A = ℕ} 0 1 = cc in absurd (omega arith)
within_some {text} {c} {r} {p} lo hi n h (some m) k e =
    let q : n ≡ min most m = cc in
    by q (leb lo m && leb m hi) refl (rw (same_test lo hi n m h q) at k)
  where
    right : (x y : Bool) → (x && y) ≡ true → y ≡ true
    right true y h = h
    right false y h = let z : ◌≡◌ {A = ℕ} 0 1 = cc in absurd (omega arith)

    by : n ≡ min most m → (z : Bool) → (leb lo m && leb m hi) ≡ z → Checked c (not z) bad_number p r
        → Goes {A = ℕ} text c (λ ts. elim z [ true ↦ ok m ts | false ↦ refuse bad_number p ]) r n
    by q true t k =
        valued (then (λ u. give m) (checked {q = false} k refl refl) given)
        (λ a. omega (arith, leb-true m hi (right (leb lo m) (leb m hi) t)))
    by q false t k = refused_by k refl
