-- Overwriting with spaces: which bytes change, and that fewer are left that are no spaces.
use Prim.Native.Nat.{ℕ, zero, suc, ◌+◌, ◌≤◌, ◌<◌}
use native.Mathlib.Omega.{arith}
use native.Mathlib.Numerals.{add-one}
use mathlib.Core.Path.{◌≡◌, refl, ap}
use mathlib.Core.Bool.{Bool, true, false, ◌&&◌}
use mathlib.Core.List.{List, [], ◌∷◌}
use lib.Dec.{eqb, ltb}
use lib.ListN.{length, get_or, set}
use borrow.Author.Tests.{eqb-true, ltb-false}
use Rattle.saving.specs.Saving.{spaced}

pub spaced_length : (a e : ℕ) (s : List ℕ) → length (spaced a e s) ≡ length s
unfolding spaced
spaced_length a e [] = refl
spaced_length a zero (b ∷ s) = refl
spaced_length zero (suc e) (b ∷ s) = ap suc (spaced_length zero e s)
spaced_length (suc a) (suc e) (b ∷ s) = ap suc (spaced_length a e s)

-- ---- byte by byte

pub spaced_inside : (a e i : ℕ) (s : List ℕ) → a ≤ i → i < e → i < length s → get_or (spaced a e s) i 0 ≡ 32
unfolding spaced
spaced_inside a e i [] h j k = absurd (omega arith)
spaced_inside a zero i (b ∷ s) h j k = absurd (omega arith)
spaced_inside zero (suc e) zero (b ∷ s) h j k = refl
spaced_inside zero (suc e) (suc i) (b ∷ s) h j k = spaced_inside zero e i s (omega arith) (omega arith) (omega arith)
spaced_inside (suc a) (suc e) zero (b ∷ s) h j k = absurd (omega arith)
spaced_inside (suc a) (suc e) (suc i) (b ∷ s) h j k = spaced_inside a e i s (omega arith) (omega arith) (omega arith)

pub spaced_before : (a e i : ℕ) (s : List ℕ) → i < a → get_or (spaced a e s) i 0 ≡ get_or s i 0
unfolding spaced
spaced_before a e i [] h = refl
spaced_before a zero i (b ∷ s) h = refl
spaced_before zero (suc e) i (b ∷ s) h = absurd (omega arith)
spaced_before (suc a) (suc e) zero (b ∷ s) h = refl
spaced_before (suc a) (suc e) (suc i) (b ∷ s) h = spaced_before a e i s (omega arith)

pub spaced_behind : (a e i : ℕ) (s : List ℕ) → e ≤ i → get_or (spaced a e s) i 0 ≡ get_or s i 0
unfolding spaced
spaced_behind a e i [] h = refl
spaced_behind a zero i (b ∷ s) h = refl
spaced_behind zero (suc e) zero (b ∷ s) h = absurd (omega arith)
spaced_behind zero (suc e) (suc i) (b ∷ s) h = spaced_behind zero e i s (omega arith)
spaced_behind (suc a) (suc e) zero (b ∷ s) h = absurd (omega arith)
spaced_behind (suc a) (suc e) (suc i) (b ∷ s) h = spaced_behind a e i s (omega arith)

-- ---- one byte at a time

pub spaced_on : (a e : ℕ) (s : List ℕ) → a < e → spaced a e s ≡ spaced (suc a) e (set s a 32)
unfolding spaced
spaced_on a e [] h = refl
spaced_on a zero (b ∷ s) h = absurd (omega arith)
spaced_on zero (suc e) (b ∷ s) h = refl
spaced_on (suc a) (suc e) (b ∷ s) h = ap (λ (l : List ℕ). b ∷ l) (spaced_on a e s (omega arith))

pub spaced_done : (a e : ℕ) (s : List ℕ) → e ≤ a → spaced a e s ≡ s
unfolding spaced
spaced_done a e [] h = refl
spaced_done a zero (b ∷ s) h = refl
spaced_done zero (suc e) (b ∷ s) h = absurd (omega arith)
spaced_done (suc a) (suc e) (b ∷ s) h = ap (λ (l : List ℕ). b ∷ l) (spaced_done a e s (omega arith))

pub spaced_past : (a e : ℕ) (s : List ℕ) → length s ≤ a → spaced a e s ≡ s
unfolding spaced
spaced_past a e [] h = refl
spaced_past a zero (b ∷ s) h = refl
spaced_past zero (suc e) (b ∷ s) h = absurd (omega arith)
spaced_past (suc a) (suc e) (b ∷ s) h = ap (λ (l : List ℕ). b ∷ l) (spaced_past a e s (omega arith))

-- as the code goes on, and stops
pub spaced_step : (i e : ℕ) (s : List ℕ) → i < e → spaced i e s ≡ spaced (i + 1) e (set s i 32)
spaced_step i e s h = rw add-one (spaced_on i e s h)

pub spaced_end : (i e : ℕ) (s : List ℕ) → (ltb i e && ltb i (length s)) ≡ false → spaced i e s ≡ s
spaced_end i e s h = by (ltb i e) (ltb i (length s)) refl refl h
  where
    by : (x y : Bool) → ltb i e ≡ x → ltb i (length s) ≡ y → (x && y) ≡ false → spaced i e s ≡ s
    by false y p q h = spaced_done i e s (ltb-false i e p)
    by true false p q h = spaced_past i e s (ltb-false i (length s) q)
    by true true p q h = let z : ◌≡◌ {A = ℕ} 0 1 = cc in absurd (omega arith)

-- ---- how many bytes are no spaces

abbrev one_more_lem : Bool → ℕ → ℕ
one_more_lem true n = n
one_more_lem false n = suc n

unfoldable pub inked : List ℕ → ℕ
inked [] = 0
inked (b ∷ s) = one_more_lem (eqb b 32) (inked s)

pub inked_most : (s : List ℕ) → inked s ≤ length s
unfolding inked
inked_most [] = omega arith
inked_most (b ∷ s) = by (eqb b 32) (inked_most s)
  where
    by : (t : Bool) → inked s ≤ length s → one_more_lem t (inked s) ≤ suc (length s)
    by true h = omega arith
    by false h = omega arith

spaced_none : (a e : ℕ) (s : List ℕ) → inked (spaced a e s) ≤ inked s
unfolding spaced inked
spaced_none a e [] = omega arith
spaced_none a zero (b ∷ s) = omega arith
spaced_none zero (suc e) (b ∷ s) = by (eqb b 32) (spaced_none zero e s)
  where
    by : (t : Bool) → inked (spaced zero e s) ≤ inked s → inked (spaced zero e s) ≤ one_more_lem t (inked s)
    by true h = h
    by false h = omega arith
spaced_none (suc a) (suc e) (b ∷ s) = by (eqb b 32) (spaced_none a e s)
  where
    by : (t : Bool) → inked (spaced a e s) ≤ inked s → one_more_lem t (inked (spaced a e s)) ≤ one_more_lem t (inked s)
    by true h = h
    by false h = omega arith

-- THE LAW: a span that begins with none has fewer afterwards
pub spaced_fewer : (a e : ℕ) (s : List ℕ) → a < e → a < length s → (get_or s a 0 ≡ 32 → ⊥) → inked (spaced a e s) < inked s
unfolding spaced inked
spaced_fewer a e [] h k n = absurd (omega arith)
spaced_fewer a zero (b ∷ s) h k n = absurd (omega arith)
spaced_fewer zero (suc e) (b ∷ s) h k n = by (eqb b 32) refl (spaced_none zero e s)
  where
    by : (t : Bool) → eqb b 32 ≡ t → inked (spaced zero e s) ≤ inked s → inked (spaced zero e s) < one_more_lem t (inked s)
    by true q h = absurd (n (eqb-true b 32 q))
    by false q h = omega arith
spaced_fewer (suc a) (suc e) (b ∷ s) h k n = by (eqb b 32) (spaced_fewer a e s (omega arith) (omega arith) n)
  where
    by : (t : Bool) → inked (spaced a e s) < inked s → one_more_lem t (inked (spaced a e s)) < one_more_lem t (inked s)
    by true h = h
    by false h = omega arith
