-- Rows are parted as the request says: THE LAWS of Patterns and of stretches.
use Prim.Native.Nat.{ℕ, suc}
use native.Mathlib.Omega.{arith}
use mathlib.Core.Path.{◌≡◌, refl, ap}
use mathlib.Core.Bool.{Bool, true, false}
use mathlib.Core.List.{List, [], ◌∷◌}
use Rattle.folded.specs.Flat.{Row, same_row, breaks, onto, parted, Stretch, longer, stretches}
use Rattle.folded.specs.Shapes.{concat, Steady, Begins, Border, Parted, expand, Longest}
use Rattle.folded.proofs.Stretches.{parted_rows, steady_joined, stretched_rows}

-- ---- Patterns

begins_on : (x : Row) (p : List Row) → breaks x p ≡ false → Begins p → Begins (x ∷ p)
begins_on x p e b = steady_joined x p e b

-- a row before a Pattern that goes on
border_on : (x : Row) (p q : List Row) → Border p q → Border (x ∷ p) q
border_on x p q b = record {
  front = x ∷ b.front;
  last = b.last;
  first = b.first;
  back = b.back;
  one = ap (λ (l : List Row). x ∷ l) b.one;
  other = b.other;
  lost = b.lost;
}

-- a row alone before one that loses a value
border_new : (x : Row) (p : List Row) → breaks x p ≡ true → Border (x ∷ []) p
unfolding breaks
border_new x [] e = absurd (let z : ◌≡◌ {A = ℕ} 0 1 = cc in omega arith)
border_new x (y ∷ p) e = record { front = []; last = x; first = y; back = p; one = refl; other = refl; lost = e }

parted_on : (x : Row) (p : List Row) (ps : List (List Row)) → breaks x p ≡ false → Parted (p ∷ ps) → Parted ((x ∷ p) ∷ ps)
unfolding Parted
parted_on x p [] e h = begins_on x p e h
parted_on x p (q ∷ ps) e h = (begins_on x p e h.0, border_on x p q h.1, h.2)

onto_parted : (x : Row) (ps : List (List Row)) → Parted ps → Parted (onto x ps)
unfolding onto Parted Steady
onto_parted x [] h = absurd h
onto_parted x (p ∷ ps) h = by (breaks x p) refl
  where
    by : (b : Bool) → breaks x p ≡ b → Parted (elim b as (λ c. List (List Row)) [ true ↦ (x ∷ []) ∷ p ∷ ps | false ↦ (x ∷ p) ∷ ps ])
    by true e = (tt, border_new x p e, h)
    by false e = parted_on x p ps e h

parted_so : (l : List Row) → Parted (parted l)
unfolding parted Parted
parted_so [] = tt
parted_so (x ∷ l) = onto_parted x (parted l) (parted_so l)

-- THE LAW: a listed pattern's Patterns are its rows; one begins with it and wherever a pin loses its value, and nowhere else
pub patterns_parted : (l : List Row) → Parted (parted l) × (concat (parted l) ≡ l)
patterns_parted l = (parted_so l, parted_rows l)

-- ---- stretches

longer_longest : (x : Row) (ys : List Stretch) → Longest ys → Longest (longer x ys)
unfolding longer Longest
longer_longest x [] h = omega arith
longer_longest x (y ∷ []) h = by (same_row x y.0) refl
  where
    by : (b : Bool) → same_row x y.0 ≡ b → Longest (elim b as (λ c. List Stretch) [ true ↦ (y.0, suc y.1) ∷ [] | false ↦ (x, 1) ∷ y ∷ [] ])
    by true e = omega arith
    by false e = (omega arith, e, h)
longer_longest x (y ∷ z ∷ ys) h = by (same_row x y.0) refl
  where
    by : (b : Bool) → same_row x y.0 ≡ b → Longest (elim b as (λ c. List Stretch) [ true ↦ (y.0, suc y.1) ∷ z ∷ ys | false ↦ (x, 1) ∷ y ∷ z ∷ ys ])
    by true e = (omega arith, h.1, h.2)
    by false e = (omega arith, e, h)

longest_so : (l : List Row) → Longest (stretches l)
unfolding stretches Longest
longest_so [] = tt
longest_so (x ∷ l) = longer_longest x (stretches l) (longest_so l)

-- THE LAW: a Pattern's stretches are its rows, and none could be longer
pub stretches_longest : (l : List Row) → Longest (stretches l) × (expand (stretches l) ≡ l)
stretches_longest l = (longest_so l, stretched_rows l)
