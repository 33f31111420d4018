-- Patterns and stretches of rows: together they are the rows; and within a Pattern no pin loses its value.
use Prim.Native.Nat.{ℕ, zero, suc, ◌≤◌}
use native.Mathlib.Omega.{arith}
use mathlib.Core.Path.{◌≡◌, refl, sym, ap, ap₂, ◌∙◌, subst}
use mathlib.Core.Bool.{Bool, true, false, not, ◌&&◌, ◌||◌}
use mathlib.Core.List.{List, [], ◌∷◌, ◌++◌, append_assoc}
use lib.Dec.{eqb}
use lib.ListN.{length, replicate, length-append, length-replicate}
use borrow.Author.Tests.{eqb-true}
use Rattle.tokens.specs.Written.{same}
use Rattle.meaning.specs.Run.{unassigned}
use Rattle.meaning.proofs.Others.{same_eq}
use Rattle.folded.specs.Flat.{Row, same_row, loses, breaks, onto, parted, parted_all, Stretch, longer, stretches}
use Rattle.folded.specs.Shapes.{concat, Steady, Begins, expand}

-- ---- lists of lists

pub concat-++ : {A : Type 0} (ls ms : List (List A)) → concat (ls ++ ms) ≡ concat ls ++ concat ms
unfolding concat
concat-++ [] ms = refl
concat-++ (l ∷ ls) ms = rw (concat-++ ls ms) (sym (append_assoc l (concat ls) (concat ms)))

abbrev pub All : {A : Type 0} → (A → Type 0) → List A → Type 0
All P [] = Unit {0}
All P (x ∷ xs) = P x × All P xs

pub all-++ : {A : Type 0} (P : A → Type 0) (xs ys : List A) → All P xs → All P ys → All P (xs ++ ys)
all-++ P [] ys h k = k
all-++ P (x ∷ xs) ys h k = (h.0, all-++ P xs ys h.1 k)

pub all_front : {A : Type 0} (P : A → Type 0) (xs ys : List A) → All P (xs ++ ys) → All P xs
all_front P [] ys h = tt
all_front P (x ∷ xs) ys h = (h.0, all_front P xs ys h.1)

pub all_back : {A : Type 0} (P : A → Type 0) (xs ys : List A) → All P (xs ++ ys) → All P ys
all_back P [] ys h = h
all_back P (x ∷ xs) ys h = all_back P xs ys h.1

-- ---- Patterns

-- together they are the rows
onto_rows : (x : Row) (ps : List (List Row)) → concat (onto x ps) ≡ x ∷ concat ps
unfolding onto concat
onto_rows x [] = refl
onto_rows x (p ∷ ps) = by (breaks x p)
  where
    by : (b : Bool) → concat (elim b as (λ c. List (List Row)) [ true ↦ (x ∷ []) ∷ p ∷ ps | false ↦ (x ∷ p) ∷ ps ]) ≡ x ∷ (p ++ concat ps)
    by true = refl
    by false = refl

pub parted_rows : (l : List Row) → concat (parted l) ≡ l
unfolding parted concat
parted_rows [] = refl
parted_rows (x ∷ l) = onto_rows x (parted l) ∙ ap (λ (k : List Row). x ∷ k) (parted_rows l)

pub parted_all_lem : (ls : List (List Row)) → concat (parted_all ls) ≡ concat ls
unfolding parted_all concat
parted_all_lem [] = refl
parted_all_lem (l ∷ ls) = concat-++ (parted l) (parted_all ls) ∙ ap₂ (λ (a b : List Row). a ++ b) (parted_rows l) (parted_all_lem ls)

pub steady_joined : (x : Row) (p : List Row) → breaks x p ≡ false → Begins p → Steady x.pins p
unfolding breaks Steady
steady_joined x [] e b = tt
steady_joined x (y ∷ p) e b = (e, b)

onto_begins : (x : Row) (ps : List (List Row)) → All Begins ps → All Begins (onto x ps)
unfolding onto Steady
onto_begins x [] h = (tt, tt)
onto_begins x (p ∷ ps) h = by (breaks x p) refl
  where
    by : (b : Bool) → breaks x p ≡ b → All Begins (elim b as (λ c. List (List Row)) [ true ↦ (x ∷ []) ∷ p ∷ ps | false ↦ (x ∷ p) ∷ ps ])
    by true e = (tt, h)
    by false e = (steady_joined x p e h.0, h.1)

parted_begins : (l : List Row) → All Begins (parted l)
unfolding parted
parted_begins [] = (tt, tt)
parted_begins (x ∷ l) = onto_begins x (parted l) (parted_begins l)

-- within each Pattern no pin loses its value
pub parted_steady : (ls : List (List Row)) → All Begins (parted_all ls)
unfolding parted_all
parted_steady [] = tt
parted_steady (l ∷ ls) = all-++ Begins (parted l) (parted_all ls) (parted_begins l) (parted_steady ls)

-- unassigned pins lose nothing
pub bare_loses : (n : ℕ) (pins : List ℕ) → loses (replicate n unassigned) pins ≡ false
unfolding loses
bare_loses zero pins = refl
bare_loses (suc n) [] = refl
bare_loses (suc n) (c ∷ pins) = bare_loses n pins

pub begins_steady : (n : ℕ) (p : List Row) → Begins p → Steady (replicate n unassigned) p
unfolding Steady
begins_steady n [] h = tt
begins_steady n (x ∷ p) h = (bare_loses n x.pins, h)

-- nor do equal rows
pub self_loses : (pins : List ℕ) → loses pins pins ≡ false
unfolding loses
self_loses [] = refl
self_loses (c ∷ pins) = by (eqb c unassigned) (self_loses pins)
  where
    by : (b : Bool) → loses pins pins ≡ false → (not b && b || loses pins pins) ≡ false
    by true h = h
    by false h = h

-- ---- stretches

pub row_is : (x y : Row) → same_row x y ≡ true → x ≡ y
unfolding same_row
row_is x y e = by (eqb x.table y.table) refl e
  where
    by : (b : Bool) → eqb x.table y.table ≡ b → (b && same x.pins y.pins) ≡ true → x ≡ y
    by true p q = ap₂ (λ (t : ℕ) (l : List ℕ). record { table = t; pins = l }) (eqb-true x.table y.table p) (same_eq x.pins y.pins q)
    by false p q = absurd (let z : ◌≡◌ {A = ℕ} 0 1 = cc in omega arith)

longer_rows : (x : Row) (ys : List Stretch) → expand (longer x ys) ≡ x ∷ expand ys
unfolding longer expand
longer_rows x [] = refl
longer_rows x (y ∷ ys) = by (same_row x y.0) refl
  where
    by : (b : Bool) → same_row x y.0 ≡ b
        → expand (elim b as (λ c. List Stretch) [ true ↦ (y.0, suc y.1) ∷ ys | false ↦ (x, 1) ∷ y ∷ ys ]) ≡ x ∷ (replicate y.1 y.0 ++ expand ys)
    by true e = ap (λ (z : Row). z ∷ (replicate y.1 y.0 ++ expand ys)) (sym (row_is x y.0 e))
    by false e = refl

-- together they are the rows
pub stretched_rows : (l : List Row) → expand (stretches l) ≡ l
unfolding stretches expand
stretched_rows [] = refl
stretched_rows (x ∷ l) = longer_rows x (stretches l) ∙ ap (λ (k : List Row). x ∷ k) (stretched_rows l)

-- each has a row, and from one to the next no pin loses its value
unfoldable pub Stepping : List ℕ → List Stretch → Type 0
Stepping old [] = Unit {0}
Stepping old (y ∷ ys) = (1 ≤ y.1) × (loses old y.0.pins ≡ false) × Stepping y.0.pins ys

longer_steps : (old : List ℕ) (x : Row) (ys : List Stretch) → loses old x.pins ≡ false → Stepping x.pins ys → Stepping old (longer x ys)
unfolding longer Stepping
longer_steps old x [] h k = (omega arith, h, tt)
longer_steps old x (y ∷ ys) h k = by (same_row x y.0) refl
  where
    by : (b : Bool) → same_row x y.0 ≡ b → Stepping old (elim b as (λ c. List Stretch) [ true ↦ (y.0, suc y.1) ∷ ys | false ↦ (x, 1) ∷ y ∷ ys ])
    by true e = (omega arith, subst (λ (z : Row). loses old z.pins ≡ false) (row_is x y.0 e) h, k.2)
    by false e = (omega arith, h, k)

pub stretches_step : (old : List ℕ) (l : List Row) → Steady old l → Stepping old (stretches l)
unfolding stretches Steady Stepping
stretches_step old [] h = tt
stretches_step old (x ∷ l) h = longer_steps old x (stretches l) h.0 (stretches_step x.pins l h.1)

-- ---- what each row has, each stretch has

module _ (P : Row → Type 0) where
  longer_all : (x : Row) (ys : List Stretch) → P x → All (λ y. P y.0) ys → All (λ y. P y.0) (longer x ys)
  unfolding longer
  longer_all x [] h k = (h, tt)
  longer_all x (y ∷ ys) h k = by (same_row x y.0)
    where
      by : (b : Bool) → All (λ (y : Stretch). P y.0) (elim b as (λ c. List Stretch) [ true ↦ (y.0, suc y.1) ∷ ys | false ↦ (x, 1) ∷ y ∷ ys ])
      by true = (k.0, k.1)
      by false = (h, k)

  pub stretches_all : (l : List Row) → All P l → All (λ y. P y.0) (stretches l)
  unfolding stretches
  stretches_all [] h = tt
  stretches_all (x ∷ l) h = longer_all x (stretches l) h.0 (stretches_all l h.1)

-- no stretch is longer than all rows
pub stretch_short : (m : ℕ) (ys : List Stretch) → length (expand ys) ≤ m → All (λ y. y.1 ≤ m) ys
unfolding expand
stretch_short m [] h = tt
stretch_short m (y ∷ ys) h =
    let l = length-append (replicate y.1 y.0) (expand ys) in
    let r = length-replicate y.1 y.0 in
    (omega arith, stretch_short m ys (omega arith))
