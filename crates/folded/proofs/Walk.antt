-- Folding row by row from the left writes what the definition says, which parts the rows from the right.
use Prim.Native.Nat.{ℕ, suc, ◌+◌}
use native.Mathlib.Omega.{arith}
use mathlib.Core.Path.{◌≡◌, refl, sym, ap, ap₂, ◌∙◌, subst, fun_ext}
use mathlib.Core.Bool.{Bool, true, false}
use mathlib.Core.Option.{Option, none, some}
use mathlib.Core.List.{List, [], ◌∷◌, ◌++◌}
use lib.Dec.{eqb}
use lib.ListN.{length, length-append}
use borrow.Author.Tests.{eq-eqb}
use Rattle.folded.specs.Pieces.{Piece, each}
use Rattle.folded.specs.Flat.{Row, same_row, loses, breaks, onto, parted, parted_all, Stretch, longer, stretches, Line, chooses, repeats, valued, choosing, lines_from, lines_of}
use Rattle.folded.specs.Layout.{line_put, pattern_put, named_from}
use Rattle.folded.specs.Walk.{opened, closed, flushed, rest, walked, walked_all, begun, begun_all}
use Rattle.words.proofs.Words.{same_self}
use Rattle.folded.proofs.Stretches.{row_is}

-- ---- a row that came c times, before stretches

unfoldable grow : Row → ℕ → List Stretch → List Stretch
grow x c [] = (x, c) ∷ []
grow x c (y ∷ ys) = elim (same_row x y.0) [ true ↦ (y.0, c + y.1) ∷ ys | false ↦ (x, c) ∷ y ∷ ys ]

longer_grow : (x : Row) (ys : List Stretch) → longer x ys ≡ grow x 1 ys
unfolding longer grow
longer_grow x [] = refl
longer_grow x (y ∷ ys) =
    let k : suc y.1 ≡ 1 + y.1 = omega arith in
    ap (λ (n : ℕ). elim (same_row x y.0) as (λ c. List Stretch) [ true ↦ (y.0, n) ∷ ys | false ↦ (x, 1) ∷ y ∷ ys ]) k

row_self : (x : Row) → same_row x x ≡ true
unfolding same_row
row_self x = rw (eq-eqb x.table x.table refl, same_self x.pins)

-- before a stretch of the same row, and of another
grow_on : (x : Row) (c : ℕ) (y : Stretch) (ys : List Stretch) → same_row x y.0 ≡ true → grow x c (y ∷ ys) ≡ (y.0, c + y.1) ∷ ys
unfolding grow
grow_on x c y ys e = ap (λ (b : Bool). elim b as (λ c. List Stretch) [ true ↦ (y.0, c + y.1) ∷ ys | false ↦ (x, c) ∷ y ∷ ys ]) e

grow_new : (x : Row) (c : ℕ) (y : Stretch) (ys : List Stretch) → same_row x y.0 ≡ false → grow x c (y ∷ ys) ≡ (x, c) ∷ y ∷ ys
unfolding grow
grow_new x c y ys e = ap (λ (b : Bool). elim b as (λ c. List Stretch) [ true ↦ (y.0, c + y.1) ∷ ys | false ↦ (x, c) ∷ y ∷ ys ]) e

-- once more the same row
grow_same : (x : Row) (c : ℕ) (ys : List Stretch) → grow x c (grow x 1 ys) ≡ grow x (suc c) ys
unfolding grow
grow_same x c [] = let k : c + 1 ≡ suc c = omega arith in grow_on x c (x, 1) [] (row_self x) ∙ ap (λ (n : ℕ). (x, n) ∷ []) k
grow_same x c (y ∷ ys) = by (same_row x y.0) refl
  where
    by : (b : Bool) → same_row x y.0 ≡ b
        → grow x c (elim b as (λ c. List Stretch) [ true ↦ (y.0, 1 + y.1) ∷ ys | false ↦ (x, 1) ∷ y ∷ ys ])
        ≡ elim b as (λ c. List Stretch) [ true ↦ (y.0, suc c + y.1) ∷ ys | false ↦ (x, suc c) ∷ y ∷ ys ]
    by true e = let k : c + (1 + y.1) ≡ suc c + y.1 = omega arith in grow_on x c (y.0, 1 + y.1) ys e ∙ ap (λ (n : ℕ). (y.0, n) ∷ ys) k
    by false e = let k : c + 1 ≡ suc c = omega arith in grow_on x c (x, 1) (y ∷ ys) (row_self x) ∙ ap (λ (n : ℕ). (x, n) ∷ y ∷ ys) k

-- another row
grow_other : (x y : Row) (c : ℕ) (ys : List Stretch) → same_row x y ≡ false → grow x c (grow y 1 ys) ≡ (x, c) ∷ grow y 1 ys
unfolding grow
grow_other x y c [] e = grow_new x c (y, 1) [] e
grow_other x y c (z ∷ ys) e = by (same_row y z.0) refl
  where
    by : (b : Bool) → same_row y z.0 ≡ b
        → grow x c (elim b as (λ c. List Stretch) [ true ↦ (z.0, 1 + z.1) ∷ ys | false ↦ (y, 1) ∷ z ∷ ys ])
        ≡ (x, c) ∷ elim b as (λ c. List Stretch) [ true ↦ (z.0, 1 + z.1) ∷ ys | false ↦ (y, 1) ∷ z ∷ ys ]
    by true q = grow_new x c (z.0, 1 + z.1) ys (subst (λ (w : Row). same_row x w ≡ false) (row_is y z.0 q) e)
    by false q = grow_new x c (y, 1) (z ∷ ys) e

module _ (signals tables : List (List ℕ)) where
  abbrev lay : List Line → List Piece → List Piece
  lay = each (line_put signals tables)

  -- ---- Patterns from number i on, and then what stands behind

  unfoldable pub laid_from : ℕ → List (List Row) → (ℕ → List Piece) → List Piece
  laid_from i [] behind = behind i
  laid_from i (p ∷ ps) behind = opened i (each (line_put signals tables) (lines_from none (stretches p)) (closed (laid_from (suc i) ps behind)))

  laid-++ : (i : ℕ) (ps qs : List (List Row)) (behind : ℕ → List Piece) → laid_from i (ps ++ qs) behind ≡ laid_from i ps (λ j. laid_from j qs behind)
  unfolding laid_from
  laid-++ i [] qs behind = refl
  laid-++ i (p ∷ ps) qs behind = ap (λ (k : List Piece). opened i (each (line_put signals tables) (lines_from none (stretches p)) (closed k))) (laid-++ (suc i) ps qs behind)

  -- as the definition lays them
  pub laid_is : (i : ℕ) (ps : List (List Row)) (behind : List Piece) → each (pattern_put signals tables) (named_from i (lines_of ps)) behind ≡ laid_from i ps (λ j. behind)
  unfolding each named_from lines_of laid_from pattern_put opened closed
  laid_is i [] behind = refl
  laid_is i (p ∷ ps) behind = ap (λ (k : List Piece). opened i (each (line_put signals tables) (lines_from none (stretches p)) (closed k))) (laid_is (suc i) ps behind)

  -- ---- the row in hand

  each_choosing : (t : Option ℕ) (k : ℕ) (l : Line) (ls : List Line) (behind : List Piece) → lay (choosing t k (l ∷ ls)) behind ≡ lay (choosing t k (l ∷ [])) (lay ls behind)
  unfolding each choosing
  each_choosing none k l ls behind = refl
  each_choosing (some j) k l ls behind = by (eqb j k)
    where
      by : (b : Bool) → lay (elim b as (λ c. List Line) [ true ↦ l ∷ ls | false ↦ chooses k ∷ l ∷ ls ]) behind ≡ lay (elim b as (λ c. List Line) [ true ↦ l ∷ [] | false ↦ chooses k ∷ l ∷ [] ]) (lay ls behind)
      by true = refl
      by false = refl

  flush_first : (t : Option ℕ) (x : Row) (c : ℕ) (ys : List Stretch) (behind : List Piece)
      → lay (lines_from t ((x, c) ∷ ys)) behind ≡ flushed signals tables t x c (lay (lines_from (some x.table) ys) behind)
  unfolding lines_from flushed
  flush_first t x c ys behind = each_choosing t x.table (repeats c (valued 0 x.pins)) (lines_from (some x.table) ys) behind

  flush_last : (t : Option ℕ) (x : Row) (c : ℕ) (behind : List Piece) → lay (lines_from t ((x, c) ∷ [])) behind ≡ flushed signals tables t x c behind
  unfolding lines_from flushed each
  flush_last t x c behind = refl

  -- ---- one listed pattern

  -- its first Pattern and the others; and what is left to write, whatever is in force and however often its first row came
  record Split (x : Row) (xs : List Row) : Type 0 where
    pub first : List Row
    pub others : List (List Row)
    pub is : parted (x ∷ xs) ≡ (x ∷ first) ∷ others
    pub goes : (i : ℕ) (t : Option ℕ) (c : ℕ) (behind : ℕ → List Piece)
        → rest signals tables i t x c xs behind ≡ lay (lines_from t (grow x c (stretches first))) (closed (laid_from (suc i) others behind))

  last_row : (x : Row) → Split x []
  unfolding parted onto breaks rest stretches grow laid_from
  last_row x = record { first = []; others = []; is = refl; goes = λ i t c behind. sym (flush_last t x c (closed (behind (suc i)))) }

  module _ (x y : Row) (ys : List Row) (s : Split y ys) where
    -- the Patterns of one row more
    parted_next : {b : Bool} → loses x.pins y.pins ≡ b
        → parted (x ∷ y ∷ ys) ≡ elim b as (λ c. List (List Row)) [ true ↦ (x ∷ []) ∷ (y ∷ s.first) ∷ s.others | false ↦ (x ∷ y ∷ s.first) ∷ s.others ]
    unfolding parted onto breaks
    parted_next e =
        ap (onto x) s.is
        ∙ ap (λ (b : Bool). elim b as (λ c. List (List Row)) [ true ↦ (x ∷ []) ∷ (y ∷ s.first) ∷ s.others | false ↦ (x ∷ y ∷ s.first) ∷ s.others ]) e

    -- the stretches of one row more
    stretches_next : stretches (y ∷ s.first) ≡ grow y 1 (stretches s.first)
    unfolding stretches
    stretches_next = longer_grow y (stretches s.first)

    -- what is left to write, by the two tests
    rest_next : (i : ℕ) (t : Option ℕ) (c : ℕ) (behind : ℕ → List Piece) {a b : Bool} → loses x.pins y.pins ≡ a → same_row x y ≡ b
        → rest signals tables i t x c (y ∷ ys) behind ≡ elim a as (λ z. List Piece) [
          | true ↦ flushed signals tables t x c (closed (opened (suc i) (rest signals tables (suc i) none y 1 ys behind)))
          | false ↦ elim b as (λ z. List Piece) [
            | true ↦ rest signals tables i t x (suc c) ys behind
            | false ↦ flushed signals tables t x c (rest signals tables i (some x.table) y 1 ys behind)
          ]
        ]
    unfolding rest
    rest_next i t c behind e f =
        ap₂ (λ (a b : Bool). elim a as (λ z. List Piece) [
          | true ↦ flushed signals tables t x c (closed (opened (suc i) (rest signals tables (suc i) none y 1 ys behind)))
          | false ↦ elim b as (λ z. List Piece) [
            | true ↦ rest signals tables i t x (suc c) ys behind
            | false ↦ flushed signals tables t x c (rest signals tables i (some x.table) y 1 ys behind)
          ]
        ]) e f

    loses_so : loses x.pins y.pins ≡ true → Split x (y ∷ ys)
    unfolding laid_from stretches grow
    loses_so e = record {
      first = [];
      others = (y ∷ s.first) ∷ s.others;
      is = parted_next e;
      goes = λ i t c behind. (
          rest_next i t c behind e refl
          ∙ ap (λ (k : List Piece). flushed signals tables t x c (closed (opened (suc i) k))) (s.goes (suc i) none 1 behind)
          ∙ ap (λ (l : List Stretch). flushed signals tables t x c (closed (opened (suc i) (lay (lines_from none l) (closed (laid_from (suc (suc i)) s.others behind)))))) (sym stretches_next)
          ∙ sym (flush_last t x c _));
    }

    same_so : loses x.pins y.pins ≡ false → same_row x y ≡ true → Split x (y ∷ ys)
    same_so e f = record {
      first = y ∷ s.first;
      others = s.others;
      is = parted_next e;
      goes = λ i t c behind. (
          let k : grow y (suc c) (stretches s.first) ≡ grow x c (stretches (y ∷ s.first)) =
          sym (grow_same y c (stretches s.first)) ∙ ap (grow y c) (sym stretches_next) ∙ ap (λ (z : Row). grow z c (stretches (y ∷ s.first))) (sym (row_is x y f)) in
          rest_next i t c behind e f
          ∙ ap (λ (z : Row). rest signals tables i t z (suc c) ys behind) (row_is x y f)
          ∙ s.goes i t (suc c) behind
          ∙ ap (λ (l : List Stretch). lay (lines_from t l) (closed (laid_from (suc i) s.others behind))) k);
    }

    other_so : loses x.pins y.pins ≡ false → same_row x y ≡ false → Split x (y ∷ ys)
    other_so e f = record {
      first = y ∷ s.first;
      others = s.others;
      is = parted_next e;
      goes = λ i t c behind. (
          let more = closed (laid_from (suc i) s.others behind) in
          let k : (x, c) ∷ grow y 1 (stretches s.first) ≡ grow x c (stretches (y ∷ s.first)) =
          sym (grow_other x y c (stretches s.first) f) ∙ ap (grow x c) (sym stretches_next) in
          rest_next i t c behind e f
          ∙ ap (flushed signals tables t x c) (s.goes i (some x.table) 1 behind)
          ∙ sym (flush_first t x c (grow y 1 (stretches s.first)) more)
          ∙ ap (λ (l : List Stretch). lay (lines_from t l) more) k);
    }

  next_row : (x y : Row) (ys : List Row) → Split y ys → Split x (y ∷ ys)
  next_row x y ys s = by (loses x.pins y.pins) refl (same_row x y) refl
    where
      by : (a : Bool) → loses x.pins y.pins ≡ a → (b : Bool) → same_row x y ≡ b → Split x (y ∷ ys)
      by true p b q = loses_so x y ys s p
      by false p true q = same_so x y ys s p q
      by false p false q = other_so x y ys s p q

  split : (xs : List Row) (x : Row) → Split x xs
  split [] x = last_row x
  split (y ∷ ys) x = next_row x y ys (split ys y)

  -- THE LAW: row by row a listed pattern is written as its Patterns
  pub walked_is : (i : ℕ) (l : List Row) (behind : ℕ → List Piece) → walked signals tables i l behind ≡ laid_from i (parted l) behind
  unfolding walked laid_from parted stretches lines_from each
  walked_is i [] behind = refl
  walked_is i (x ∷ xs) behind =
      let s = split xs x in
      ap (opened i) (s.goes i none 1 behind ∙ ap (λ (l : List Stretch). lay (lines_from none l) (closed (laid_from (suc i) s.others behind))) (sym (longer_grow x (stretches s.first))))
      ∙ ap (λ (ps : List (List Row)). laid_from i ps behind) (sym s.is)

  walked_parted : (i : ℕ) (ls : List (List Row)) (behind : List Piece) → walked_all signals tables i ls behind ≡ laid_from i (parted_all ls) (λ j. behind)
  unfolding walked_all parted_all laid_from
  walked_parted i [] behind = refl
  walked_parted i (l ∷ ls) behind =
      walked_is i l (λ j. walked_all signals tables j ls behind) ∙ ap (laid_from i (parted l)) (fun_ext λ j. walked_parted j ls behind)
      ∙ sym (laid-++ i (parted l) (parted_all ls) (λ j. behind))

  -- THE LAW: so all listed patterns are written as the definition says
  pub walked_all_lem : (i : ℕ) (ls : List (List Row)) (behind : List Piece) → walked_all signals tables i ls behind ≡ each (pattern_put signals tables) (named_from i (lines_of (parted_all ls))) behind
  walked_all_lem i ls behind = walked_parted i ls behind ∙ sym (laid_is i (parted_all ls) behind)

-- ---- how many Patterns there are

-- a row more, before Patterns of which the first begins with y
onto_begun : (x y : Row) (p : List Row) (ps : List (List Row)) (n : ℕ) → length ((y ∷ p) ∷ ps) ≡ suc n
    → length (onto x ((y ∷ p) ∷ ps)) ≡ suc (elim (loses x.pins y.pins) [ true ↦ suc n | false ↦ n ])
unfolding onto breaks
onto_begun x y p ps n e = by (loses x.pins y.pins)
  where
    by : (b : Bool) → length {A = List Row} (elim b as (λ c. List (List Row)) [ true ↦ (x ∷ []) ∷ (y ∷ p) ∷ ps | false ↦ (x ∷ y ∷ p) ∷ ps ]) ≡ suc (elim b as (λ c. ℕ) [ true ↦ suc n | false ↦ n ])
    by true = ap suc e
    by false = e

begun_one : (x : Row) (xs : List Row) → length (parted (x ∷ xs)) ≡ suc (begun x xs)
unfolding begun parted onto breaks
begun_one x [] = refl
begun_one x (y ∷ ys) =
    let s = split [] [] ys y in
    ap (λ (ps : List (List Row)). length (onto x ps)) s.is ∙ onto_begun x y s.first s.others (begun y ys) (ap length (sym s.is) ∙ begun_one y ys)

-- THE LAW
pub begun_all_lem : (ls : List (List Row)) → length (parted_all ls) ≡ begun_all ls
unfolding parted_all begun_all parted
begun_all_lem [] = refl
begun_all_lem ([] ∷ ls) = ap suc (begun_all_lem ls)
begun_all_lem ((x ∷ xs) ∷ ls) = length-append (parted (x ∷ xs)) (parted_all ls) ∙ ap₂ (λ (a b : ℕ). a + b) (begun_one x xs) (begun_all_lem ls)
