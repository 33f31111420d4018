-- A name's row, read where it lies in the table: how long it is, its numbers, and one turn of a loop over them.
use Prim.Native.Nat.{ℕ, zero, suc, ◌+◌, ◌-◌, ◌*◌, ◌≤◌, ◌<◌, min}
use native.Mathlib.Omega.{arith}
use mathlib.Core.Path.{◌≡◌, refl, sym, ◌∙◌}
use mathlib.Core.Bool.{Bool, true, false}
use mathlib.Core.List.{List, [], ◌∷◌}
use lib.ListN.{length, get_or, take, drop, set, length-take, drop_of_length-le}
use lib.Dec.{leb}
use lib.Seq.{take_all, take-take, get_or-take, get_or-drop}
use borrow.Author.Tests.{leb-true, leb-false}
use Rattle.tokens.proofs.Reading.{cut}
use Rattle.meaning.specs.Bounds.{signals_most}
use Rattle.meaning.specs.Lists.{has, meets}
use Rattle.sets.proofs.Tidy.{TidyBelow, bare, next}
use Rattle.signals.specs.Names.{row_length, list_at}
use Rattle.assigns.specs.Given.{placed}

-- ---- a row

take_min : (m n : ℕ) (l : List ℕ) → take (min m n) l ≡ take m (take n l)
take_min m n l = by (leb m n) refl
  where
    by : (b : Bool) → leb m n ≡ b → take (min m n) l ≡ take m (take n l)
    by true e = let h = leb-true m n e in let least : min m n ≡ m = omega arith in rw least (sym (take-take m n l h))
    by false e =
        let h = leb-false m n e in
        let few : length (take n l) ≤ m = omega (arith, length-take n l) in
        let least : min m n ≡ n = omega arith in
        rw least (sym (take_all m (take n l) few))

module _ (lists : List ℕ) (i : ℕ) where
  pub row_is : (n : ℕ) → n ≡ min (get_or lists (i * row_length) 0) signals_most
      → take (i * row_length + 1 + n - (i * row_length + 1)) (drop (i * row_length + 1) lists) ≡ list_at lists i
  unfolding list_at
  row_is n e =
      let w : i * row_length + 1 + n - (i * row_length + 1) ≡ n = omega arith in
      rw (w, e) (take_min (get_or lists (i * row_length) 0) signals_most (drop (i * row_length + 1) lists))

  pub row_at : (j : ℕ) → j < length (list_at lists i) → get_or (list_at lists i) j 0 ≡ get_or lists (i * row_length + 1 + j) 0
  unfolding list_at
  row_at j h =
      let row = take signals_most (drop (i * row_length + 1) lists) in
      let l = length-take (get_or lists (i * row_length) 0) row in
      let m = length-take signals_most (drop (i * row_length + 1) lists) in
      get_or-take (get_or lists (i * row_length) 0) row j 0 (omega arith)
      ∙ get_or-take signals_most (drop (i * row_length + 1) lists) j 0 (omega arith)
      ∙ get_or-drop (i * row_length + 1) lists j 0

  pub row_most_lem : length (list_at lists i) ≤ signals_most
  unfolding list_at
  row_most_lem =
      omega (
        arith,
        length-take (get_or lists (i * row_length) 0) (take signals_most (drop (i * row_length + 1) lists)),
        length-take signals_most (drop (i * row_length + 1) lists),
      )

-- each number lies below the bound
pub tidy_below : {most : ℕ} {l : List ℕ} → TidyBelow most l → (j : ℕ) → j < length l → get_or l j 0 < most
tidy_below bare j h = absurd (omega arith)
tidy_below (next b e t) zero h = b
tidy_below (next b e t) (suc j) h = tidy_below t j (omega arith)

-- the first of those, and the others
pub tidy_first : {most s : ℕ} {l l' : List ℕ} → l ≡ s ∷ l' → TidyBelow most l → (s < most) × TidyBelow most l'
tidy_first {most} {s} {l' = l'} e t = by (rw e at t)
  where
    by : TidyBelow most (s ∷ l') → (s < most) × TidyBelow most l'
    by (next b e t) = (b, t)

-- ---- a turn

module _ (l : List ℕ) (j : ℕ) where
  module _ (h : j < length l) where
    module _ (g : List ℕ) where
      pub meets_here : has (get_or l j 0) g ≡ true → meets (drop j l) g ≡ true
      unfolding meets
      meets_here e = rw (cut l j h) (rw e)

      pub meets_next : has (get_or l j 0) g ≡ false → meets (drop j l) g ≡ meets (drop (j + 1) l) g
      unfolding meets
      meets_next e = rw (cut l j h) (rw e)

  pub meets_end : length l ≤ j → (g : List ℕ) → meets (drop j l) g ≡ false
  unfolding meets
  meets_end h g = rw (drop_of_length-le l h)

pub placed_next : {ss ss' cs cs' : List ℕ} {s c : ℕ} (given : List ℕ) → ss ≡ s ∷ ss' → cs ≡ c ∷ cs' → placed ss cs given ≡ placed ss' cs' (set given s c)
unfolding placed
placed_next given e f = rw (e, f) refl

-- without signals, and without characters
pub placed_bare : (ss cs given : List ℕ) → length ss ≡ 0 → placed ss cs given ≡ given
unfolding placed
placed_bare [] cs given h = refl
placed_bare (s ∷ ss) cs given h = absurd (omega arith)

pub placed_out : (ss cs given : List ℕ) → length cs ≡ 0 → placed ss cs given ≡ given
unfolding placed
placed_out [] cs given h = refl
placed_out (s ∷ ss) [] given h = refl
placed_out (s ∷ ss) (c ∷ cs) given h = absurd (omega arith)
