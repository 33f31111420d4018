-- THE LAW of request 10: only the mark changes in any row.
use mathlib.Core.Path.{◌≡◌, refl, sym, ap, ap₂, ◌∙◌}
use Prim.Native.Nat.{ℕ, zero, suc}
use native.Mathlib.Omega.{arith}
use mathlib.Core.Bool.{Bool, true, false}
use mathlib.Core.Option.{Option, none, some}
use mathlib.Core.List.{List, [], ◌∷◌, ◌++◌}
use lib.ListN.{length, get_or}
use lib.Dec.{eqb}
use Rattle.meaning.specs.Run.{Cycle, unassigned}
use Rattle.meaning.specs.Services.{shown, shown_all, digit_of, row, rows}
use Rattle.meaning.specs.Marks.{pin_byte, pin_bytes, rows_bytes}

-- ---- rows are such bytes, with the mark where there is none

abbrev pub or_mark : ℕ → Option ℕ → ℕ
or_mark mark none = mark
or_mark mark (some b) = b

unfoldable pub filled : ℕ → List (Option ℕ) → List ℕ
filled mark [] = []
filled mark (x ∷ l) = or_mark mark x ∷ filled mark l

module _ (mark : ℕ) where
  filled-++ : (l k : List (Option ℕ)) → filled mark (l ++ k) ≡ filled mark l ++ filled mark k
  unfolding filled
  filled-++ [] k = refl
  filled-++ (x ∷ l) k = ap (λ (r : List ℕ). or_mark mark x ∷ r) (filled-++ l k)

  pin_filled : (c : ℕ) → shown mark c ≡ or_mark mark (pin_byte c)
  unfolding shown pin_byte
  pin_filled c = by (eqb c unassigned)
    where
      by : (b : Bool) → elim b [ true ↦ mark | false ↦ c ] ≡ or_mark mark (elim b [ true ↦ none | false ↦ some c ])
      by true = refl
      by false = refl

  pins_filled : (cs : List ℕ) → shown_all mark cs ≡ filled mark (pin_bytes cs)
  unfolding shown_all filled pin_bytes
  pins_filled [] = refl
  pins_filled (c ∷ cs) = ap₂ (λ (b : ℕ) (l : List ℕ). b ∷ l) (pin_filled c) (pins_filled cs)

  pub rows_filled : (cs : List Cycle) → rows mark cs ≡ filled mark (rows_bytes cs)
  unfolding rows row filled rows_bytes
  rows_filled [] = refl
  rows_filled (c ∷ cs) =
      let ends = some (digit_of c.table) ∷ some 10 ∷ [] in
      ap₂ (λ (a b : List ℕ). (a ++ digit_of c.table ∷ 10 ∷ []) ++ b) (pins_filled c.pins) (rows_filled cs)
      ∙ ap (λ (l : List ℕ). l ++ filled mark (rows_bytes cs)) (sym (filled-++ (pin_bytes c.pins) ends))
      ∙ sym (filled-++ (pin_bytes c.pins ++ ends) (rows_bytes cs))

-- ---- with two marks

filled_long : (a b : ℕ) (l : List (Option ℕ)) → length (filled a l) ≡ length (filled b l)
unfolding filled
filled_long a b [] = refl
filled_long a b (x ∷ l) = ap suc (filled_long a b l)

filled_there : (mark : ℕ) (l : List (Option ℕ)) (i b : ℕ) → get_or l i none ≡ some b → get_or (filled mark l) i 0 ≡ b
unfolding filled
filled_there mark [] i b e = let z : ◌≡◌ {A = ℕ} 0 1 = cc in absurd (omega arith)
filled_there mark (x ∷ l) zero b e = ap (or_mark mark) e
filled_there mark (x ∷ l) (suc i) b e = filled_there mark l i b e

-- the rows with two marks: as long, and equal at every byte that is no unassigned pin
pub record OnlyMarks (cs : List Cycle) (one other : List ℕ) : Type 0 where
  pub long : length one ≡ length other
  pub same : (i b : ℕ) → get_or (rows_bytes cs) i none ≡ some b → (get_or one i 0 ≡ b) × (get_or other i 0 ≡ b)

pub only_marks : (a b : ℕ) (cs : List Cycle) → OnlyMarks cs (rows a cs) (rows b cs)
only_marks a b cs = record {
  long = ap length (rows_filled a cs) ∙ filled_long a b (rows_bytes cs) ∙ ap length (sym (rows_filled b cs));
  same = λ i k e. (
    ap (λ (l : List ℕ). get_or l i 0) (rows_filled a cs) ∙ filled_there a (rows_bytes cs) i k e,
    ap (λ (l : List ℕ). get_or l i 0) (rows_filled b cs) ∙ filled_there b (rows_bytes cs) i k e,
  );
}
