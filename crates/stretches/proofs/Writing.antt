-- Statements and Patterns from what was written one behind the other.
use Prim.Native.Nat.{ℕ, suc, ◌+◌, ◌≤◌, ◌<◌}
use native.Mathlib.Omega.{arith}
use native.Mathlib.Numerals.{add-one}
use mathlib.Core.Path.{◌≡◌, refl, sym, ap, ◌∙◌}
use mathlib.Core.Bool.{Bool, true, false}
use mathlib.Core.Option.{Option}
use Rattle.std.specs.Prelude.{Option as Maybe, Some, None}
use Rattle.std.specs.Option.{option_eq}
use mathlib.Core.List.{List, [], ◌∷◌, ◌++◌, append_assoc, append-nil}
use lib.Dec.{eqb, leb}
use lib.ListN.{length, get_or, drop, drop_of_length-le}
use lib.Seq.{drop-cons}
use borrow.Author.Tests.{le-leb, lt-leb, eq-eqb, ne_eqb}
use Rattle.tokens.specs.Written.{bytes}
use Rattle.meaning.specs.Body.{Assigns}
use Rattle.meaning.specs.Run.{unassigned}
use Rattle.pages.specs.Pages.{decimal}
use Rattle.folded.specs.Pieces.{Piece, word, only, laid, each, lf, closing}
use Rattle.folded.specs.Flat.{Row, Line, chooses, repeats, valued, choosing}
use Rattle.folded.specs.Layout.{name_at, value_put, vector_put, line_put, pattern_name}
use Rattle.folded.specs.Walk.{opened, closed, flushed}
use Rattle.pens.specs.Pens.{Writes}
use Rattle.pens.specs.declared.Pen.{Pen}
use Rattle.pens.proofs.Laws.{writes_both, writes_same}
use Rattle.folds.proofs.Laws.{laid_behind, writes_nothing}
use Rattle.stretches.specs.Rows.{value_bytes}
use Rattle.stretches.specs.Folding.{in_force, Onward}

-- ---- what is written, and what is left

-- nothing yet
pub onward_none : (entry : List ℕ) (pen : Pen) (all : List ℕ) → Onward entry pen all entry pen all
onward_none entry pen all = record { bytes = []; writes = writes_nothing entry pen; is = refl }

-- more of it
pub onward_more : {entry mid exit all left rest a : List ℕ} {pen p r : Pen} → Onward entry pen all mid p left → Writes mid p a exit r → left ≡ a ++ rest → Onward entry pen all exit r rest
onward_more {rest = rest} {a = a} o w e = record { bytes = o.bytes ++ a; writes = writes_both o.writes w; is = o.is ∙ ap (λ (l : List ℕ). o.bytes ++ l) e ∙ sym (append_assoc o.bytes a rest) }

-- all of it
pub onward_all : {entry exit all left : List ℕ} {pen r : Pen} → Onward entry pen all exit r left → left ≡ [] → Writes entry pen all exit r
onward_all o e = writes_same (sym (o.is ∙ ap (λ (l : List ℕ). o.bytes ++ l) e ∙ append-nil o.bytes)) o.writes

-- one part, and then another
pub onward_both : {entry mid exit all left rest : List ℕ} {pen p r : Pen} → Onward entry pen all mid p left → Onward mid p left exit r rest → Onward entry pen all exit r rest
onward_both o q = onward_more o q.writes q.is

pub onward_from : {entry exit all other left rest : List ℕ} {pen r : Pen} → all ≡ other → left ≡ rest → Onward entry pen other exit r left → Onward entry pen all exit r rest
onward_from e f o = record { bytes = o.bytes; writes = o.writes; is = e ∙ o.is ∙ ap (λ (l : List ℕ). o.bytes ++ l) f }

pub onward_pen : {entry exit all left : List ℕ} {pen p r : Pen} → r ≡ p → Onward entry pen all exit p left → Onward entry pen all exit r left
onward_pen e o = rw e o

-- ---- V{NAME=CHARACTER;..}

pub value_none : (name : List ℕ) {c : ℕ} → c ≡ 0 → [] ≡ value_bytes name c
unfolding value_bytes
value_none name {c} e = sym (ap (λ (b : Bool). elim b as (λ z. List ℕ) [ true ↦ [] | false ↦ name ++ 61 ∷ c ∷ 59 ∷ [] ]) (eq-eqb c 0 e))

pub value_some : (name : List ℕ) (c : ℕ) {w : List ℕ} → w ≡ name → (c ≡ 0 → ⊥) → w ++ 61 ∷ c ∷ 59 ∷ [] ≡ value_bytes name c
unfolding value_bytes
value_some name c e n =
    ap (λ (w : List ℕ). w ++ 61 ∷ c ∷ 59 ∷ []) e ∙ sym (ap (λ (b : Bool). elim b as (λ z. List ℕ) [ true ↦ [] | false ↦ name ++ 61 ∷ c ∷ 59 ∷ [] ]) (ne_eqb c 0 n))

module _ (names : List (List ℕ)) where
  -- the pins from number s on, and the brace
  unfoldable pub values_from : ℕ → List ℕ → List ℕ
  values_from s pins = laid (each (value_put names) (valued s (drop s pins)) (only closing ∷ []))

  values_cut : (s : ℕ) (c : ℕ) (cs : List ℕ) (k : List Piece) → laid (each (value_put names) (valued s (c ∷ cs)) k) ≡ value_bytes (name_at names s) c ++ laid (each (value_put names) (valued (suc s) cs) k)
  unfolding valued value_bytes each laid value_put
  values_cut s c cs k = by (eqb c unassigned)
    where
      by : (b : Bool) → laid (each (value_put names) (elim b as (λ z. Assigns) [ true ↦ valued (suc s) cs | false ↦ (s, c) ∷ valued (suc s) cs ]) k)
          ≡ elim b as (λ z. List ℕ) [ true ↦ [] | false ↦ name_at names s ++ 61 ∷ c ∷ 59 ∷ [] ] ++ laid (each (value_put names) (valued (suc s) cs) k)
      by true = refl
      by false = sym (append_assoc (name_at names s) (61 ∷ c ∷ 59 ∷ []) _)

  pub values_next : (pins : List ℕ) (s : ℕ) {name : List ℕ} → s < length pins → name_at names s ≡ name → values_from s pins ≡ value_bytes name (get_or pins s 0) ++ values_from (s + 1) pins
  unfolding values_from
  values_next pins s h e =
      ap (λ (l : List ℕ). laid (each (value_put names) (valued s l) (only closing ∷ []))) (drop-cons pins s 0 h) ∙ values_cut s (get_or pins s 0) (drop (suc s) pins) (only closing ∷ [])
      ∙ rw (e, add-one s)

  pub values_end : (pins : List ℕ) (s : ℕ) → length pins ≤ s → values_from s pins ≡ 125 ∷ []
  unfolding values_from each laid valued
  values_end pins s h = rw (drop_of_length-le pins h)

  pub vector_is : (pins : List ℕ) → laid (vector_put names (valued 0 pins) []) ≡ bytes "V{" ++ values_from 0 pins
  unfolding values_from vector_put laid bytes
  vector_is pins = refl

  own_value : (x : ℕ × ℕ) (k : List Piece) → laid (value_put names x k) ≡ laid (value_put names x []) ++ laid k
  unfolding laid value_put
  own_value x k = sym (append_assoc (name_at names x.0) (61 ∷ x.1 ∷ 59 ∷ []) (laid k))

  own_vector : (xs : Assigns) (k : List Piece) → laid (vector_put names xs k) ≡ laid (vector_put names xs []) ++ laid k
  unfolding laid vector_put bytes
  own_vector xs k =
      ap (λ (l : List ℕ). 86 ∷ 123 ∷ l) (laid_behind (value_put names) own_value xs (only closing ∷ k)
      ∙ sym (append_assoc (laid (each (value_put names) xs [])) (125 ∷ []) (laid k))
      ∙ ap (λ (l : List ℕ). l ++ laid k) (sym (laid_behind (value_put names) own_value xs (only closing ∷ []))))

-- ---- a row's statement

regroup : (a b c d e : List ℕ) → (((a ++ b) ++ c) ++ d) ++ e ≡ a ++ (b ++ (c ++ (d ++ e)))
regroup a b c d e = simp append_assoc

module _ (signals tables : List (List ℕ)) where
  line_by : (k : ℕ) (xs : Assigns) (behind : List Piece) {b : Bool} → leb 2 k ≡ b → laid (line_put signals tables (repeats k xs) behind) ≡ elim b as (λ z. List ℕ) [
    | true ↦ bytes "Loop " ++ decimal k ++ 123 ∷ laid (vector_put signals xs (only closing ∷ only lf ∷ behind))
    | false ↦ laid (vector_put signals xs (only lf ∷ behind))
  ]
  unfolding line_put laid bytes
  line_by k xs behind {b} e = ap (λ (b : Bool). laid (elim b as (λ z. List Piece) [ true ↦ word (bytes "Loop") 32 ∷ word (decimal k) 123 ∷ vector_put signals xs (only closing ∷ only lf ∷ behind) | false ↦ vector_put signals xs (only lf ∷ behind) ])) e ∙ by b
    where
      by : (b : Bool) → laid (elim b as (λ z. List Piece) [
        | true ↦ word (bytes "Loop") 32 ∷ word (decimal k) 123 ∷ vector_put signals xs (only closing ∷ only lf ∷ behind)
        | false ↦ vector_put signals xs (only lf ∷ behind)
      ]) ≡ elim b as (λ z. List ℕ) [
        | true ↦ bytes "Loop " ++ decimal k ++ 123 ∷ laid (vector_put signals xs (only closing ∷ only lf ∷ behind))
        | false ↦ laid (vector_put signals xs (only lf ∷ behind))
      ]
      by true = refl
      by false = refl

  -- once
  pub line_once : (k : ℕ) (xs : Assigns) → k < 2 → laid (vector_put signals xs []) ++ 10 ∷ [] ≡ laid (line_put signals tables (repeats k xs) [])
  unfolding laid
  line_once k xs h = sym (line_by k xs [] (lt-leb 2 k h) ∙ own_vector signals xs (only lf ∷ []))

  -- in a Loop
  pub line_loop : (k : ℕ) (xs : Assigns) → 2 ≤ k
      → (((bytes "Loop " ++ decimal k) ++ 123 ∷ []) ++ laid (vector_put signals xs [])) ++ 125 ∷ 10 ∷ [] ≡ laid (line_put signals tables (repeats k xs) [])
  unfolding laid bytes
  line_loop k xs h =
      regroup (bytes "Loop ") (decimal k) (123 ∷ []) (laid (vector_put signals xs [])) (125 ∷ 10 ∷ []) ∙ (sym (line_by k xs [] (le-leb 2 k h) ∙ ap (λ (l : List ℕ). bytes "Loop " ++ decimal k ++ 123 ∷ l) (own_vector signals xs (only closing ∷ only lf ∷ []))))

  own_line : (l : Line) (k : List Piece) → laid (line_put signals tables l k) ≡ laid (line_put signals tables l []) ++ laid k
  unfolding laid line_put bytes
  own_line (chooses t) k = ap (λ (l : List ℕ). 87 ∷ 32 ∷ l) (sym (append_assoc (name_at tables t) (59 ∷ 10 ∷ []) (laid k)))
  own_line (repeats n xs) k = by (leb 2 n)
    where
      by : (b : Bool) → laid (elim b as (λ z. List Piece) [
        | true ↦ word (bytes "Loop") 32 ∷ word (decimal n) 123 ∷ vector_put signals xs (only closing ∷ only lf ∷ k)
        | false ↦ vector_put signals xs (only lf ∷ k)
      ]) ≡ laid (elim b as (λ z. List Piece) [
        | true ↦ word (bytes "Loop") 32 ∷ word (decimal n) 123 ∷ vector_put signals xs (only closing ∷ only lf ∷ [])
        | false ↦ vector_put signals xs (only lf ∷ [])
      ]) ++ laid k
      by true =
          let done = laid (vector_put signals xs (only closing ∷ only lf ∷ [])) in
          ap (λ (l : List ℕ). bytes "Loop " ++ l)
          (ap (λ (l : List ℕ). decimal n ++ 123 ∷ l) (own_vector signals xs (only closing ∷ only lf ∷ k) ∙ sym (append_assoc (laid (vector_put signals xs [])) (125 ∷ 10 ∷ []) (laid k))
          ∙ ap (λ (l : List ℕ). l ++ laid k) (sym (own_vector signals xs (only closing ∷ only lf ∷ []))))
          ∙ sym (append_assoc (decimal n) (123 ∷ done) (laid k)))
      by false =
          own_vector signals xs (only lf ∷ k) ∙ sym (append_assoc (laid (vector_put signals xs [])) (10 ∷ []) (laid k))
          ∙ ap (λ (l : List ℕ). l ++ laid k) (sym (own_vector signals xs (only lf ∷ [])))

  -- the row in hand, and then what stands behind
  pub own_flush : (t : Option ℕ) (x : Row) (c : ℕ) (k : List Piece) → laid (flushed signals tables t x c k) ≡ laid (flushed signals tables t x c []) ++ laid k
  unfolding flushed
  own_flush t x c k = laid_behind (line_put signals tables) own_line (choosing t x.table (repeats c (valued 0 x.pins) ∷ [])) k

  -- ---- W NAME;

  pub chooses_is : (k : ℕ) → (bytes "W " ++ name_at tables k) ++ 59 ∷ 10 ∷ [] ≡ laid (line_put [] tables (chooses k) [])
  unfolding line_put laid bytes
  chooses_is k = refl

  module _ (t : Maybe ℕ) (c : ℕ) (x : Row) where
    -- the table is in force
    pub flush_same : option_eq eqb t (Some x.table) ≡ true → laid (line_put signals [] (repeats c (valued 0 x.pins)) []) ≡ laid (flushed signals tables (in_force t) x c [])
    unfolding flushed each choosing line_put
    flush_same e = by t e
      where
        by : (t : Maybe ℕ) → option_eq eqb t (Some x.table) ≡ true → laid (line_put signals [] (repeats c (valued 0 x.pins)) [])
            ≡ laid (each (line_put signals tables) (choosing (in_force t) x.table (repeats c (valued 0 x.pins) ∷ [])) [])
        by None e = absurd (let z : ◌≡◌ {A = ℕ} 0 1 = cc in omega arith)
        by (Some k) e = rw (e, choosing)

    -- or is chosen first
    pub flush_other : option_eq eqb t (Some x.table) ≡ false
        → laid (line_put [] tables (chooses x.table) []) ++ laid (line_put signals [] (repeats c (valued 0 x.pins)) []) ≡ laid (flushed signals tables (in_force t) x c [])
    unfolding flushed each choosing line_put
    flush_other e = by t e
      where
        first : laid (line_put [] tables (chooses x.table) []) ++ laid (line_put signals [] (repeats c (valued 0 x.pins)) [])
            ≡ laid (line_put signals tables (chooses x.table) (line_put signals tables (repeats c (valued 0 x.pins)) []))
        first = sym (own_line (chooses x.table) (line_put signals tables (repeats c (valued 0 x.pins)) []))

        by : (t : Maybe ℕ) → option_eq eqb t (Some x.table) ≡ false → laid (line_put [] tables (chooses x.table) []) ++ laid (line_put signals [] (repeats c (valued 0 x.pins)) [])
            ≡ laid (each (line_put signals tables) (choosing (in_force t) x.table (repeats c (valued 0 x.pins) ∷ [])) [])
        by None e = first
        by (Some k) e = rw (e, choosing) first

-- ---- Patterns

pub opened_is : (i : ℕ) → (bytes "Pattern p" ++ decimal i) ++ 123 ∷ 10 ∷ [] ≡ laid (opened i [])
unfolding opened pattern_name laid bytes
opened_is i = refl

pub own_opened : (i : ℕ) (k : List Piece) → laid (opened i k) ≡ laid (opened i []) ++ laid k
unfolding opened laid
own_opened i k = simp append_assoc

pub own_closed : (k : List Piece) → laid (closed k) ≡ 125 ∷ 10 ∷ laid k
unfolding closed laid
own_closed k = refl
