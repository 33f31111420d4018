-- A row at the front of a part: each signal's character over what stood there, then the digit and LF.
use Prim.Native.Nat.{ℕ, ◌+◌, ◌≤◌, ◌<◌}
use native.Mathlib.Omega.{arith}
use native.Mathlib.Numerals.{add-one}
use mathlib.Core.Path.{◌≡◌, refl, sym, ap, ap₂, ◌∙◌}
use mathlib.Core.Option.{Option}
use mathlib.Core.List.{List, [], ◌∷◌, ◌++◌, append_assoc}
use lib.ListN.{length, get_or, take, drop, set, length-append}
use lib.Seq.{take-suc, length-take-le}
use borrow.Author.Tests.{eq-eqb, ne_eqb}
use Rattle.meaning.specs.Bounds.{tables_most}
use Rattle.meaning.specs.Run.{Cycle}
use Rattle.meaning.specs.Services.{shown, shown_all, digit_of, row, row_width}
use Rattle.meaning.proofs.Rows.{row_width_lem, length_shown}
use Rattle.data.specs.Filled.{over}
use Rattle.data.proofs.Over.{over_length, over_set, over_fits}
use Rattle.pins.specs.Shown.{table_of}
use Rattle.pins.proofs.Callers.{table_some, table_none}
use Rattle.rows.specs.Went.{Cycled}

-- ---- the row

pub shown_none : (mark b : ℕ) → b ≡ 0 → shown mark b ≡ mark
unfolding shown
shown_none mark b h = rw (eq-eqb b 0 h, shown)

pub shown_char : (mark b : ℕ) → (b ≡ 0 → ⊥) → shown mark b ≡ b
unfolding shown
shown_char mark b h = rw (ne_eqb b 0 h, shown)

pub digit_some : (table : ℕ) → table < tables_most → digit_of (table_of table) ≡ 48 + table
unfolding digit_of
digit_some table h = ap digit_of (table_some table h)

pub digit_none : (table : ℕ) → tables_most ≤ table → digit_of (table_of table) ≡ 48
unfolding digit_of
digit_none table h = ap digit_of (table_none table h)

pub cycled_wide : {signals table : ℕ} {values : List ℕ} {c : Cycle} → Cycled signals values table c → signals ≤ length values → length c.pins ≡ signals
cycled_wide {signals} {table} {values} z h = ap length z.pins_are ∙ length-take-le signals values h

shown_more : (mark : ℕ) (l : List ℕ) (b : ℕ) → shown_all mark (l ++ b ∷ []) ≡ shown_all mark l ++ shown mark b ∷ []
unfolding shown_all
shown_more mark [] b = refl
shown_more mark (x ∷ l) b = ap (λ (r : List ℕ). shown mark x ∷ r) (shown_more mark l b)

-- ---- the part

-- the first s signals stand there
pub record Showed (mark : ℕ) (values before : List ℕ) (s : ℕ) (part : List ℕ) : Type 0 where
  pub is : part ≡ over (shown_all mark (take s values)) before

module _ {mark : ℕ} {values before : List ℕ} where
  pub showed_none : Showed mark values before 0 before
  unfolding over shown_all
  showed_none = record { is = refl }

  module _ {s : ℕ} {part : List ℕ} (x : Showed mark values before s part) where
    pub showed_length : length part ≡ length before
    showed_length = ap length x.is ∙ over_length (shown_all mark (take s values)) before

    pub showed_all : (n : ℕ) → s ≡ n → Showed mark values before n part
    showed_all n e = record { is = rw (← e) x.is }

    module _ (h : s ≤ length values) where
      wide : length (shown_all mark (take s values)) ≡ s
      wide = length_shown mark (take s values) ∙ length-take-le s values h

      stored : (b : ℕ) → set part s b ≡ over (shown_all mark (take s values) ++ b ∷ []) before
      stored b = ap₂ (λ (l : List ℕ) (n : ℕ). set l n b) x.is (sym wide) ∙ over_set (shown_all mark (take s values)) before b

      -- the digit and LF behind them
      pub showed_row : {c : Cycle} {table : ℕ} (digit : ℕ) → Cycled s values table c → digit ≡ digit_of (table_of table) → row_width s ≤ length before
          → set (set part s digit) (s + 1) 10 ≡ row mark c ++ drop (row_width s) before
      unfolding row
      showed_row {c} {table} digit z e room =
          let front = shown_all mark (take s values) ++ digit ∷ [] in
          let at : s + 1 ≡ length front = omega (arith, wide, length-append (shown_all mark (take s values)) (digit ∷ [])) in
          let all : row mark c ≡ front ++ 10 ∷ [] =
          ap₂ (λ (l : List ℕ) (o : Option ℕ). shown_all mark l ++ digit_of o ∷ 10 ∷ []) z.pins_are z.table_is
          ∙ ap (λ (k : ℕ). shown_all mark (take s values) ++ k ∷ 10 ∷ []) (sym e) ∙ sym (append_assoc (shown_all mark (take s values)) (digit ∷ []) (10 ∷ [])) in
          let width = row_width_lem mark c s (cycled_wide z h) in
          ap₂ (λ (l : List ℕ) (n : ℕ). set l n 10) (stored digit) at ∙ over_set front before 10 ∙ ap (λ (l : List ℕ). over l before) (sym all)
          ∙ over_fits (row mark c) before (omega (arith, width)) ∙ ap (λ (n : ℕ). row mark c ++ drop n before) width

    pub showed_more : s < length values → (b : ℕ) → b ≡ shown mark (get_or values s 0) → Showed mark values before (s + 1) (set part s b)
    showed_more h b e =
        let t : take (s + 1) values ≡ take s values ++ get_or values s 0 ∷ [] = rw add-one (take-suc values s 0 h) in
        record {
          is = stored (omega arith) b ∙ ap (λ (k : ℕ). over (shown_all mark (take s values) ++ k ∷ []) before) e
              ∙ ap (λ (l : List ℕ). over l before) (sym (shown_more mark (take s values) (get_or values s 0)) ∙ ap (shown_all mark) (sym t));
        }
