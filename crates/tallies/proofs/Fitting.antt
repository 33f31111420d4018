-- A body entered from a state: what stands on a signal, and its argument, can be shown wherever the body's row shows them.
use Prim.Native.Nat.{ℕ, ◌+◌, ◌*◌, ◌≤◌, ◌<◌}
use native.Mathlib.Omega.{arith}
use mathlib.Core.Path.{◌≡◌, sym, ap, ◌∙◌, subst}
use mathlib.Core.Bool.{Bool, true, false}
use mathlib.Core.Option.{Option, none, some}
use mathlib.Core.List.{List}
use lib.ListN.{length, get_or, set, length-set}
use lib.Seq.{get_or-take, get_or-set_same, get_or-set_other}
use borrow.Author.Count.{below_more}
use borrow.Author.Tests.{lt-ltb, ltb-true, eq-eqb, ne_eqb}
use Rattle.meaning.specs.Bounds.{signals_most, tables_most}
use Rattle.meaning.specs.Timing.{Tables}
use Rattle.meaning.specs.Body.{Args, arg_of}
use Rattle.meaning.specs.Run.{State}
use Rattle.meaning.specs.Meaning.{has_wave, table_at}
use Rattle.arguments.specs.Supplied.{Supplied}
use Rattle.pins.specs.Shown.{table_of}
use Rattle.pins.proofs.Callers.{table_some, table_none}
use Rattle.sums.specs.Sums.{Shown, ok_at, or_table}
use Rattle.tallies.specs.Rows.{slots, row_size, given_from, pins_from, fine_from, bad_place, byte_at, flag_at, flag_in, shown_of, slot_of, is_slot, sum_at, left_on, Marked, Suits, FitsWhere, OnPin, Grants, Holds}
use Rattle.tallies.proofs.Stored.{flag_is, flag_off}
use Rattle.tallies.proofs.Grown.{slot_below, under_slot, given_slot, pin_at}

-- ---- under one table

module _ (tabs : Tables) (t i c : ℕ) where
  pub ok_none : tables_most ≤ t → false ≡ ok_at tabs (table_of t) i c
  unfolding ok_at
  ok_none h = rw (table_none t h)

  module _ (h : t < tables_most) where
    pub ok_unassigned : c ≡ 0 → true ≡ ok_at tabs (table_of t) i c
    unfolding ok_at
    ok_unassigned e = rw (table_some t h, eq-eqb c 0 e)

    pub ok_char : {b : Bool} → (c ≡ 0 → ⊥) → b ≡ has_wave i c (table_at tabs t) → b ≡ ok_at tabs (table_of t) i c
    unfolding ok_at
    ok_char n e = rw (table_some t h, ne_eqb c 0 n) e

-- ---- under all that are marked

pub fits_all : {tabs : Tables} {place i c : ℕ} {table : Option ℕ} {row : List ℕ} → ((k : ℕ) → k < tables_most → flag_in row (place + k) ≡ true → ok_at tabs (table_of k) i c ≡ true)
    → (flag_in row (place + tables_most) ≡ true → ok_at tabs table i c ≡ true) → FitsWhere tabs place i c table row
unfolding or_table
fits_all {tabs} {place} {i} {c} {table} {row} f g = record { fits = by }
  where
    by : (t : Option ℕ) → is_slot t ≡ true → flag_in row (place + slot_of t) ≡ true → ok_at tabs (or_table t table) i c ≡ true
    by none h e = g e
    by (some k) h e = let l = ltb-true k tables_most h in subst (λ (o : Option ℕ). ok_at tabs o i c ≡ true) (table_some k l) (f k l e)

-- ---- what the row asks by itself

module _ {row : List ℕ} (z : get_or row bad_place 0 ≡ 0) where
  pub suits_any : {table : Option ℕ} → get_or row (bad_place + 1) 0 ≡ 0 → Suits row table
  suits_any o = record { good = flag_off z; tabled = λ h. absurd (flag_is h o) }

  pub suits_fine : {k : ℕ} → k < tables_most → flag_in row (fine_from + k) ≡ true → Suits row (table_of k)
  suits_fine {k} h n = record { good = flag_off z; tabled = λ o. (k, table_some k h, h, n) }

-- ---- all signals: the first s of them

pub record Asking (text waves given args pins : List ℕ) (table s : ℕ) (row left : List ℕ) : Type 0 where
  pub long : length left ≡ signals_most
  pub each : (xs : Args) → Supplied text xs given args → (i : ℕ) → i < s → OnPin waves i (get_or pins i 0) (arg_of i xs) (table_of table) row (get_or left i 0)

module _ {text waves given args pins : List ℕ} {table : ℕ} {row left : List ℕ} {s : ℕ} (y : Asking text waves given args pins table s row left) where
  pub asking_next : {v : ℕ} → s < signals_most → ((xs : Args) → Supplied text xs given args → OnPin waves s (get_or pins s 0) (arg_of s xs) (table_of table) row v)
      → Asking text waves given args pins table (s + 1) row (set left s v)
  asking_next {v} h o =
      record {
        long = length-set left s v ∙ y.long;
        each = λ xs u. below_more (λ i. OnPin waves i (get_or pins i 0) (arg_of i xs) (table_of table) row (get_or (set left s v) i 0)) s
            (λ i l. rw (get_or-set_other left s i v 0 (λ e. omega arith)) (y.each xs u i l))
            (rw (get_or-set_same left s v 0 (omega (arith, y.long))) (o xs u));
      }

  -- the row is that of a sum
  module _ (sums : List ℕ) (r : ℕ) (row_is : (p : ℕ) → p < row_size → get_or row p 0 ≡ byte_at sums r p) where
    marked : (place : ℕ) (t : Option ℕ) → place + slots ≤ row_size → is_slot t ≡ true → flag_at sums r (place + slot_of t) ≡ true → flag_in row (place + slot_of t) ≡ true
    marked place t room h f = rw (row_is (place + slot_of t) inside) f
      where
        inside : place + slot_of t < row_size
        inside = omega (arith, slot_below t h)

    pub asking_all : (n : ℕ) → n ≤ s → n ≤ signals_most → Suits row (table_of table) → (tabs : Tables) (z : State) → Marked waves tabs → Holds text pins given args n table z
        → Grants tabs n (sum_at sums r) z left
    asking_all n l few w tabs z m k =
        record {
          asks = record {
            good = rw (sym (row_is bad_place (omega arith))) w.good;
            tabled = λ e. let f = w.tabled (rw (row_is (bad_place + 1) (omega arith)) e) in (f.0, k.table_is ∙ f.1, fine f.0 f.2 f.3);
            shown = λ i t h e. let b = under_slot sums r i t e in rw (k.table_is, pin i h) (((on i h).shown tabs m).fits t b.0 (marked (i * slots) t (omega arith) b.0 b.1));
            fed = λ i t h e c q. let b = given_slot sums r i t e in rw k.table_is ((((on i h).fed tabs m).each c q).fits t b.0 (marked (given_from + i * slots) t (omega arith) b.0 b.1));
          };
          pins_are = λ i h. rw (pin i h) ((on i h).pin_is ∙ ap (λ (u : Shown). left_on u (get_or pins i 0) (arg_of i z.args)) (left_is i h));
        }
      where
        fine : (k : ℕ) → k < tables_most → flag_in row (fine_from + k) ≡ true → (sum_at sums r).fine k ≡ true
        fine k h f = rw (lt-ltb k tables_most h, sym (row_is (fine_from + k) (omega arith))) f

        pin : (i : ℕ) → i < n → get_or z.pins i 0 ≡ get_or pins i 0
        pin i h = rw (k.pins_are, get_or-take)

        on : (i : ℕ) → i < n → OnPin waves i (get_or pins i 0) (arg_of i z.args) (table_of table) row (get_or left i 0)
        on i h = y.each z.args k.args_are i (omega arith)

        left_is : (i : ℕ) → i < n → shown_of (get_or row (pins_from + i) 0) ≡ (sum_at sums r).pin i
        left_is i h = ap shown_of (row_is (pins_from + i) (omega arith)) ∙ sym (pin_at sums r i (omega arith))
