-- What stands on a signal is shown under a table: by what it is.
use Prim.Native.Nat.{ℕ, ◌+◌, ◌*◌, ◌≤◌, ◌<◌}
use native.Mathlib.Omega.{arith}
use mathlib.Core.Path.{◌≡◌, refl, sym, ap, ◌∙◌, subst}
use mathlib.Core.Bool.{Bool, true, false, or-true}
use mathlib.Core.Option.{Option, none, some}
use mathlib.Core.List.{List}
use lib.Dec.{ltb, eqb}
use borrow.Author.Count.{below_more}
use borrow.Author.Tests.{ltb-true, ltb-false, eq-eqb, ne_eqb}
use Rattle.meaning.specs.Bounds.{signals_most, tables_most}
use Rattle.meaning.specs.Timing.{Tables}
use Rattle.meaning.specs.Body.{mark}
use Rattle.meaning.specs.Meaning.{has_wave, table_at}
use Rattle.pins.specs.Shown.{table_of}
use Rattle.pins.proofs.Callers.{table_some, table_none}
use Rattle.sums.specs.Sums.{Shown, before, argument, char, Sum, ok_at, or_table}
use Rattle.sums.specs.Parts.{Shows, Cycled}
use Rattle.tallies.specs.Rows.{slots, given_from, pins_from, row_size, byte_at, flag_at, slot_of, is_slot, shown_of, sum_at, Stored, More, Marked, Inherits, Needed, ShownWhere}
use Rattle.tallies.proofs.Stored.{flag_is, flag_set, other_row}
use Rattle.tallies.proofs.Grown.{under_at, given_at, pin_at, more_none, more_then, shows_kept}

-- ---- what a byte stands for

pub shown_zero : (x : ℕ) → x ≡ 0 → shown_of x ≡ before
unfolding shown_of
shown_zero x e = rw (eq-eqb x 0 e, shown_of)

pub shown_mark : (x : ℕ) → x ≡ mark → shown_of x ≡ argument
unfolding shown_of
shown_mark x e = rw e

pub shown_char : (x : ℕ) → (x ≡ 0 → ⊥) → (x ≡ mark → ⊥) → shown_of x ≡ char x
unfolding shown_of
shown_char x h n = rw (ne_eqb x 0 h, ne_eqb x mark n, shown_of)

pub slot_of_table : (t : ℕ) → t < slots → (is_slot (table_of t) ≡ true) × (slot_of (table_of t) ≡ t)
slot_of_table t h = by (ltb t tables_most) refl
  where
    by : (z : Bool) → ltb t tables_most ≡ z → (is_slot (table_of t) ≡ true) × (slot_of (table_of t) ≡ t)
    by true e = rw (table_some t (ltb-true t tables_most e)) (e, refl)
    by false e = let l = ltb-false t tables_most e in rw (table_none t l) (refl, omega arith)

-- ---- what is asked for it

ok_wave : (tabs : Tables) (i k c : ℕ) → has_wave i c (table_at tabs k) ≡ true → ok_at tabs (some k) i c ≡ true
unfolding ok_at
ok_wave tabs i k c e = rw e (or-true (eqb c 0))

same_char : {x y : ℕ} → char x ≡ char y → x ≡ y
same_char e = cc

module _ {tabs : Tables} {i : ℕ} {t : Option ℕ} {R : Sum} where
  shows_before : R.under i t ≡ true → Shows tabs i before t R
  shows_before h =
      record {
        held = λ e. h;
        fed = λ e. let z : ◌≡◌ {A = ℕ} 0 1 = cc in absurd (omega arith);
        chosen = λ c k e q g. let z : ◌≡◌ {A = ℕ} 0 1 = cc in absurd (omega arith);
        inherited = λ c e q. let z : ◌≡◌ {A = ℕ} 0 1 = cc in absurd (omega arith);
      }

  shows_argument : R.given i t ≡ true → Shows tabs i argument t R
  shows_argument h =
      record {
        held = λ e. let z : ◌≡◌ {A = ℕ} 0 1 = cc in absurd (omega arith);
        fed = λ e. h;
        chosen = λ c k e q g. let z : ◌≡◌ {A = ℕ} 0 1 = cc in absurd (omega arith);
        inherited = λ c e q. let z : ◌≡◌ {A = ℕ} 0 1 = cc in absurd (omega arith);
      }

  shows_char : (x : ℕ) → ((k : ℕ) → t ≡ some k → R.bad ≡ false → has_wave i x (table_at tabs k) ≡ true)
      → (t ≡ none → Inherits tabs i x R) → Shows tabs i (char x) t R
  shows_char x f g =
      record {
        held = λ e. let z : ◌≡◌ {A = ℕ} 0 1 = cc in absurd (omega arith);
        fed = λ e. let z : ◌≡◌ {A = ℕ} 0 1 = cc in absurd (omega arith);
        chosen = λ c k e q b. ok_wave tabs i k c (subst (λ (n : ℕ). has_wave i n (table_at tabs k) ≡ true) (same_char e) (f k q b));
        inherited = λ c e q. ((g q).needs, λ k b. ok_wave tabs i k c (subst (λ (n : ℕ). has_wave i n (table_at tabs k) ≡ true) (same_char e) ((g q).fine k b)));
      }

-- ---- by the byte

module _ {tabs : Tables} {i : ℕ} (x t : ℕ) where
  module _ {r : ℕ} {sums sums' : List ℕ} (h : i < signals_most) (l : t < slots) where
    -- what stood there before
    pub shows_held : x ≡ 0 → Stored r (i * slots + t) 1 sums sums' → Shows tabs i (shown_of x) (table_of t) (sum_at sums' r)
    shows_held e y =
        let w = slot_of_table t l in
        rw (shown_zero x e) (shows_before (under_at sums' r i (table_of t) h w.0 (rw w.1 (flag_set y (λ z. omega arith)))))

    -- its argument
    pub shows_fed : x ≡ mark → Stored r (given_from + (i * slots + t)) 1 sums sums' → Shows tabs i (shown_of x) (table_of t) (sum_at sums' r)
    shows_fed e y =
        let w = slot_of_table t l in
        rw (shown_mark x e) (shows_argument (given_at sums' r i (table_of t) h w.0 (rw w.1 (flag_set y (λ z. omega arith)))))

  module _ {R : Sum} (o : x ≡ 0 → ⊥) (m : x ≡ mark → ⊥) where
    -- a character, under the table before
    pub shows_under_any : tables_most ≤ t → Inherits tabs i x R → Shows tabs i (shown_of x) (table_of t) R
    shows_under_any l y =
        rw (shown_char x o m, table_none t l) (shows_char x (λ k e b. let z : ◌≡◌ {A = ℕ} 0 1 = cc in absurd (omega arith)) (λ e. y))

    -- and under one that was chosen
    pub shows_under_one : t < tables_most → (R.bad ≡ false → has_wave i x (table_at tabs t) ≡ true) → Shows tabs i (shown_of x) (table_of t) R
    shows_under_one l f =
        rw (shown_char x o m, table_some t l)
        (shows_char x (λ k e b. subst (λ (n : ℕ). has_wave i x (table_at tabs n) ≡ true) (same_some e) (f b)) (λ e. let z : ◌≡◌ {A = ℕ} 0 1 = cc in absurd (omega arith)))
      where
        same_some : {a b : ℕ} → some a ≡ some b → a ≡ b
        same_some e = cc

-- ---- a cycle: the first s signals were shown

pub record Cycling (waves : List ℕ) (r t s : ℕ) (sums sums' : List ℕ) : Type 0 where
  pub more : More r sums sums'
  pub shows : (tabs : Tables) → Marked waves tabs → (i : ℕ) → i < s → Shows tabs i ((sum_at sums r).pin i) (table_of t) (sum_at sums' r)

module _ {waves : List ℕ} {r t : ℕ} {sums : List ℕ} where
  pub cycling_next : {s x : ℕ} {sums' sums'' : List ℕ} → Cycling waves r t s sums sums' → s < signals_most → x ≡ byte_at sums' r (pins_from + s) → More r sums' sums''
      → ((tabs : Tables) → Marked waves tabs → Shows tabs s (shown_of x) (table_of t) (sum_at sums'' r)) → Cycling waves r t (s + 1) sums sums''
  cycling_next {s} {x} {sums'} {sums''} y h e k f =
      record {
        more = more_then y.more k;
        shows = λ tabs m. below_more (λ i. Shows tabs i ((sum_at sums r).pin i) (table_of t) (sum_at sums'' r)) s
            (λ i l. shows_kept (y.shows tabs m i l) k.kept)
            (subst (λ (p : Shown). Shows tabs s p (table_of t) (sum_at sums'' r)) (ap shown_of e ∙ sym (pin_at sums' r s h) ∙ y.more.pins_are s) (f tabs m));
      }

pub cycled : {waves : List ℕ} {r t s : ℕ} {sums sums' sums'' : List ℕ} → More r sums sums' → Needed t sums sums' r → Cycling waves r t s sums' sums''
    → (n : ℕ) → n ≤ s → (tabs : Tables) → Marked waves tabs → Cycled tabs n (sum_at sums r) (sum_at sums'' r)
cycled {waves} {r} {t} {s} {sums} {sums'} {sums''} m d y n l tabs w =
    let all = more_then m y.more in
    record {
      kept = all.kept n;
      shows = λ i h. subst (λ (o : Option ℕ). Shows tabs i ((sum_at sums r).pin i) o (sum_at sums'' r)) d.is
          (subst (λ (p : Shown). Shows tabs i p (table_of t) (sum_at sums'' r)) (m.pins_are i) (y.shows tabs w i (omega arith)));
      tabled = λ e. (y.more.kept 0).needs (d.needs e);
      pins_are = λ i h. all.pins_are i;
      table_is = all.table_is;
    }

-- ---- wherever a body shows something: under the first t tables

pub record Showing (waves : List ℕ) (r from place i x t : ℕ) (sums sums' : List ℕ) : Type 0 where
  pub more : More r sums sums'
  pub shows : (tabs : Tables) → Marked waves tabs → (k : ℕ) → k < t → flag_at sums from (place + k) ≡ true → Shows tabs i (shown_of x) (some k) (sum_at sums' r)

module _ {waves : List ℕ} {r from place i x : ℕ} {sums : List ℕ} where
  module _ {t : ℕ} {sums' : List ℕ} (y : Showing waves r from place i x t sums sums') where
    -- a byte of the body's row, which is not written
    unmarked : {b p : ℕ} → (from ≡ r → ⊥) → p < row_size → b ≡ byte_at sums' from p → b ≡ 0 → flag_at sums from p ≡ true → ⊥
    unmarked {b} {p} d l e z f = flag_is f (sym (other_row y.more.only from p d l) ∙ sym e ∙ z)

    pub showing_kept : {b : ℕ} → (from ≡ r → ⊥) → place + t < row_size → b ≡ byte_at sums' from (place + t) → b ≡ 0 → Showing waves r from place i x (t + 1) sums sums'
    showing_kept d l e z =
        record {
          more = y.more;
          shows = λ tabs m. below_more (λ k. flag_at sums from (place + k) ≡ true → Shows tabs i (shown_of x) (some k) (sum_at sums' r)) t
              (y.shows tabs m) (λ f. absurd (unmarked d l e z f));
        }

    pub showing_next : {sums'' : List ℕ} → t < tables_most → More r sums' sums'' → ((tabs : Tables) → Marked waves tabs → Shows tabs i (shown_of x) (table_of t) (sum_at sums'' r))
        → Showing waves r from place i x (t + 1) sums sums''
    showing_next {sums''} l k f =
        record {
          more = more_then y.more k;
          shows = λ tabs m. below_more (λ j. flag_at sums from (place + j) ≡ true → Shows tabs i (shown_of x) (some j) (sum_at sums'' r)) t
              (λ j h e. shows_kept (y.shows tabs m j h e) k.kept)
              (λ e. subst (λ (o : Option ℕ). Shows tabs i (shown_of x) o (sum_at sums'' r)) (table_some t l) (f tabs m));
        }

-- under all tables, and then under the one in force
module _ {waves : List ℕ} {r from place i : ℕ} {x : Shown} {sums sums' : List ℕ} (d : from ≡ r → ⊥) (l : place + slots ≤ row_size) (m : More r sums sums')
    (f : (tabs : Tables) → Marked waves tabs → (k : ℕ) → k < tables_most → flag_at sums from (place + k) ≡ true → Shows tabs i x (some k) (sum_at sums' r)) where
  by_slot : {sums'' : List ℕ} → More r sums' sums'' → (tabs : Tables) → Marked waves tabs
      → (flag_at sums from (place + tables_most) ≡ true → Shows tabs i x (sum_at sums r).table (sum_at sums'' r)) → ShownWhere tabs r from place i x sums sums''
  unfolding or_table
  by_slot {sums''} k tabs w g = record { shows = by }
    where
      by : (t : Option ℕ) → is_slot t ≡ true → flag_at sums from (place + slot_of t) ≡ true → Shows tabs i x (or_table t (sum_at sums r).table) (sum_at sums'' r)
      by none h e = g e
      by (some j) h e = shows_kept (f tabs w j (ltb-true j tables_most h) e) k.kept

  pub shown_all_lem : {sums'' : List ℕ} → More r sums' sums'' → ((tabs : Tables) → Marked waves tabs → Shows tabs i x (sum_at sums' r).table (sum_at sums'' r))
      → (tabs : Tables) → Marked waves tabs → ShownWhere tabs r from place i x sums sums''
  shown_all_lem k g tabs w = by_slot k tabs w (λ e. rw (sym m.table_is) (g tabs w))

  -- where the slot behind the tables is not marked
  pub shown_tables : {b : ℕ} → b ≡ byte_at sums' from (place + tables_most) → b ≡ 0 → (tabs : Tables) → Marked waves tabs → ShownWhere tabs r from place i x sums sums'
  shown_tables e z tabs w =
      let inside : place + tables_most < row_size = omega arith in
      by_slot more_none tabs w (λ h. absurd (flag_is h (sym (other_row m.only from (place + tables_most) d inside) ∙ sym e ∙ z)))
