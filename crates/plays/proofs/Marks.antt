-- The marks that a known sum gives, and pins that marks grant.
use Prim.Native.Nat.{ℕ, ◌+◌, ◌*◌, ◌<◌, ◌≤◌}
use native.Mathlib.Omega.{arith}
use mathlib.Core.Path.{◌≡◌, refl, sym, ap, ◌∙◌}
use mathlib.Core.Bool.{Bool, true, false, not, ◌&&◌, ◌||◌}
use mathlib.Core.Option.{Option, none, some}
use mathlib.Core.List.{List}
use lib.Dec.{ltb, leb, eqb}
use lib.ListN.{length, get_or}
use borrow.Author.Tests.{ltb-true, leb-true, leb-false, eqb-true, eqb-false, not-false}
use Rattle.tokens.proofs.Bools.{both, neither, true_false}
use Rattle.meaning.specs.Bounds.{signals_most, tables_most}
use Rattle.meaning.specs.Timing.{Tables}
use Rattle.pins.specs.Shown.{table_of}
use Rattle.pins.proofs.Callers.{table_some}
use Rattle.sums.specs.Sums.{before, Sum, ok_at, or_table}
use Rattle.tallies.specs.Rows.{slots, flag_at, sum_at, Marked}
use Rattle.measures.specs.Book.{first_procedure}
use Rattle.memos.specs.Tracks.{is_marked, assigned_mark, marks_most, Joins, tracks_length, marks_at, Granted}
use Rattle.memos.proofs.Marking.{MarkedIf, marked_kept, marked_here, marked_other, joins_zero}
use Rattle.plays.specs.Plays.{SumMarks, PassedMarks}
use Rattle.plays.proofs.Tracks.{table_below}

-- those of the tables below t are there
pub record Summing (S : Sum) (assigned : Bool) (j table m t : ℕ) : Type 0 where
  pub few : m < marks_most
  pub eight : is_marked m assigned_mark ≡ assigned
  pub first : S.under j none ≡ true → table < tables_most → is_marked m table ≡ true
  pub upto : (k : ℕ) → k < t → S.under j (some k) ≡ true → is_marked m k ≡ true

table_none : table_of tables_most ≡ none
unfolding table_of
table_none = refl

pub summing_first : {S : Sum} {assigned shown : Bool} {j table m : ℕ} → shown ≡ S.under j (table_of tables_most)
    → (m < marks_most) × (is_marked m assigned_mark ≡ assigned) × (shown ≡ true → table < tables_most → is_marked m table ≡ true) → Summing S assigned j table m 0
summing_first {S} {j = j} is q = record { few = q.0; eight = q.1; first = λ e. q.2 (is ∙ ap (S.under j) table_none ∙ e); upto = λ k h. absurd (omega arith) }

pub summing_next : {S : Sum} {assigned : Bool} {j table m t r : ℕ} (b : Bool) → Summing S assigned j table m t → t < tables_most → b ≡ S.under j (table_of t) → r < marks_most → MarkedIf b m t r
    → Summing S assigned j table r (t + 1)
summing_next {S} {assigned} {j} {table} {m} {t} {r} b x l is few q = record {
  few = few;
  eight = marked_other b m t r q assigned_mark (omega arith) (λ z. omega arith) ∙ x.eight;
  first = λ e h. marked_kept b m t r q table (omega arith) (x.first e h);
  upto = λ k h e. by k h e (eqb k t) refl;
}
  where
    by : (k : ℕ) → k < t + 1 → S.under j (some k) ≡ true → (w : Bool) → eqb k t ≡ w → is_marked r k ≡ true
    by k h e true g =
        let same = eqb-true k t g in
        let asked : b ≡ true = is ∙ ap (S.under j) (table_some t l) ∙ ap (λ (z : ℕ). S.under j (some z)) (sym same) ∙ e in
        rw same (marked_here b m t r q asked (omega arith))
    by k h e false g = let d = eqb-false k t g in marked_kept b m t r q k (omega arith) (x.upto k (omega arith) e)

-- a table that a row's slot stands for is one of the text's
slot_below : (sums : List ℕ) (r j k : ℕ) → (sum_at sums r).under j (some k) ≡ true → k < tables_most
slot_below sums r j k e = ltb-true k tables_most (both (ltb j signals_most) (ltb k tables_most) (both (ltb j signals_most && ltb k tables_most) (flag_at sums r (j * slots + k)) e).0).1

pub summing_all : (sums : List ℕ) (r : ℕ) {assigned : Bool} {j table m t : ℕ} → tables_most ≤ t
    → (assigned ≡ true → (sum_at sums r).pin j ≡ before → ⊥) × (assigned ≡ false → (sum_at sums r).pin j ≡ before) → Summing (sum_at sums r) assigned j table m t
    → SumMarks (sum_at sums r) (table_of table) j m
unfolding or_table
summing_all sums r {assigned} {j} {table} {m} {t} l pin x = record {
  shown = by;
  put = λ e. pin.0 (sym x.eight ∙ e);
  kept = λ e. pin.1 (sym x.eight ∙ e);
}
  where
    by : (u : Option ℕ) (k : ℕ) → (sum_at sums r).under j u ≡ true → or_table u (table_of table) ≡ some k → (k < tables_most) × (is_marked m k ≡ true)
    by none k e q = let d = table_below table k q in (d.1, rw (← d.0) (x.first e (omega (arith, d.0, d.1))))
    by (some i) k e q =
        let same : i ≡ k = cc in
        let h = slot_below sums r j i e in
        (omega arith, rw (← same) (x.upto i (omega arith) e))

-- ---- a pin that is granted

-- under the tables below t
pub record GrantedTo (waves : List ℕ) (m i c t : ℕ) : Type 0 where
  pub each : (tabs : Tables) → Marked waves tabs → (k : ℕ) → k < t → k < tables_most → is_marked m k ≡ true → ok_at tabs (table_of k) i c ≡ true

pub granted_none : {waves : List ℕ} {m i c : ℕ} → GrantedTo waves m i c 0
granted_none = record { each = λ tabs w k h. absurd (omega arith) }

pub granted_next : {waves : List ℕ} {m i c t : ℕ} → GrantedTo waves m i c t → (is_marked m t ≡ true → (tabs : Tables) → Marked waves tabs → ok_at tabs (table_of t) i c ≡ true)
    → GrantedTo waves m i c (t + 1)
granted_next {waves} {m} {i} {c} {t} x f = record { each = λ tabs w k h l e. by tabs w k h l e (eqb k t) refl }
  where
    by : (tabs : Tables) → Marked waves tabs → (k : ℕ) → k < t + 1 → k < tables_most → is_marked m k ≡ true → (z : Bool) → eqb k t ≡ z → ok_at tabs (table_of k) i c ≡ true
    by tabs w k h l e true q = let same = eqb-true k t q in rw same (f (rw same at e) tabs w)
    by tabs w k h l e false q = let d = eqb-false k t q in x.each tabs w k (omega arith) l e

pub granted_all : {waves : List ℕ} {m i c t : ℕ} → tables_most ≤ t → GrantedTo waves m i c t → (tabs : Tables) → Marked waves tabs → Granted tabs m i c
unfolding ok_at
granted_all {m = m} {i = i} {c = c} h x tabs w = record { each = λ k l e. (let o = x.each tabs w k (omega arith) l e in rw (table_some k l) at o) }

-- the first n pins are
pub record GrantedPins (waves : List ℕ) (m : ℕ → ℕ) (values : List ℕ) (n : ℕ) : Type 0 where
  pub each : (tabs : Tables) → Marked waves tabs → (i : ℕ) → i < n → Granted tabs (m i) i (get_or values i 0)

pub pins_none : {waves : List ℕ} {m : ℕ → ℕ} {values : List ℕ} → GrantedPins waves m values 0
pins_none = record { each = λ tabs w i h. absurd (omega arith) }

pub pins_next : {waves : List ℕ} {m : ℕ → ℕ} {values : List ℕ} {n : ℕ} → GrantedPins waves m values n → ((tabs : Tables) → Marked waves tabs → Granted tabs (m n) n (get_or values n 0))
    → GrantedPins waves m values (n + 1)
pins_next {waves} {m} {values} {n} x f = record { each = λ tabs w i h. by tabs w i h (eqb i n) refl }
  where
    by : (tabs : Tables) → Marked waves tabs → (i : ℕ) → i < n + 1 → (z : Bool) → eqb i n ≡ z → Granted tabs (m i) i (get_or values i 0)
    by tabs w i h true q = rw (eqb-true i n q) (f tabs w)
    by tabs w i h false q = let d = eqb-false i n q in x.each tabs w i (omega arith)

-- ---- a passed body of which nothing is tracked

pub unpassed : {sums : List ℕ} (memo : List ℕ) {level i table s : ℕ} (on : Bool) → (leb first_procedure i || not on) ≡ true → (on ≡ false → 0 < level → tracks_length ≤ length memo → ⊥)
    → 0 < level → tracks_length ≤ length memo → PassedMarks sums i table s 0 × Joins (marks_at memo level s) 0 (marks_at memo level s)
unpassed {sums} memo {level} {i} {table} {s} on h off deep room = by (leb first_procedure i) refl on refl h
  where
    by : (v : Bool) → leb first_procedure i ≡ v → (w : Bool) → on ≡ w → (v || not w) ≡ true → PassedMarks sums i table s 0 × Joins (marks_at memo level s) 0 (marks_at memo level s)
    by true e w q h = (record { in_place = λ l. absurd (omega (arith, leb-true first_procedure i e)); comes_back = λ l. refl }, joins_zero _ 0 refl)
    by false e true q h = true_false refl (sym h)
    by false e false q h = absurd (off q deep room)

pub passed_on : (i : ℕ) (on : Bool) → (leb first_procedure i || not on) ≡ false → (i < first_procedure) × (on ≡ true)
passed_on i on h = let n = neither (leb first_procedure i) (not on) h in (leb-false first_procedure i n.0, not-false on n.1)

-- what is tracked is asked where the table is the one before
pub asked_on : (behind table : ℕ) (on : Bool) → (not (eqb behind table) || not on) ≡ false → (behind ≡ table) × (on ≡ true)
asked_on behind table on h = let n = neither (not (eqb behind table)) (not on) h in (eqb-true behind table (not-false _ n.0), not-false on n.1)
