-- Rows that tell of uses: what is written in one row, no other row has.
use Prim.Native.Nat.{ℕ, ◌+◌, ◌*◌, ◌/◌, ◌%◌, ◌<◌, ◌≤◌}
use native.Mathlib.Omega.{arith}
use native.Mathlib.Nat.{mod-lt, div-mul-le_self}
use mathlib.Core.Path.{◌≡◌, refl, sym, ap, ◌∙◌, subst}
use mathlib.Core.Bool.{Bool, true, false, ◌&&◌}
use mathlib.Core.Logic.{◌⊎◌, inl, inr}
use mathlib.Core.List.{List}
use lib.Dec.{eqb, ltb, leb}
use lib.ListN.{length, get_or, set, length-set}
use lib.Seq.{get_or-set_same, get_or-set_other}
use borrow.Author.Tests.{eqb-true, eqb-false, ltb-true, ltb-false, leb-true}
use Rattle.tokens.proofs.Bools.{both}
use Rattle.meaning.specs.Bounds.{signals_most, depth_most}
use Rattle.words.specs.declared.Cursor.{Cursor}
use Rattle.memos.specs.declared.Use.{Use}
use Rattle.memos.specs.declared.Recalled.{Recalled}
use Rattle.memos.specs.Tracks.{is_marked, assigned_mark, marks_most, marks_from}
use Rattle.memos.specs.Memo.{Short, Near, memo_row, row_at, points_at, before_at, behind_at, picture_size, Notes, Points, Traces, Pictures, Told, telling, Row, Writes, AtLevel, SameUse, Remembered, Finds, Restores, Brings}

-- a place has a row
pub row_within : (long n : ℕ) → 0 < long / memo_row → n % (long / memo_row) * memo_row ≤ long
row_within long n h = omega (arith, mod-lt n h, div-mul-le_self long memo_row)

-- ---- places that were written

pub writes_none : {m : List ℕ} {o e : ℕ} → Writes m m o e
writes_none = record { long = refl; others = λ i h. refl }

pub writes_next : {m m' : List ℕ} {o e : ℕ} → Writes m m' o e → (i v : ℕ) → o ≤ i → i < e → Writes m (set m' i v) o e
writes_next {m} {m'} {o} {e} w i v l h = record {
  long = length-set m' i v ∙ w.long;
  others = λ k q. get_or-set_other m' i k v 0 (λ z. q (omega arith) (omega arith)) ∙ w.others k q;
}

pub writes_then : {a b c : List ℕ} {o e : ℕ} → Writes a b o e → Writes b c o e → Writes a c o e
writes_then x y = record { long = y.long ∙ x.long; others = λ i h. y.others i h ∙ x.others i h }

-- a place that is not among them
pub outside : {i o e : ℕ} → (o ≤ i → i < e → ⊥) → (i < o) ⊎ (e ≤ i)
outside {i} {o} {e} h = by (ltb i o) refl
  where
    by : (z : Bool) → ltb i o ≡ z → (i < o) ⊎ (e ≤ i)
    by true q = inl (ltb-true i o q)
    by false q = let l = ltb-false i o q in inr (omega (arith, h l))

-- ---- what a row is found by

pub notes_all : (m : List ℕ) (o : ℕ) (u : Use) {a b c d : ℕ} → a ≡ get_or m (o + 1) 0 → b ≡ get_or m (o + 2) 0 → c ≡ get_or m (o + 3) 0 → d ≡ get_or m (o + 4) 0
    → ((((eqb (get_or m o 0) 1 && leb u.seconds a) && eqb b u.fault) && eqb c u.at) && eqb d u.end) ≡ true → Notes m o u
notes_all m o u {a = a'} a b c d h =
    let p = both _ _ h in
    let q = both _ _ p.0 in
    let r = both _ _ q.0 in
    let s = both _ _ r.0 in
    record {
      in_use = eqb-true _ _ s.0;
      seconds_fit = omega (arith, a, leb-true u.seconds a' s.1);
      fault_is = sym b ∙ eqb-true _ _ r.1;
      at_is = sym c ∙ eqb-true _ _ q.1;
      end_is = sym d ∙ eqb-true _ _ p.1;
    }

pub short_all : (u : Use) → (((ltb u.seconds 65_536 && ltb u.fault 65_536) && ltb u.at 65_536) && ltb u.end 65_536) ≡ true → Short u
short_all u h =
    let p = both _ _ h in
    let q = both _ _ p.0 in
    let r = both _ _ q.0 in
    record { seconds = ltb-true _ _ r.0; fault = ltb-true _ _ r.1; at = ltb-true _ _ q.1; end = ltb-true _ _ p.1 }

module _ (m : List ℕ) (o : ℕ) (u : Use) (a b c d : ℕ) (room : o + memo_row ≤ length m) (is-a : a ≡ u.seconds) (is_b : b ≡ u.fault) (is_c : c ≡ u.at) (is-d : d ≡ u.end) where
  abbrev m1 : List ℕ
  m1 = set m o 1

  abbrev m2 : List ℕ
  m2 = set m1 (o + 1) a

  abbrev m3 : List ℕ
  m3 = set m2 (o + 2) b

  abbrev m4 : List ℕ
  m4 = set m3 (o + 3) c

  abbrev m5 : List ℕ
  m5 = set m4 (o + 4) d

  long1 : length m1 ≡ length m
  long1 = length-set m o 1

  long2 : length m2 ≡ length m
  long2 = length-set m1 (o + 1) a ∙ long1

  long3 : length m3 ≡ length m
  long3 = length-set m2 (o + 2) b ∙ long2

  long4 : length m4 ≡ length m
  long4 = length-set m3 (o + 3) c ∙ long3

  past : (l : List ℕ) (i v k : ℕ) → k < i → get_or (set l i v) k 0 ≡ get_or l k 0
  past l i v k h = get_or-set_other l i k v 0 λ z. omega arith

  seconds_kept : get_or m5 (o + 1) 0 ≡ u.seconds
  seconds_kept =
      past m4 (o + 4) d (o + 1) (omega arith) ∙ past m3 (o + 3) c (o + 1) (omega arith) ∙ past m2 (o + 2) b (o + 1) (omega arith) ∙ get_or-set_same m1 (o + 1) a 0 (omega (arith, long1)) ∙ is-a

  pub note_written : Writes m m5 o (o + 5) × Notes m5 o u × (get_or m5 (o + 1) 0 ≡ u.seconds)
  note_written = (
    writes_next (writes_next (writes_next (writes_next (writes_next writes_none o 1 (omega arith) (omega arith)) (o + 1) _ (omega arith) (omega arith)) (o + 2) _ (omega arith) (omega arith)) (o + 3) _ (omega arith) (omega arith)) (o + 4) _ (omega arith) (omega arith),
    record {
      in_use = past m4 (o + 4) d o (omega arith) ∙ past m3 (o + 3) c o (omega arith) ∙ past m2 (o + 2) b o (omega arith) ∙ past m1 (o + 1) a o (omega arith) ∙ get_or-set_same m o 1 0 (omega arith);
      seconds_fit = omega (arith, seconds_kept);
      fault_is = past m4 (o + 4) d (o + 2) (omega arith) ∙ past m3 (o + 3) c (o + 2) (omega arith) ∙ get_or-set_same m2 (o + 2) b 0 (omega (arith, long2)) ∙ is_b;
      at_is = past m4 (o + 4) d (o + 3) (omega arith) ∙ get_or-set_same m3 (o + 3) c 0 (omega (arith, long3)) ∙ is_c;
      end_is = get_or-set_same m4 (o + 4) d 0 (omega (arith, long4)) ∙ is-d;
    },
    seconds_kept,
  )

-- ---- the cursor behind a use

pub near_all : (b : Cursor) → ((eqb b.no 0 && ltb b.at 65_536) && ltb b.end 65_536) ≡ true → Near b
near_all b h =
    let p = both _ _ h in
    let q = both _ _ p.0 in
    record { on = eqb-true _ _ q.0; at = ltb-true _ _ q.1; end = ltb-true _ _ p.1 }

pub point_written : (m : List ℕ) (o : ℕ) (b : Cursor) (x y z : ℕ) → o + 3 ≤ length m → b.no ≡ 0 → x % 256 ≡ b.fault → y ≡ b.at → z ≡ b.end
    → Writes m (set (set (set m o x) (o + 1) y) (o + 2) z) o (o + 3) × Points (set (set (set m o x) (o + 1) y) (o + 2) z) o b
point_written m o b x y z room on f a e =
    let m1 = set m o x in
    let m2 = set m1 (o + 1) y in
    let long1 = length-set m o x in
    let long2 = length-set m1 (o + 1) y in (
      writes_next (writes_next (writes_next writes_none o x (omega arith) (omega arith)) (o + 1) y (omega arith) (omega arith)) (o + 2) z (omega arith) (omega arith),
      record {
        on = on;
        fault_is = ap (λ (k : ℕ). k % 256) (get_or-set_other m2 (o + 2) o z 0 (λ q. omega arith) ∙ get_or-set_other m1 (o + 1) o y 0 (λ q. omega arith) ∙ get_or-set_same m o x 0 (omega arith)) ∙ f;
        at_is = get_or-set_other m2 (o + 2) (o + 1) z 0 (λ q. omega arith) ∙ get_or-set_same m1 (o + 1) y 0 (omega (arith, long1)) ∙ a;
        end_is = get_or-set_same m2 (o + 2) z 0 (omega (arith, long1, long2)) ∙ e;
      },
    )

-- a place points at one cursor
one_cursor : {m m' : List ℕ} {o : ℕ} {b c : Cursor} → Points m o b → Points m' o c → get_or m' o 0 ≡ get_or m o 0 → get_or m' (o + 1) 0 ≡ get_or m (o + 1) 0
    → get_or m' (o + 2) 0 ≡ get_or m (o + 2) 0 → c ≡ b
one_cursor {b = b} {c = c} x y f a e =
    let n : c.no ≡ b.no = y.on ∙ sym x.on in
    let p : c.fault ≡ b.fault = sym y.fault_is ∙ ap (λ (k : ℕ). k % 256) f ∙ x.fault_is in
    let q : c.at ≡ b.at = sym y.at_is ∙ a ∙ x.at_is in
    let r : c.end ≡ b.end = sym y.end_is ∙ e ∙ x.end_is in
    λ i. record { no = n i; fault = p i; at = q i; end = r i }

-- ---- pictures, one signal at a time

pub pictures_all : {m : List ℕ} {o s n t : ℕ} {v : ℕ → ℕ} → s ≡ n → Pictures m o s t v → Pictures m o n t v
pictures_all e x = record { table_is = x.table_is; pins_are = λ i h. x.pins_are i (omega arith) }

-- a place that is written behind those of the first s signals: they are as before, and it has this number
module _ (m : List ℕ) (o s x : ℕ) (room : o + picture_size ≤ length m) (few : s + 1 < picture_size) where
  drawn_table : get_or (set m (o + 1 + s) x) o 0 ≡ get_or m o 0
  drawn_table = get_or-set_other m (o + 1 + s) o x 0 λ z. omega arith

  drawn : (i : ℕ) → i < s + 1 → (z : Bool) → eqb i s ≡ z → get_or (set m (o + 1 + s) x) (o + 1 + i) 0 ≡ elim z [ true ↦ x | false ↦ get_or m (o + 1 + i) 0 ]
  drawn i h true e = let q = eqb-true i s e in rw q (get_or-set_same m (o + 1 + s) x 0 (omega arith))
  drawn i h false e = let d = eqb-false i s e in get_or-set_other m (o + 1 + s) (o + 1 + i) x 0 λ z. omega arith

  -- the next pin is drawn
  pub pictured_next : {m₀ : List ℕ} {t : ℕ} {v : ℕ → ℕ} → Writes m₀ m o (o + picture_size) → Pictures m o s t v → x % 256 ≡ v s
      → Writes m₀ (set m (o + 1 + s) x) o (o + picture_size) × Pictures (set m (o + 1 + s) x) o (s + 1) t v
  pictured_next {v = v} w p e = (
    writes_next w (o + 1 + s) x (omega arith) (omega arith),
    record { table_is = drawn_table ∙ p.table_is; pins_are = λ i h. by i h (eqb i s) refl },
  )
    where
      by : (i : ℕ) → i < s + 1 → (z : Bool) → eqb i s ≡ z → get_or (set m (o + 1 + s) x) (o + 1 + i) 0 % 256 ≡ v i
      by i h true q = ap (λ (k : ℕ). k % 256) (drawn i h true q) ∙ rw (eqb-true i s q) e
      by i h false q = let d = eqb-false i s q in ap (λ (k : ℕ). k % 256) (drawn i h false q) ∙ p.pins_are i (omega arith)

  -- the next signal's marks
  pub traced_next : {m₀ : List ℕ} {t : ℕ} {v : ℕ → ℕ} → Writes m₀ m o (o + picture_size) → Traces m o s t v → x % marks_most ≡ v s
      → Writes m₀ (set m (o + 1 + s) x) o (o + picture_size) × Traces (set m (o + 1 + s) x) o (s + 1) t v
  traced_next {v = v} w p e = (
    writes_next w (o + 1 + s) x (omega arith) (omega arith),
    record { table_is = drawn_table ∙ p.table_is; marks_are = λ i h. by i h (eqb i s) refl },
  )
    where
      by : (i : ℕ) → i < s + 1 → (z : Bool) → eqb i s ≡ z → get_or (set m (o + 1 + s) x) (o + 1 + i) 0 % marks_most ≡ v i
      by i h true q = ap (λ (k : ℕ). k % marks_most) (drawn i h true q) ∙ rw (eqb-true i s q) e
      by i h false q = let d = eqb-false i s q in ap (λ (k : ℕ). k % marks_most) (drawn i h false q) ∙ p.marks_are i (omega arith)

-- the marks that are drawn are those that stood there before the row was begun
pub traces_from : {m m1 m2 m3 : List ℕ} {o n t o1 e1 o2 e2 : ℕ} (from : ℕ) → n ≤ signals_most → Writes m m1 o1 e1 → from + signals_most ≤ o1 → Writes m1 m2 o2 e2 → from + signals_most ≤ o2
    → Traces m3 o n t (marks_from m2 from) → Traces m3 o n t (marks_from m from)
traces_from from few a p b q x = record {
  table_is = x.table_is;
  marks_are = λ s h. x.marks_are s h ∙ ap (λ (k : ℕ). k % marks_most) (b.others (from + s) (λ c d. omega arith) ∙ a.others (from + s) (λ c d. omega arith));
}

-- ---- pins that a use assigned

module _ {m : List ℕ} {o s : ℕ} {v₀ v : List ℕ} (r : Restores m o s v₀ v) where
  -- the next signal: what was assigned, or what stood there before
  pub restores_next : (x y : ℕ) → s < length v → y ≡ get_or m (o + behind_at + 1 + s) 0 % 256
      → (is_marked (marks_from m (o + before_at + 1) s) assigned_mark ≡ true → x ≡ y) × (is_marked (marks_from m (o + before_at + 1) s) assigned_mark ≡ false → x ≡ get_or v s 0)
      → Restores m o (s + 1) v₀ (set v s x)
  restores_next x y l e q = record {
    long = length-set v s x ∙ r.long;
    rows = λ i h. get_or-set_other v s i x 0 (λ z. omega arith) ∙ r.rows i (omega arith);
    put = λ i h. put_by i h (eqb i s) refl;
    kept = λ i h. kept_by i h (eqb i s) refl;
  }
    where
      same : (i : ℕ) (z : Bool) → i ≡ s → is_marked (marks_from m (o + before_at + 1) i) assigned_mark ≡ z → is_marked (marks_from m (o + before_at + 1) s) assigned_mark ≡ z
      same i z e g = ap (λ (k : ℕ). is_marked (marks_from m (o + before_at + 1) k) assigned_mark) (sym e) ∙ g

      put_by : (i : ℕ) → i < s + 1 → (z : Bool) → eqb i s ≡ z → is_marked (marks_from m (o + before_at + 1) i) assigned_mark ≡ true
          → get_or (set v s x) i 0 ≡ get_or m (o + behind_at + 1 + i) 0 % 256
      put_by i h true p g = let w = eqb-true i s p in rw w (get_or-set_same v s x 0 l ∙ q.0 (same i true w g) ∙ e)
      put_by i h false p g = let d = eqb-false i s p in get_or-set_other v s i x 0 d ∙ r.put i (omega arith) g

      kept_by : (i : ℕ) → i < s + 1 → (z : Bool) → eqb i s ≡ z → is_marked (marks_from m (o + before_at + 1) i) assigned_mark ≡ false → get_or (set v s x) i 0 ≡ get_or v₀ i 0
      kept_by i h true p g = let w = eqb-true i s p in rw w (get_or-set_same v s x 0 l ∙ q.1 (same i false w g) ∙ r.rows s (omega arith))
      kept_by i h false p g = let d = eqb-false i s p in get_or-set_other v s i x 0 d ∙ r.kept i (omega arith) g

  pub restores_all : {n : ℕ} → s ≡ n → Restores m o n v₀ v
  restores_all e = record { long = r.long; rows = λ i h. r.rows i (omega arith); put = λ i h. r.put i (omega arith); kept = λ i h. r.kept i (omega arith) }

-- ---- a row that is found

-- what it tells
pub recalled_row : {m : List ℕ} {n : ℕ} {u : Use} {t : ℕ} {v v' : List ℕ} {at : ℕ} {r : Recalled} → Finds m u t at → Brings m n at v v' r
    → (j : ℕ) × Row m n j (telling u r.cursor t (marks_from m (at + before_at + 1)) r.table (λ s. get_or m (at + behind_at + 1 + s) 0 % 256))
recalled_row {m} {n} {u} {t} {at = at} {r = r} x y =
    let j = x.row in
    let before : Traces m (at + before_at) n t (marks_from m (at + before_at + 1)) = record { table_is = x.before; marks_are = λ s h. refl } in
    let behind : Pictures m (at + behind_at) n r.table (λ s. get_or m (at + behind_at + 1 + s) 0 % 256) = record { table_is = y.table_is; pins_are = λ s h. refl } in (
      j.0,
      record {
        noted = rw j.1 at x.noted;
        pointed = rw j.1 at y.pointed;
        before = subst (λ (o : ℕ). Traces m (o + before_at) n t (marks_from m (at + before_at + 1))) j.1 before;
        behind = subst (λ (o : ℕ). Pictures m (o + behind_at) n r.table (λ s. get_or m (at + behind_at + 1 + s) 0 % 256)) j.1 behind;
      },
    )

-- ---- one row

-- a row whose places are as they were tells what it told
pub row_same : {m m' : List ℕ} {n j : ℕ} {y : Told} → n < picture_size → ((i : ℕ) → row_at j ≤ i → i < row_at j + memo_row → get_or m' i 0 ≡ get_or m i 0) → Row m' n j y → Row m n j y
row_same {m} {m'} {n} {j} few away r = record {
  noted = record {
    in_use = sym (away (row_at j) (omega arith) (omega arith)) ∙ r.noted.in_use;
    seconds_fit = omega (arith, away (row_at j + 1) (omega arith) (omega arith), r.noted.seconds_fit);
    fault_is = sym (away (row_at j + 2) (omega arith) (omega arith)) ∙ r.noted.fault_is;
    at_is = sym (away (row_at j + 3) (omega arith) (omega arith)) ∙ r.noted.at_is;
    end_is = sym (away (row_at j + 4) (omega arith) (omega arith)) ∙ r.noted.end_is;
  };
  pointed = record {
    on = r.pointed.on;
    fault_is = ap (λ (z : ℕ). z % 256) (sym (away (row_at j + points_at) (omega arith) (omega arith))) ∙ r.pointed.fault_is;
    at_is = sym (away (row_at j + points_at + 1) (omega arith) (omega arith)) ∙ r.pointed.at_is;
    end_is = sym (away (row_at j + points_at + 2) (omega arith) (omega arith)) ∙ r.pointed.end_is;
  };
  before = record {
    table_is = sym (away (row_at j + before_at) (omega arith) (omega arith)) ∙ r.before.table_is;
    marks_are = λ s h. ap (λ (z : ℕ). z % marks_most) (sym (away (row_at j + before_at + 1 + s) (omega arith) (omega arith))) ∙ r.before.marks_are s h;
  };
  behind = record {
    table_is = sym (away (row_at j + behind_at) (omega arith) (omega arith)) ∙ r.behind.table_is;
    pins_are = λ s h. ap (λ (z : ℕ). z % 256) (sym (away (row_at j + behind_at + 1 + s) (omega arith) (omega arith))) ∙ r.behind.pins_are s h;
  };
}

-- what is tracked stands before all rows
pub row_tracked : {m m' : List ℕ} {n j : ℕ} {y : Told} (level : ℕ) → n < picture_size → level ≤ depth_most → AtLevel m m' level → Row m' n j y → Row m n j y
row_tracked {j = j} level few l w r = row_same few (λ i a b. w.others i λ p q. omega arith) r

module _ {m m1 m2 m3 m4 : List ℕ} {n o : ℕ} (k : ℕ) {u : Use} {b : Cursor} {t : ℕ} {v : ℕ → ℕ} {t' : ℕ} {v' : ℕ → ℕ} (few : n < picture_size) (o_is : o ≡ row_at k)
    (w1 : Writes m m1 o (o + 5)) (n1 : Notes m1 o u) (seconds-are : get_or m1 (o + 1) 0 ≡ u.seconds) (w2 : Writes m1 m2 (o + points_at) (o + points_at + 3)) (p2 : Points m2 (o + points_at) b)
    (w3 : Writes m2 m3 (o + before_at) (o + before_at + picture_size)) (p3 : Traces m3 (o + before_at) n t v)
    (w4 : Writes m3 m4 (o + behind_at) (o + behind_at + picture_size)) (p4 : Pictures m4 (o + behind_at) n t' v') where
  abbrev told : Told
  told = telling u b t v t' v'

  -- a place of another row
  elsewhere : (i : ℕ) → (o ≤ i → i < o + memo_row → ⊥) → get_or m4 i 0 ≡ get_or m i 0
  elsewhere i h =
      w4.others i (λ a b. h (omega arith) (omega arith)) ∙ w3.others i (λ a b. h (omega arith) (omega arith))
      ∙ w2.others i (λ a b. h (omega arith) (omega arith)) ∙ w1.others i (λ a b. h (omega arith) (omega arith))

  -- the note's
  front : (i : ℕ) → i < o + points_at → get_or m4 i 0 ≡ get_or m1 i 0
  front i h = w4.others i (λ a b. omega arith) ∙ w3.others i (λ a b. omega arith) ∙ w2.others i (λ a b. omega arith)

  -- the cursor's
  second : (i : ℕ) → i < o + before_at → get_or m4 i 0 ≡ get_or m2 i 0
  second i h = w4.others i (λ a b. omega arith) ∙ w3.others i (λ a b. omega arith)

  -- the marks'
  middle : (i : ℕ) → i < o + behind_at → get_or m4 i 0 ≡ get_or m3 i 0
  middle i h = w4.others i λ a b. omega arith

  module _ {j : ℕ} {y : Told} (r : Row m4 n j y) where
    this_row : j ≡ k → SameUse n told y
    this_row e =
        let q : row_at j ≡ o = omega arith in
        let a : Notes m4 o y.of_use = rw q at r.noted in
        let d : Points m4 (o + points_at) y.cursor = rw q at r.pointed in
        let b : Traces m4 (o + before_at) n y.table y.marks = rw q at r.before in
        let c : Pictures m4 (o + behind_at) n y.table_behind y.pins_behind = rw q at r.behind in
        record {
          seconds_fit = omega (arith, a.seconds_fit, front (o + 1) (omega arith), seconds-are);
          fault_is = sym a.fault_is ∙ front (o + 2) (omega arith) ∙ n1.fault_is;
          at_is = sym a.at_is ∙ front (o + 3) (omega arith) ∙ n1.at_is;
          end_is = sym a.end_is ∙ front (o + 4) (omega arith) ∙ n1.end_is;
          cursor_is = one_cursor p2 d (second (o + points_at) (omega arith)) (second (o + points_at + 1) (omega arith)) (second (o + points_at + 2) (omega arith));
          table_is = sym b.table_is ∙ middle (o + before_at) (omega arith) ∙ p3.table_is;
          marks_are = λ s h. sym (b.marks_are s h) ∙ ap (λ (z : ℕ). z % marks_most) (middle (o + before_at + 1 + s) (omega arith)) ∙ p3.marks_are s h;
          behind_is = sym c.table_is ∙ p4.table_is;
          behind_are = λ s h. sym (c.pins_are s h) ∙ p4.pins_are s h;
        }

    other_row : (j ≡ k → ⊥) → Row m n j y
    other_row d = row_same few (λ i a b. elsewhere i λ p q. d (omega arith)) r

  -- THE LAW
  pub row_written : Remembered m m4 n told
  row_written = record {
    long = w4.long ∙ w3.long ∙ w2.long ∙ w1.long;
    tracks = λ i h. elsewhere i (λ p q. omega arith);
    each = λ j y r. by j y r (eqb j k) refl;
  }
    where
      by : (j : ℕ) (y : Told) → Row m4 n j y → (z : Bool) → eqb j k ≡ z → Row m n j y ⊎ SameUse n told y
      by j y r true e = inr (this_row r (eqb-true j k e))
      by j y r false e = inl (other_row r (eqb-false j k e))

-- no row was written
pub row_kept : {m : List ℕ} {n : ℕ} {x : Told} → Remembered m m n x
row_kept = record { long = refl; tracks = λ i h. refl; each = λ j y r. inl r }
