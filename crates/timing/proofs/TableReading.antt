-- Tables as they are read: a name, the head, the waveforms; and the code's marks of all tables, of which each has its own part.
use Prim.Native.Nat.{ℕ, zero, suc, ◌+◌, ◌*◌, ◌-◌, ◌≤◌, ◌<◌}
use native.Mathlib.Omega.{arith}
use mathlib.Core.Path.{◌≡◌, refl, sym, ap, ◌∙◌, subst}
use mathlib.Core.Bool.{Bool, true, false, ◌&&◌}
use mathlib.Core.List.{List, [], ◌∷◌, ◌++◌}
use lib.ListN.{length, get_or, take, drop, set, length-set, length-take, get_or-append}
use lib.Seq.{get_or-take, get_or-drop, get_or-append-add, get_or-set_same, get_or-set_other}
use lib.Dec.{eqb, ltb, leb}
use borrow.Author.Tests.{eqb-true, eqb-false, ltb-true, ltb-false, leb-false, lt-ltb, le-ltb}
use Rattle.tokens.specs.Tokens.{Tok}
use Rattle.meaning.specs.Bounds.{signals_most, tables_most}
use Rattle.meaning.specs.Refusals.{too_many}
use Rattle.meaning.specs.Reader.{Reader, ◌>>=◌, give, due, until}
use Rattle.meaning.specs.Names.{new_name}
use Rattle.meaning.specs.Signals.{Names}
use Rattle.meaning.specs.Timing.{Wave, Table, Tables, waveforms, table}
use Rattle.meaning.specs.Meaning.{has_wave, table_at, firsts}
use Rattle.meaning.proofs.Takes.{Takes}
use Rattle.meaning.proofs.Taking.{takes_keeps, takes_due, takes_new, takes_bind, keeps_bind, keeps_if, keeps_give, takes_until}
use Rattle.meaning.proofs.Listed.{length_firsts}
use Rattle.words.specs.Cursor.{ahead, alive, Goes, Checked}
use Rattle.words.specs.declared.Cursor.{Cursor}
use Rattle.words.specs.Table.{names_from, names}
use Rattle.words.proofs.Flow.{then, given, checked, passed, stays, alive_before}
use Rattle.words.proofs.Names.{new_by_number, one_more_lem}
use Rattle.timing.specs.Makes.{Makes, Brings}
use Rattle.timing.specs.Marks.{chars_most, table_size, Marks}
use Rattle.timing.specs.Parts.{block, head_then}
use Rattle.timing.specs.Held.{Held}
use Rattle.timing.specs.Watch.{Watched, Kept}
use Rattle.timing.specs.declared.Watch.{Watch}
use Rattle.std.proofs.Common.{Option as Maybe, None}
use Rattle.timing.proofs.Making.{made, onward}
use Rattle.timing.proofs.EventReading.{takes_quoted}
use Rattle.timing.proofs.EntryReading.{takes_waveforms}
use Rattle.timing.proofs.Watching.{watched_none}

-- ---- names

names_length : (text places : List ℕ) (i k : ℕ) → length (names_from text places i k) ≡ k
unfolding names_from
names_length text places i zero = refl
names_length text places i (suc k) = ap suc (names_length text places (suc i) k)

module _ {text tplaces waves : List ℕ} {k : ℕ} {tabs : Tables} (a : Held text tplaces waves k tabs) where
  pub held_count : length tabs ≡ k
  held_count =
      sym (length_firsts tabs) ∙ ap length a.named ∙ length_firsts (names text tplaces k) ∙ names_length text tplaces 0 k

  held_names : firsts tabs ≡ firsts (names text tplaces k)
  held_names = a.named

-- ---- the tables by number

table_past : (tabs : Tables) (k : ℕ) → length tabs ≤ k → table_at tabs k ≡ []
unfolding table_at
table_past [] k h = refl
table_past (x ∷ tabs) zero h = absurd (omega arith)
table_past (x ∷ tabs) (suc k) h = table_past tabs k (omega arith)

table_last : (tabs : Tables) (x : Tok × Table) (k : ℕ) → length tabs ≡ k → table_at (tabs ++ x ∷ []) k ≡ x.1.waves
unfolding table_at
table_last [] x zero h = refl
table_last [] x (suc k) h = absurd (omega arith)
table_last (y ∷ tabs) x zero h = absurd (omega arith)
table_last (y ∷ tabs) x (suc k) h = table_last tabs x k (omega arith)

table_other : (tabs : Tables) (x : Tok × Table) (k : ℕ) → (length tabs ≡ k → ⊥) → table_at (tabs ++ x ∷ []) k ≡ table_at tabs k
unfolding table_at
table_other [] x zero h = absurd (h refl)
table_other [] x (suc k) h = refl
table_other (y ∷ tabs) x zero h = refl
table_other (y ∷ tabs) x (suc k) h = table_other tabs x k (λ q. h (ap suc q))

-- ---- parts of the marks

-- a part of a list, put back
abbrev put : ℕ → ℕ → List ℕ → List ℕ → List ℕ
put lo n xs ys = take lo xs ++ (ys ++ drop n (drop lo xs))

module _ (lo n : ℕ) (xs ys : List ℕ) (l : length ys ≡ n) (h : lo + n ≤ length xs) where
  front : length (take lo xs) ≡ lo
  front = omega (arith, length-take lo xs)

  put_before : (j : ℕ) → j < lo → get_or (put lo n xs ys) j 0 ≡ get_or xs j 0
  put_before j k = get_or-append (take lo xs) _ 0 j (omega (arith, front)) ∙ get_or-take lo xs j 0 k

  put_inside : (m : ℕ) → m < n → get_or (put lo n xs ys) (lo + m) 0 ≡ get_or ys m 0
  put_inside m k =
      ap (λ (x : ℕ). get_or (put lo n xs ys) (x + m) 0) (sym front) ∙ get_or-append-add (take lo xs) (ys ++ drop n (drop lo xs)) m 0
      ∙ get_or-append ys _ 0 m (omega arith)

  put_behind : (m : ℕ) → get_or (put lo n xs ys) (lo + (n + m)) 0 ≡ get_or xs (lo + (n + m)) 0
  put_behind m =
      ap (λ (x : ℕ). get_or (put lo n xs ys) (x + (n + m)) 0) (sym front) ∙ get_or-append-add (take lo xs) (ys ++ drop n (drop lo xs)) (n + m) 0
      ∙ ap (λ (x : ℕ). get_or (ys ++ drop n (drop lo xs)) (x + m) 0) (sym l) ∙ get_or-append-add ys (drop n (drop lo xs)) m 0
      ∙ get_or-drop n (drop lo xs) m 0 ∙ get_or-drop lo xs (n + m) 0

abbrev pub part : ℕ → List ℕ → List ℕ
part k waves = take (k * table_size + table_size - k * table_size) (drop (k * table_size) waves)

part_at : (k : ℕ) (waves : List ℕ) (j : ℕ) → j < table_size → get_or (part k waves) j 0 ≡ get_or waves (k * table_size + j) 0
part_at k waves j h = get_or-take (k * table_size + table_size - k * table_size) (drop (k * table_size) waves) j 0 (omega arith) ∙ get_or-drop (k * table_size) waves j 0

-- no table has been read there yet
pub part_free : {text tplaces waves : List ℕ} {k : ℕ} {tabs : Tables} → Held text tplaces waves k tabs → k < tables_most → Marks (part k waves) []
unfolding has_wave
part_free {text} {tplaces} {waves} {k} {tabs} a h = record { each = λ s b q. by s b q (ltb b chars_most) refl }
  where
    by : (s b : ℕ) → s < signals_most → (x : Bool) → ltb b chars_most ≡ x → (x && eqb (get_or (part k waves) (s * chars_most + b) 0) 1) ≡ false
    by s b q false e = refl
    by s b q true e =
        let o : b < chars_most = ltb-true b chars_most e in
        let i : k * table_size + (s * chars_most + b) ≡ (k * signals_most + s) * chars_most + b = omega arith in
        ap (λ (x : ℕ). eqb x 1) (part_at k waves (s * chars_most + b) (omega arith)) ∙ ap (λ (j : ℕ). eqb (get_or waves j 0) 1) i ∙ a.marks k s b h q o
        ∙ ap (has_wave s b) (table_past tabs k (omega (arith, held_count a)))

-- ---- one table more

pub held_none : (text tplaces waves : List ℕ) → ((i : ℕ) → get_or waves i 0 ≡ 0) → Held text tplaces waves 0 []
unfolding firsts names_from table_at has_wave
held_none text tplaces waves z =
    record {
      few = omega arith;
      named = refl;
      marks = λ k s b h q o. ap (λ (x : ℕ). eqb x 1) (z ((k * signals_most + s) * chars_most + b));
      above = λ k s b q o. refl;
    }

pub kept_none : (text tplaces waves : List ℕ) (w : Watch) → ((i : ℕ) → get_or waves i 0 ≡ 0) → Kept text tplaces waves 0 w None []
unfolding table_at
kept_none text tplaces waves w z = record { held = held_none text tplaces waves z; watched = watched_none text w }

module _ {text tplaces waves : List ℕ} {k : ℕ} {tabs : Tables} (a : Held text tplaces waves k tabs) (h : k < tables_most) where
  pub held_more : {after : List ℕ} {ws : List Wave} (b : Cursor) (n : ℕ) → length tplaces ≡ tables_most * 2 → length waves ≡ tables_most * table_size
      → length after ≡ table_size → Marks after ws
      → Held text (set (set tplaces (k * 2) b.at) (k * 2 + 1) b.end) (put (k * table_size) (k * table_size + table_size - k * table_size) waves after) (k + 1)
      (tabs ++ (ahead text b, record { period = n; waves = ws }) ∷ [])
  held_more {after} {ws} b n lt lw la m = record { few = omega arith; named = named; marks = marks; above = above }
    where
      x : Tok × Table
      x = (ahead text b, record { period = n; waves = ws })

      places : List ℕ
      places = set (set tplaces (k * 2) b.at) (k * 2 + 1) b.end

      size : k * table_size + table_size - k * table_size ≡ table_size
      size = omega arith

      named : firsts (tabs ++ x ∷ []) ≡ firsts (names text places (k + 1))
      named =
          one_more_lem text tplaces places k tabs b x.1 (held_names a)
          (λ j l. get_or-set_other (set tplaces (k * 2) b.at) (k * 2 + 1) j b.end 0 (λ q. omega arith) ∙ get_or-set_other tplaces (k * 2) j b.at 0 (λ q. omega arith))
          (get_or-set_other (set tplaces (k * 2) b.at) (k * 2 + 1) (k * 2) b.end 0 (λ q. omega arith) ∙ get_or-set_same tplaces (k * 2) b.at 0 (omega arith))
          (get_or-set_same (set tplaces (k * 2) b.at) (k * 2 + 1) b.end 0 (omega (arith, length-set tplaces (k * 2) b.at)))

      all : List ℕ
      all = put (k * table_size) (k * table_size + table_size - k * table_size) waves after

      at : ℕ → ℕ → ℕ → ℕ
      at j s c = (j * signals_most + s) * chars_most + c

      other : (j s c : ℕ) → j < tables_most → s < signals_most → c < chars_most → (k ≡ j → ⊥) → get_or all (at j s c) 0 ≡ get_or waves (at j s c) 0
          → eqb (get_or all (at j s c) 0) 1 ≡ has_wave s c (table_at (tabs ++ x ∷ []) j)
      other j s c p q o d e =
          ap (λ (y : ℕ). eqb y 1) e ∙ a.marks j s c p q o ∙ ap (has_wave s c) (sym (table_other tabs x j (λ z. d (sym (held_count a) ∙ z))))

      above : (j s c : ℕ) → s < signals_most → chars_most ≤ c → has_wave s c (table_at (tabs ++ x ∷ []) j) ≡ false
      above j s c q o = here (eqb k j) refl
        where
          here : (y : Bool) → eqb k j ≡ y → has_wave s c (table_at (tabs ++ x ∷ []) j) ≡ false
          here true e =
              ap (has_wave s c) (table_last tabs x j (held_count a ∙ eqb-true k j e)) ∙ sym (m.each s c q)
              ∙ ap (λ (y : Bool). y && eqb (get_or after (s * chars_most + c) 0) 1) (le-ltb c chars_most o)
          here false e = ap (has_wave s c) (table_other tabs x j (λ z. eqb-false k j e (sym (held_count a) ∙ z))) ∙ a.above j s c q o

      by : (j s c : ℕ) → j < tables_most → s < signals_most → c < chars_most → (y : Bool) → eqb k j ≡ y → (z : Bool) → ltb j k ≡ z
          → eqb (get_or all (at j s c) 0) 1 ≡ has_wave s c (table_at (tabs ++ x ∷ []) j)
      by j s c p q o true e z f =
          let u : k ≡ j = eqb-true k j e in
          let v : at j s c ≡ k * table_size + (s * chars_most + c) = omega arith in
          ap (λ (i : ℕ). eqb (get_or all i 0) 1) v
          ∙ ap (λ (y : ℕ). eqb y 1) (put_inside (k * table_size) (k * table_size + table_size - k * table_size) waves after (la ∙ sym size) (omega arith) (s * chars_most + c) (omega arith))
          ∙ ap (λ (y : Bool). y && eqb (get_or after (s * chars_most + c) 0) 1) (sym (lt-ltb c chars_most o)) ∙ m.each s c q
          ∙ ap (has_wave s c) (sym (table_last tabs x j (held_count a ∙ u)))
      by j s c p q o false e true f =
          let u : j < k = ltb-true j k f in
          other j s c p q o (eqb-false k j e)
          (put_before (k * table_size) (k * table_size + table_size - k * table_size) waves after (la ∙ sym size) (omega arith) (at j s c) (omega arith))
      by j s c p q o false e false f =
          let u : k ≤ j = ltb-false j k f in
          let d : (k ≡ j → ⊥) = eqb-false k j e in
          let v : at j s c ≡ k * table_size + ((k * table_size + table_size - k * table_size) + (at j s c - (k * table_size + table_size))) = omega arith in
          other j s c p q o d
          (ap (λ (i : ℕ). get_or all i 0) v
          ∙ put_behind (k * table_size) (k * table_size + table_size - k * table_size) waves after (la ∙ sym size) (omega arith) (at j s c - (k * table_size + table_size))
          ∙ ap (λ (i : ℕ). get_or waves i 0) (sym v))

      marks : (j s c : ℕ) → j < tables_most → s < signals_most → c < chars_most → eqb (get_or all (at j s c) 0) 1 ≡ has_wave s c (table_at (tabs ++ x ∷ []) j)
      marks j s c p q o = by j s c p q o (eqb k j) refl (ltb j k) refl

-- what was seen stays, unless this is the watched table
module _ {text tplaces waves : List ℕ} {k : ℕ} {tabs : Tables} (a : Held text tplaces waves k tabs) {w : Watch} {sight : Maybe ℕ} (x : Tok × Table) where
  pub watched_here : k ≡ w.table → Watched text w sight x.1.waves → Watched text w sight (table_at (tabs ++ x ∷ []) w.table)
  watched_here e h = subst (λ (ws : List Wave). Watched text w sight ws) (sym (table_last tabs x w.table (held_count a ∙ e))) h

  pub watched_other : (k ≡ w.table → ⊥) → Watched text w sight (table_at tabs w.table) → Watched text w sight (table_at (tabs ++ x ∷ []) w.table)
  watched_other n h = subst (λ (ws : List Wave). Watched text w sight ws) (sym (table_other tabs x w.table (λ z. n (sym (held_count a) ∙ z)))) h

-- ---- a table is read

module _ {text : List ℕ} (tplaces : List ℕ) {c a b d e : Cursor} {k n : ℕ} (word : Goes text c (due "WaveformTable") a c.at)
    (room : Checked a (leb tables_most k) too_many c.at b) (name : Goes text b (new_name (names text tplaces k)) d (ahead text b))
    (head : (j : ℕ → Reader Tables) → Brings text d (head_then j) e (j n)) where
  pub table_room : alive e ≡ true → k < tables_most
  table_room h =
      let g : Goes text d (head_then (λ m. give [])) e [] = record { same = (head (λ m. give [])).same } in
      leb-false tables_most k (passed room refl (alive_before name (alive_before g h)))

  module _ {waves : List ℕ} {tabs : Tables} (ns : Names) (held : Held text tplaces waves k tabs) where
    abbrev then_waves : ℕ → Reader Tables
    then_waves m = until "}" (waveforms ns) [] >>= λ ws. due "}" >>= λ q. give (tabs ++ (ahead text b, record { period = m; waves = ws }) ∷ [])

    behind_name : {r : Cursor} {it : Tables} → Goes text d (head_then then_waves) r it → Goes text c (table ns tabs) r it
    unfolding table head_then
    behind_name g =
        then _ word
        (then _ (checked room (ap (leb tables_most) (sym (held_count held))) refl)
        (then _ (new_by_number text tplaces (record { period = 0; waves = [] }) k tabs (held_names held) name) g))

    pub table_stops : {P : Tables → Type 0} → alive e ≡ false → Makes text c (table ns tabs) e P
    table_stops h =
        made (behind_name (onward (head then_waves) (stays {a = tabs} h)))
        λ q. let o : true ≡ false = sym q ∙ h in let z : ◌≡◌ {A = ℕ} 0 1 = cc in absurd (omega arith)

    pub table_reads : {f r : Cursor} {q : ℕ} {Q : List Wave → Type 0} {P : Tables → Type 0} → Makes text e (block ns []) f Q → Goes text f (due "}") r q
        → ((ws : List Wave) → Q ws → P (tabs ++ (ahead text b, record { period = n; waves = ws }) ∷ [])) → Makes text c (table ns tabs) r P
    table_reads x g p =
        made (behind_name (onward (head then_waves) (then _ x.goes (then _ g given)))) λ h. p x.it (x.held (alive_before g h))

pub takes_table : (ns : Names) (tabs : Tables) → Takes (table ns tabs)
unfolding table
takes_table ns tabs =
    takes_bind _ _ (takes_due _) λ p. keeps_bind _ _ (keeps_if _ _ _) λ u. keeps_bind _ _ (takes_keeps (takes_new tabs)) λ t. keeps_bind _ _ (takes_keeps (takes_due _)) λ v. keeps_bind _ _ (takes_keeps (takes_due _)) λ w. keeps_bind _ _ (takes_keeps (takes_quoted 1)) λ n. keeps_bind _ _ (takes_keeps (takes_due _)) λ x. keeps_bind _ _ (takes_keeps (takes_due _)) λ y. keeps_bind _ _ (takes_keeps (takes_due _)) λ z. keeps_bind _ _ (takes_keeps (takes_until "}" _ (takes_waveforms ns) [])) λ ws. keeps_bind _ _ (takes_keeps (takes_due _)) λ q. keeps_give _
