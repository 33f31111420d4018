-- What a window writes with the mark 0 are the rows themselves; window by window they are a listed pattern's.
use Prim.Native.Nat.{ℕ, suc, ◌+◌, ◌*◌, ◌-◌, ◌≤◌}
use native.Mathlib.Nat.{suc-mul, zero-mul}
use native.Mathlib.Omega.{arith}
use mathlib.Core.Path.{◌≡◌, refl, sym, ap, ap₂, ◌∙◌, subst}
use mathlib.Core.Bool.{Bool, true, false}
use mathlib.Core.Option.{Option, none, some}
use mathlib.Core.List.{List, [], ◌∷◌, ◌++◌, append_assoc}
use lib.Dec.{eqb}
use lib.ListN.{length, get_or, take, drop, length-append}
use lib.Seq.{take_at, drop_at, get_or-append_seam}
use borrow.Author.Tests.{eqb-true}
use Rattle.meaning.specs.Run.{Cycle, unassigned, cycles, cycles_of}
use Rattle.meaning.specs.Meaning.{Meaning}
use Rattle.meaning.specs.Services.{shown, shown_all, digit_of, row, rows, row_width}
use Rattle.meaning.proofs.Rows.{AllWide, every_cycle_wide, rows_are_cycles, row_width_lem}
use Rattle.meaning.proofs.Windows.{wide_take, wide_drop}
use Rattle.walks.specs.Seen.{seen}
use Rattle.walks.proofs.Seen.{length_seen, seen_more}
use Rattle.plays.specs.Plays.{Ground}
use Rattle.windows.specs.Run.{Accepts, Windows}
use Rattle.folded.specs.Flat.{Row, table_of, row_of, rows_of}
use Rattle.folded.proofs.Source.{rows-++}
use Rattle.stretches.specs.Rows.{row_in, rows_in}
use Rattle.stretches.specs.declared.Folding.{Folding}
use Rattle.stretches.proofs.Taking.{takes_none, takes_both}
use Rattle.flats.specs.Meant.{Meant, signals_in, tables_in, Shows}

-- ---- one row

-- an unassigned pin holds the mark
shown_self : (c : ℕ) → shown 0 c ≡ c
unfolding shown
shown_self c = by (eqb c unassigned) refl
  where
    by : (b : Bool) → eqb c unassigned ≡ b → elim b as (λ z. ℕ) [ true ↦ 0 | false ↦ c ] ≡ c
    by true e = sym (eqb-true c unassigned e)
    by false e = refl

shown_all_lem : (l : List ℕ) → shown_all 0 l ≡ l
unfolding shown_all
shown_all_lem [] = refl
shown_all_lem (c ∷ l) = ap₂ (λ (x : ℕ) (k : List ℕ). x ∷ k) (shown_self c) (shown_all_lem l)

digit_back : (t : Option ℕ) → digit_of t - 48 ≡ table_of t
unfolding digit_of table_of
digit_back none = refl
digit_back (some k) = omega arith

row_back : (n : ℕ) (c : Cycle) → length c.pins ≡ n → row_in n (row 0 c) ≡ row_of c
unfolding row row_of
row_back n c h =
    let tail = digit_of c.table ∷ 10 ∷ [] in
    let seam : get_or (c.pins ++ tail) n 0 ≡ digit_of c.table = subst (λ (k : ℕ). get_or (c.pins ++ tail) k 0 ≡ digit_of c.table) h (get_or-append_seam c.pins (digit_of c.table) (10 ∷ []) 0) in
    ap (λ (l : List ℕ). row_in n (l ++ tail)) (shown_all_lem c.pins)
    ∙ ap₂ (λ (k : ℕ) (l : List ℕ). record { table = k - 48; pins = l }) seam (take_at c.pins tail n h)
    ∙ ap (λ (k : ℕ). record { table = k; pins = c.pins }) (digit_back c.table)

-- ---- rows one behind the other

rows_behind : (n : ℕ) (cs : List Cycle) → AllWide n cs → (front rest : List ℕ) (r : ℕ) → length front ≡ r * (n + 2) → rows_in n (front ++ (rows 0 cs ++ rest)) r (length cs) ≡ rows_of cs
unfolding rows_in rows rows_of row_width
rows_behind n [] w front rest r h = refl
rows_behind n (c ∷ cs) w front rest r h =
    let more = rows 0 cs ++ rest in
    let there : (row 0 c ++ rows 0 cs) ++ rest ≡ row 0 c ++ more = append_assoc (row 0 c) (rows 0 cs) rest in
    let first : row_in n (take (n + 2) (drop (r * (n + 2)) (front ++ ((row 0 c ++ rows 0 cs) ++ rest)))) ≡ row_of c =
    ap (λ (l : List ℕ). row_in n (take (n + 2) l)) (drop_at front ((row 0 c ++ rows 0 cs) ++ rest) (r * (n + 2)) h ∙ there)
    ∙ ap (row_in n) (take_at (row 0 c) more (n + 2) (row_width_lem 0 c n w.0)) ∙ row_back n c w.0 in
    let long : length (front ++ row 0 c) ≡ suc r * (n + 2) = length-append front (row 0 c) ∙ omega (arith, h, row_width_lem 0 c n w.0, suc-mul r (n + 2)) in
    let others : rows_in n (front ++ ((row 0 c ++ rows 0 cs) ++ rest)) (suc r) (length cs) ≡ rows_of cs =
    ap (λ (l : List ℕ). rows_in n l (suc r) (length cs)) (ap (λ (l : List ℕ). front ++ l) there ∙ sym (append_assoc front (row 0 c) more)) ∙ rows_behind n cs w.1 (front ++ row 0 c) rest (suc r) long in
    ap₂ (λ (x : Row) (l : List Row). x ∷ l) first others

rows_shown : (n : ℕ) (cs : List Cycle) → AllWide n cs → (rest : List ℕ) → rows_in n (rows 0 cs ++ rest) 0 (length cs) ≡ rows_of cs
rows_shown n cs w rest = rows_behind n cs w [] rest 0 (sym (zero-mul (n + 2)))

-- ---- a window of an accepted text

module _ {g : Ground} {list : List ℕ} {listed patterns sized : ℕ} {m : Meaning} (h : Meant g list listed patterns sized m) (first due : ℕ) (there : first + due ≤ cycles 0 m.run) where
  pub accepts : (buffer : List ℕ) → due * (g.signals + 2) ≤ length buffer
      → Accepts g.text g.places g.lists g.tplaces g.waves g.book g.rows list g.known g.signals listed patterns sized first due buffer h.parts h.read m
  unfolding row_width
  accepts buffer room = record { runs = h.runs; meant = h.meant; size_is = h.size_is; due_there = omega arith; room = room }

  pub shows_rows : {buffer after : List ℕ} {r : ℕ} → Windows g.signals first due 0 buffer m r after → rows_in g.signals after 0 due ≡ rows_of (seen first due (cycles_of g.signals m.run))
  shows_rows {buffer} w =
      let n = g.signals in
      let cs = seen first due (cycles_of n m.run) in
      let many : length cs ≡ due = length_seen first due (cycles_of n m.run) ∙ omega (arith, rows_are_cycles n m.run) in
      ap₂ (λ (l : List ℕ) (k : ℕ). rows_in n l 0 k) w.rows_are (sym many)
      ∙ rows_shown n cs (wide_take n due _ (wide_drop n first _ (every_cycle_wide n m.run))) (drop (due * row_width n) buffer)

-- ---- window by window

pub shows_none : (g : Ground) (list : List ℕ) (listed patterns sized first : ℕ) (entry : List ℕ) (f : Folding) (hand : List ℕ) → Shows g list listed patterns sized first 0 entry f hand entry f hand
unfolding rows_of
shows_none g list listed patterns sized first entry f hand =
    record { shown = []; many = refl; takes = takes_none (signals_in g) (tables_in g) g.signals entry f hand; are = λ m h t. refl }

module _ {g : Ground} {list : List ℕ} {listed patterns sized first done : ℕ} {entry mid hand hand₁ : List ℕ} {f f₁ : Folding} (s : Shows g list listed patterns sized first done entry f hand mid f₁ hand₁) where
  pub shows_more : {due : ℕ} {exit hand₂ : List ℕ} {r : Folding} → Shows g list listed patterns sized (first + done) due mid f₁ hand₁ exit r hand₂
      → Shows g list listed patterns sized first (done + due) entry f hand exit r hand₂
  shows_more {due} t = record {
    shown = s.shown ++ t.shown;
    many = length-append s.shown t.shown ∙ ap₂ (λ (a b : ℕ). a + b) s.many t.many;
    takes = takes_both (signals_in g) (tables_in g) s.takes t.takes;
    are = λ m h l. (
        ap₂ (λ (a b : List Row). a ++ b) (s.are m h (omega arith)) (t.are m h (omega arith))
        ∙ sym (rows-++ (seen first done (cycles_of g.signals m.run)) (seen (first + done) due (cycles_of g.signals m.run)))
        ∙ ap rows_of (sym (seen_more first done due (cycles_of g.signals m.run))));
  }

  -- all of them
  pub shows_all : {count : ℕ} → done ≡ count → Shows g list listed patterns sized first count entry f hand mid f₁ hand₁
  shows_all e = rw (← e) s
