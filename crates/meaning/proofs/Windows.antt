-- Windows laid end to end from cycle 0, whatever their sizes, join to the run's rows as far as they reach, and never to one past the end.
use mathlib.Core.Path.{◌≡◌, refl, sym, ap, ap₂, ◌∙◌}
use Prim.Native.Nat.{ℕ, zero, suc, ◌+◌, ◌-◌, ◌*◌, ◌≤◌, min, ◌<◌}
use native.Mathlib.Numerals.{unary_clauses}
use native.Mathlib.Omega.{arith}
use native.Mathlib.Nat.{suc-mul, mul-le-mul_right}
use mathlib.Core.Bool.{false}
use mathlib.Core.List.{List, [], ◌∷◌, ◌++◌, append_assoc}
use lib.ListN.{length, take, drop, length-drop}
use lib.Seq.{take_at, take-add, drop-drop, length-take-le}
use borrow.Author.Tests.{le-leb}
use Rattle.meaning.specs.Run.{Cycle, cycles, cycles_of}
use Rattle.meaning.specs.Meaning.{Answer, given, answering, Meaning, meaning}
use Rattle.meaning.specs.Services.{bad_mark, row, rows, row_width, window, window_of, rows_out, window_rows, rows_due, width_of}
use Rattle.meaning.specs.Windows.{Lent, rows_given, joined, Roomy, reach}
use Rattle.meaning.proofs.Rows.{AllWide, rows_are_cycles, every_cycle_wide, rows_width}

pub rows-++ : (mark : ℕ) (cs ds : List Cycle) → rows mark (cs ++ ds) ≡ rows mark cs ++ rows mark ds
unfolding rows
rows-++ mark [] ds = refl
rows-++ mark (c ∷ cs) ds =
    ap (λ (l : List ℕ). row mark c ++ l) (rows-++ mark cs ds) ∙ sym (append_assoc (row mark c) (rows mark cs) (rows mark ds))

-- row k of those due lies within
pub row_room : (k due w long : ℕ) → k < due → due * w ≤ long → k * w + w ≤ long
row_room k due w long h g = omega (arith, mul-le-mul_right {m = suc k} {n = due} w h, suc-mul k w)

pub wide_take : (n k : ℕ) (cs : List Cycle) → AllWide n cs → AllWide n (take k cs)
wide_take n zero cs h = tt
wide_take n (suc k) [] h = tt
wide_take n (suc k) (c ∷ cs) h = (h.0, wide_take n k cs h.1)

pub wide_drop : (n k : ℕ) (cs : List Cycle) → AllWide n cs → AllWide n (drop k cs)
wide_drop n zero cs h = h
wide_drop n (suc k) [] h = tt
wide_drop n (suc k) (c ∷ cs) h = wide_drop n k cs h.1

-- as many as there are, where more are asked for
pub take_min : {A : Type 0} (k : ℕ) (l : List A) → take (min k (length l)) l ≡ take k l
take_min zero l = simp unary_clauses
take_min (suc k) [] = simp unary_clauses
take_min (suc k) (x ∷ l) = simp unary_clauses (ap (λ r. x ∷ r) (take_min k l))

module _ (m : Meaning) (mark : ℕ) where
  abbrev all : List Cycle
  all = cycles_of (length m.signals) m.run

  -- the rows of a window are those of the next `wanted` cycles, as far as there are any
  pub window_rows_lem : (first wanted : ℕ) → window_rows m first wanted mark ≡ rows mark (take wanted (drop first all))
  unfolding window_rows rows_due
  window_rows_lem first wanted =
      let n : cycles 0 m.run - first ≡ length (drop first all) = ap (λ (k : ℕ). k - first) (sym (rows_are_cycles (length m.signals) m.run)) ∙ sym (length-drop first all) in
      ap (λ (k : ℕ). rows mark (take (min wanted k) (drop first all))) n ∙ ap (rows mark) (take_min wanted (drop first all))

  pub window_width : (first wanted : ℕ) → length (window_rows m first wanted mark) ≡ rows_due m first wanted * width_of m
  unfolding window_rows rows_due width_of
  window_width first wanted =
      let n = length m.signals in
      let d = drop first all in
      let k = min wanted (cycles 0 m.run - first) in
      let l : length d ≡ cycles 0 m.run - first = length-drop first all ∙ ap (λ (k : ℕ). k - first) (rows_are_cycles n m.run) in
      rows_width mark n (take k d) (wide_take n k d (wide_drop n first all (every_cycle_wide n m.run)))
      ∙ ap (λ (j : ℕ). j * row_width n) (length-take-le k d (omega arith))

  -- where there is room, a window gives them
  window_gives : (text : List ℕ) → meaning text ≡ given m → bad_mark mark ≡ false → (first wanted : ℕ) (buffer : List ℕ)
      → rows_due m first wanted * width_of m ≤ length buffer
      → rows_given (width_of m) (window text first wanted mark buffer) ≡ rows mark (take wanted (drop first all))
  unfolding window answering window_of rows_out rows_given
  window_gives text e good first wanted buffer h =
      ap (λ (a : Answer Meaning). rows_given (width_of m) (answering a λ m. window_of m first wanted mark buffer)) e
      ∙ rw (good, le-leb (rows_due m first wanted * width_of m) (length buffer) h, window_of, rows_out)
      (take_at (window_rows m first wanted mark) (drop (rows_due m first wanted * width_of m) buffer) (rows_due m first wanted * width_of m) (window_width first wanted))
      ∙ window_rows_lem first wanted

  -- THE LAW: laid end to end from any cycle, all with one mark
  pub windows_join : (text : List ℕ) → meaning text ≡ given m → bad_mark mark ≡ false → (first : ℕ) (ls : List Lent) → Roomy m first ls
      → joined text (width_of m) mark first ls ≡ rows mark (take (reach ls) (drop first all))
  unfolding joined Roomy reach rows
  windows_join text e good first [] h = refl
  windows_join text e good first (l ∷ ls) h =
      ap₂ (λ (a b : List ℕ). a ++ b) (window_gives text e good first l.wanted l.buffer h.0) (windows_join text e good (first + l.wanted) ls h.1)
      ∙ ap (λ (d : List Cycle). rows mark (take l.wanted (drop first all)) ++ rows mark (take (reach ls) d)) (sym (drop-drop l.wanted first all))
      ∙ sym (rows-++ mark (take l.wanted (drop first all)) (take (reach ls) (drop l.wanted (drop first all))))
      ∙ ap (rows mark) (sym (take-add l.wanted (reach ls) (drop first all)))
