-- THE THEOREM of request 11: where a text is folded, what stands at the front of the buffer is a text too, with the same signals and tables, the same rows
-- and the same waveforms.
use Prim.Native.Nat.{ℕ, zero, suc, ◌*◌, ◌-◌, ◌≤◌, min}
use native.Mathlib.Omega.{arith}
use mathlib.Core.Path.{◌≡◌, refl, sym, ap, ap₂, ◌∙◌, subst}
use mathlib.Core.Bool.{Bool, true, false, ◌&&◌}
use mathlib.Core.Option.{Option, none, some}
use mathlib.Core.List.{List, [], ◌∷◌, ◌++◌}
use lib.Dec.{leb}
use lib.ListN.{length, take, drop}
use lib.Seq.{take_at}
use borrow.Author.Tests.{leb-true, le-leb}
use Rattle.tokens.specs.Refusals.{text_most}
use Rattle.meaning.specs.Bounds.{patterns_most}
use Rattle.meaning.specs.Refusals.{bad_data, no_such, no_room}
use Rattle.meaning.specs.Timing.{Event}
use Rattle.meaning.specs.Run.{Cycle, cycles, cycles_of, visits}
use Rattle.meaning.specs.Meaning.{Answer, given, refused, answering, table_at, Meaning, meaning_of, meaning}
use Rattle.meaning.specs.Services.{Window, window, window_of, rows_out, rows_due, width_of, row_width, window_rows, bad_mark, row, rows, Waveform, waveform, wave_of, events_out}
use Rattle.meaning.proofs.Rows.{rows_are_cycles}
use Rattle.meaning.proofs.Listed.{length_firsts}
use Rattle.folded.specs.Flat.{Flat, patterns_of, flat}
use Rattle.folded.specs.Layout.{written}
use Rattle.folded.specs.Fold.{folded_most, many_patterns, many_cycles, Folded, folded_in, folded, fold}
use Rattle.folded.specs.Same.{placeless, shown, Same}
use Rattle.folded.proofs.Source.{Source, source}
use Rattle.folded.proofs.Folding.{back, run_is, cycles_same, cycles_count, rows_length_lem, as_many, same_tables, names_same, signals_same, directions_back, patterns_back, flat_again, folded_accepted}

-- ---- windows show no places

rows_placeless : (mark : ℕ) (cs : List Cycle) → rows mark (placeless cs) ≡ rows mark cs
unfolding rows row placeless
rows_placeless mark [] = refl
rows_placeless mark (c ∷ cs) = ap (λ (l : List ℕ). row mark c ++ l) (rows_placeless mark cs)

take_placeless : (k : ℕ) (cs : List Cycle) → take k (placeless cs) ≡ placeless (take k cs)
unfolding placeless
take_placeless zero cs = refl
take_placeless (suc k) [] = refl
take_placeless (suc k) (c ∷ cs) = ap (λ (l : List Cycle). record { at = 0; table = c.table; pins = c.pins } ∷ l) (take_placeless k cs)

drop_placeless : (k : ℕ) (cs : List Cycle) → drop k (placeless cs) ≡ placeless (drop k cs)
unfolding placeless
drop_placeless zero cs = refl
drop_placeless (suc k) [] = refl
drop_placeless (suc k) (c ∷ cs) = drop_placeless k cs

part_shown : (mark k j : ℕ) (cs : List Cycle) → rows mark (take k (drop j (placeless cs))) ≡ rows mark (take k (drop j cs))
part_shown mark k j cs = ap (λ (l : List Cycle). rows mark (take k l)) (drop_placeless j cs) ∙ ap (rows mark) (take_placeless k (drop j cs)) ∙ rows_placeless mark (take k (drop j cs))

-- what is shown, by how many rows are due, how wide they are, and their bytes
abbrev out : (due width : ℕ) → List ℕ → List ℕ → Answer (ℕ × List ℕ)
out due width bytes buffer = elim (leb (due * width) (length buffer)) [ false ↦ refused no_room 0 | true ↦ given (due, bytes ++ drop (due * width) buffer) ]

shown_out : (m : Meaning) (first wanted mark : ℕ) (buffer : List ℕ) → shown (rows_out m first wanted mark buffer) ≡ out (rows_due m first wanted) (width_of m) (window_rows m first wanted mark) buffer
unfolding shown rows_out answering
shown_out m first wanted mark buffer = by (leb (rows_due m first wanted * width_of m) (length buffer))
  where
    by : (b : Bool)
        → ◌≡◌ {A = Answer (ℕ × List ℕ)} (answering {A = Window} (elim b as (λ c. Answer Window) [
          | false ↦ refused no_room 0
          | true ↦ given (record {
            count = rows_due m first wanted;
            visits = visits 0 m.run first;
            buffer = window_rows m first wanted mark ++ drop (rows_due m first wanted * width_of m) buffer;
          })
        ]) λ w. given (w.count, w.buffer))
        (elim b [ false ↦ refused no_room 0 | true ↦ given (rows_due m first wanted, window_rows m first wanted mark ++ drop (rows_due m first wanted * width_of m) buffer) ])
    by false = refl
    by true = refl

module _ (to from : Meaning) (many : length to.signals ≡ length from.signals) (count : cycles 0 to.run ≡ cycles 0 from.run)
    (same : placeless (cycles_of (length to.signals) to.run) ≡ placeless (cycles_of (length from.signals) from.run)) where
  due_same : (first wanted : ℕ) → rows_due to first wanted ≡ rows_due from first wanted
  unfolding rows_due
  due_same first wanted = ap (λ (k : ℕ). min wanted (k - first)) count

  rows_same : (first wanted mark : ℕ) → window_rows to first wanted mark ≡ window_rows from first wanted mark
  unfolding window_rows
  rows_same first wanted mark =
      sym (part_shown mark (rows_due to first wanted) first (cycles_of (length to.signals) to.run))
      ∙ ap₂ (λ (k : ℕ) (l : List Cycle). rows mark (take k (drop first l))) (due_same first wanted) same
      ∙ part_shown mark (rows_due from first wanted) first (cycles_of (length from.signals) from.run)

  out_same : (first wanted mark : ℕ) (buffer : List ℕ) → shown (rows_out to first wanted mark buffer) ≡ shown (rows_out from first wanted mark buffer)
  unfolding width_of
  out_same first wanted mark buffer =
      shown_out to first wanted mark buffer
      ∙ ap (λ (k : ℕ). out k (width_of to) (window_rows to first wanted mark) buffer) (due_same first wanted)
      ∙ ap (λ (k : ℕ). out (rows_due from first wanted) (row_width k) (window_rows to first wanted mark) buffer) many
      ∙ ap (λ (l : List ℕ). out (rows_due from first wanted) (width_of from) l buffer) (rows_same first wanted mark)
      ∙ sym (shown_out from first wanted mark buffer)

  window_same : (first wanted mark : ℕ) (buffer : List ℕ) → shown (window_of to first wanted mark buffer) ≡ shown (window_of from first wanted mark buffer)
  unfolding window_of
  window_same first wanted mark buffer = by (bad_mark mark) (out_same first wanted mark buffer)
    where
      by : (b : Bool) → shown (rows_out to first wanted mark buffer) ≡ shown (rows_out from first wanted mark buffer)
          → shown (elim b as (λ c. Answer Window) [ true ↦ refused bad_data 0 | false ↦ rows_out to first wanted mark buffer ])
          ≡ shown (elim b as (λ c. Answer Window) [ true ↦ refused bad_data 0 | false ↦ rows_out from first wanted mark buffer ])
      by true h = refl
      by false h = h

-- ---- services of accepted texts

window_of_lem : (text : List ℕ) (m : Meaning) → meaning text ≡ given m → (first wanted mark : ℕ) (buffer : List ℕ) → window text first wanted mark buffer ≡ window_of m first wanted mark buffer
unfolding window answering
window_of_lem text m e first wanted mark buffer = ap (λ (a : Answer Meaning). answering a λ m. window_of m first wanted mark buffer) e

waveform_of : (text : List ℕ) (m : Meaning) → meaning text ≡ given m → (k s c : ℕ) (times letters : List ℕ)
    → waveform text k s c times letters ≡ elim (wave_of s c (table_at m.tables k)) [ none ↦ refused no_such 0 | some es ↦ events_out es times letters ]
unfolding waveform answering
waveform_of text m e k s c times letters =
    ap (λ (a : Answer Meaning). answering a λ m. elim (wave_of s c (table_at m.tables k)) [ none ↦ refused no_such 0 | some es ↦ events_out es times letters ]) e

fold_of : (text : List ℕ) (m : Meaning) → meaning text ≡ given m → (buffer : List ℕ) → fold text buffer ≡ folded text m buffer
unfolding fold answering
fold_of text m e buffer = ap (λ (a : Answer Meaning). answering a λ m. folded text m buffer) e

folded_of_lem : (text : List ℕ) (m : Meaning) (buffer : List ℕ) → cycles 0 m.run ≤ folded_most → length (patterns_of m) ≤ patterns_most → folded text m buffer ≡ folded_in (written (flat text m)) buffer
unfolding folded
folded_of_lem text m buffer short few = rw (le-leb (cycles 0 m.run) folded_most short, folded) (rw (le-leb (length (patterns_of m)) patterns_most few))

-- ---- what it takes to be folded

record Folds (text buffer : List ℕ) (x : Folded) : Type 0 where
  pub from : Meaning
  pub was : meaning text ≡ given from
  pub short : cycles 0 from.run ≤ folded_most
  pub few : length (patterns_of from) ≤ patterns_most
  pub fits : length (written (flat text from)) ≤ text_most
  pub is : take x.size x.buffer ≡ written (flat text from)

never : {B : Type 0} {n p : ℕ} {x : Folded} → ◌≡◌ {A = Answer Folded} (refused n p) (given x) → B
never e = absurd (let z : ◌≡◌ {A = ℕ} 0 1 = cc in omega arith)

module _ (text buffer : List ℕ) (x : Folded) (m : Meaning) (was : meaning text ≡ given m) where
  in_room : cycles 0 m.run ≤ folded_most → length (patterns_of m) ≤ patterns_most → folded_in (written (flat text m)) buffer ≡ given x → Folds text buffer x
  unfolding folded_in
  in_room short few e = by (leb (length w) text_most) refl (leb (length w) (length buffer)) e
    where
      w : List ℕ
      w = written (flat text m)

      by : (a : Bool) → leb (length w) text_most ≡ a → (b : Bool)
          → ◌≡◌ {A = Answer Folded} (elim (a && b) [ false ↦ refused no_room 0 | true ↦ given (record { size = length w; buffer = w ++ drop (length w) buffer }) ]) (given x) → Folds text buffer x
      by true p true e =
          let q : record { size = length w; buffer = w ++ drop (length w) buffer } ≡ x = cc in
          record {
            from = m;
            was = was;
            short = short;
            few = few;
            fits = leb-true (length w) text_most p;
            is = ap (λ (y : Folded). take y.size y.buffer) (sym q) ∙ take_at w (drop (length w) buffer) (length w) refl;
          }
      by true p false e = never e
      by false p b e = never e

  folds_so : folded text m buffer ≡ given x → Folds text buffer x
  unfolding folded
  folds_so e = by (leb (cycles 0 m.run) folded_most) refl (leb (length (patterns_of m)) patterns_most) refl e
    where
      by : (a : Bool) → leb (cycles 0 m.run) folded_most ≡ a → (b : Bool) → leb (length (patterns_of m)) patterns_most ≡ b
          → ◌≡◌ {A = Answer Folded} (elim a [
            | false ↦ refused many_cycles 0
            | true ↦ elim b [ false ↦ refused many_patterns 0 | true ↦ folded_in (written (flat text m)) buffer ]
          ]) (given x) → Folds text buffer x
      by true p true q e = in_room (leb-true _ _ p) (leb-true _ _ q) e
      by true p false q e = never e
      by false p b q e = never e

folds : (text buffer : List ℕ) (x : Folded) → fold text buffer ≡ given x → Folds text buffer x
unfolding fold answering
folds text buffer x e = by (meaning text) refl e
  where
    by : (a : Answer Meaning) → meaning text ≡ a → answering a (λ m. folded text m buffer) ≡ given x → Folds text buffer x
    by (given m) h e = folds_so text buffer x m h e
    by (refused n p) h e = never e

-- ---- and what then holds

module _ (text : List ℕ) (m : Meaning) (was : meaning text ≡ given m) (short : cycles 0 m.run ≤ folded_most) (few : length (patterns_of m) ≤ patterns_most)
    (fits : length (written (flat text m)) ≤ text_most) where
  abbrev src : Source text m
  src = source text m was

  abbrev to : Meaning
  to = meaning_of (back text m src few short).doc (run_is text m src few short).run

  accepted_so : meaning (written (flat text m)) ≡ given to
  accepted_so = folded_accepted text m src few short fits

  many : length to.signals ≡ length m.signals
  many = length_firsts (back text m src few short).doc.signals ∙ as_many text m src few short

  cycles_are : placeless (cycles_of (length to.signals) to.run) ≡ placeless (cycles_of (length m.signals) m.run)
  cycles_are = ap (λ (k : ℕ). placeless (cycles_of k to.run)) many ∙ cycles_same text m src few short ∙ sym src.shows

  count : cycles 0 to.run ≡ cycles 0 m.run
  count = cycles_count text m src few short ∙ rows_length_lem (cycles_of (length m.signals) m.run) ∙ rows_are_cycles (length m.signals) m.run

  waves_are : (k s c : ℕ) (times letters : List ℕ) → waveform (written (flat text m)) k s c times letters ≡ waveform text k s c times letters
  waves_are k s c times letters =
      waveform_of (written (flat text m)) to accepted_so k s c times letters
      ∙ ap (λ (o : Option (List Event)). elim o as (λ z. Answer Waveform) [ none ↦ refused no_such 0 | some es ↦ events_out es times letters ]) (same_tables text m src few short k s c)
      ∙ sym (waveform_of text m was k s c times letters)

  windows_are : (first wanted mark : ℕ) (buffer : List ℕ) → shown (window (written (flat text m)) first wanted mark buffer) ≡ shown (window text first wanted mark buffer)
  windows_are first wanted mark buffer =
      ap shown (window_of_lem (written (flat text m)) to accepted_so first wanted mark buffer) ∙ window_same to m many count cycles_are first wanted mark buffer
      ∙ ap shown (sym (window_of_lem text m was first wanted mark buffer))

  same_so : Same text (written (flat text m))
  unfolding flat
  same_so =
      let b = back text m src few short in
      let names = names_same m.signals m.tables b.doc.tables b.is.tables in
      record {
        from = m;
        to = to;
        was = was;
        is = accepted_so;
        signals = signals_same text 0 m.signals b.doc.signals b.is.signals;
        directions = directions_back text m src few short;
        tables = names.0;
        periods = names.1;
        cycles = cycles_are;
        waveforms = waves_are;
        windows = windows_are;
      }

  -- folded again
  again_so : (other : List ℕ) → fold (written (flat text m)) other ≡ folded_in (written (flat text m)) other
  again_so other =
      fold_of (written (flat text m)) to accepted_so other
      ∙ folded_of_lem (written (flat text m)) to other (omega (arith, count)) (omega (arith, ap length (patterns_back text m src few short)))
      ∙ ap (λ (f : Flat). folded_in (written f) other) (flat_again text m src few short)

-- THE THEOREM
pub folded_same : (text buffer : List ℕ) (x : Folded) → fold text buffer ≡ given x → Same text (take x.size x.buffer)
folded_same text buffer x e =
    let f = folds text buffer x e in
    subst (Same text) (sym f.is) (same_so text f.from f.was f.short f.few f.fits)

-- folding again writes the same bytes, wherever there is room for them
pub folded_again : (text buffer : List ℕ) (x : Folded) → fold text buffer ≡ given x → (other : List ℕ) → fold (take x.size x.buffer) other ≡ folded_in (take x.size x.buffer) other
folded_again text buffer x e other =
    let f = folds text buffer x e in
    subst (λ (w : List ℕ). fold w other ≡ folded_in w other) (sym f.is) (again_so text f.from f.was f.short f.few f.fits other)
