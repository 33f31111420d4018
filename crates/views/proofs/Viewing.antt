-- The service Window from what was decided, played and shown: refused as the text is, without room for the rows due, or the rows at the front of the buffer.
use Prim.Native.Nat.{ℕ, ◌+◌, ◌*◌, ◌-◌, ◌^◌, ◌≤◌, ◌<◌, min}
use native.Mathlib.Nat.{mul-le-mul}
use native.Mathlib.Omega.{arith}
use mathlib.Core.Path.{◌≡◌, refl, sym, ap, ap₂, ◌∙◌}
use mathlib.Core.Bool.{Bool, true, false, not, ◌&&◌, ◌||◌}
use mathlib.Core.List.{List, ◌++◌}
use lib.Dec.{leb, ltb}
use lib.ListN.{length, drop}
use borrow.Author.Tests.{leb-true, ltb-false}
use Rattle.std.specs.Prelude.{Ok, Err}
use Rattle.tokens.specs.declared.Refusal.{Refusal}
use Rattle.tokens.proofs.Bools.{both, neither}
use Rattle.meaning.specs.Bounds.{signals_most, size_most, cycles_most}
use Rattle.meaning.specs.Refusals.{bad_data, no_room}
use Rattle.meaning.specs.Run.{size, cycles, visits}
use Rattle.meaning.specs.Meaning.{Answer, given, refused, answering, fitting, Meaning, meaning}
use Rattle.meaning.specs.Services.{Counts, counts, bad_mark, row_width, Window, rows_due, width_of, window_rows, rows_out, window_of, window}
use Rattle.timing.specs.declared.Watch.{Watch}
use Rattle.texts.specs.Tables.{Found}
use Rattle.texts.specs.declared.Verdict.{Verdict}
use Rattle.texts.proofs.Sounds.{sound_runs}
use Rattle.windows.specs.Run.{Accepts, Windows}
use Rattle.verdicts.specs.Buffers.{afterwards, spared}
use Rattle.views.specs.Views.{Views}
use Rattle.verdicts.specs.Found.{meant_by}
use Rattle.verdicts.proofs.Found.{runs, signals_counted, counts_met}
use Rattle.verdicts.proofs.Sparing.{room, spared_room}

-- ---- as the service answers it

module _ {a : Answer Window} {buffer : List ℕ} where
  views_refused : {x : Refusal} → a ≡ refused x.no x.place → Views a buffer buffer (Err x)
  unfolding afterwards
  views_refused e = rw e (record { answers = refl; buffer_is = refl })

  views_given : {n v : ℕ} {after : List ℕ} → a ≡ given (record { count = n; visits = v; buffer = after }) → Views a buffer after (Ok (record { count = n; visits = v }))
  unfolding afterwards
  views_given e = rw e (record { answers = refl; buffer_is = refl })

-- a text's refusal is the window's
pub view_refused : (text : List ℕ) {x : Refusal} (first wanted mark : ℕ) (buffer : List ℕ) (spare : Bool) → meaning text ≡ refused x.no x.place
    → Views (spared spare (window text first wanted mark buffer)) buffer buffer (Err x)
unfolding window answering
view_refused text first wanted mark buffer spare e = views_refused (rw (e, window))

-- ---- an accepted text

-- what is no mark is refused for itself
pub view_unmarked : (text : List ℕ) {m : Meaning} (first wanted mark : ℕ) (buffer : List ℕ) (spare : Bool) → meaning text ≡ given m → bad_mark mark ≡ true
    → Views (spared spare (window text first wanted mark buffer)) buffer buffer (Err (record { no = bad_data; place = 0 }))
unfolding window answering window_of
view_unmarked text first wanted mark buffer spare e bad = views_refused (rw (e, bad, window, window_of))

-- so many rows of any text's width
pub bytes_fit : {due width : ℕ} → due ≤ cycles_most → width ≤ signals_most + 2 → due * width < 2 ^ 64
bytes_fit h k = omega (arith, mul-le-mul h k)

module _ {w : Watch} {text places lists tplaces waves book marks list : List ℕ} {v : Verdict} (f : Found text w places lists tplaces waves book marks list v) where
  abbrev it : Meaning
  it = meant_by f.it

  cycles_are : cycles 0 it.run ≡ v.total.cycles
  unfolding counts
  cycles_are = ap (λ (c : Counts). c.cycles) (counts_met f)

  few_cycles : v.total.cycles ≤ cycles_most
  unfolding fitting
  few_cycles =
      let k = both (leb (size it.run) size_most) (leb (cycles 0 it.run) cycles_most) (sound_runs text f.is).fits in
      omega (arith, cycles_are, leb-true (cycles 0 it.run) cycles_most k.1)

  -- the rows due, as the code counts them
  module _ (first wanted : ℕ) {due : ℕ} (d : due ≡ min wanted (v.total.cycles - first)) where
    due_is : due ≡ rows_due it first wanted
    unfolding rows_due
    due_is = d ∙ ap (λ (k : ℕ). min wanted (k - first)) (sym cycles_are)

    pub few_due : due ≤ cycles_most
    few_due = omega (arith, few_cycles)

    module _ (mark : ℕ) (good : bad_mark mark ≡ false) (buffer : List ℕ) (spare : Bool) {y : Bool} (e : (not spare || ltb (length buffer) (due * (v.parts.signals + 2))) ≡ y) (a : meaning text ≡ given it) where
      abbrev answer : Answer Window
      answer = spared spare (window text first wanted mark buffer)

      enough : (spare && leb (rows_due it first wanted * width_of it) (length buffer)) ≡ not y
      unfolding width_of row_width
      enough =
          ap₂ (λ (k n : ℕ). spare && leb (k * (n + 2)) (length buffer)) (sym due_is) (signals_counted f) ∙ room spare (due * (v.parts.signals + 2)) (length buffer) ∙ ap not e

      answered : answer ≡ elim (not y) [
        | false ↦ refused no_room 0
        | true ↦ given (record {
          count = rows_due it first wanted;
          visits = visits 0 it.run first;
          buffer = window_rows it first wanted mark ++ drop (rows_due it first wanted * width_of it) buffer;
        })
      ]
      unfolding window answering window_of rows_out
      answered =
          ap (λ (x : Answer Meaning). spared spare (answering x (λ m. window_of m first wanted mark buffer))) a
          ∙ ap (λ (b : Bool). spared spare (elim b [ true ↦ refused bad_data 0 | false ↦ rows_out it first wanted mark buffer ])) good
          ∙ spared_room spare (leb (rows_due it first wanted * width_of it) (length buffer)) _
          ∙ rw enough

      pub view_full : y ≡ true → Views answer buffer buffer (Err (record { no = no_room; place = 0 }))
      view_full z = views_refused (rw z at answered)

      -- the window over the run may be asked for them
      pub accepts : y ≡ false → Accepts text places lists tplaces waves book marks list v.parts.known v.parts.signals v.parts.listed v.parts.patterns v.total.size
          first due buffer v.parts f.it.read it
      unfolding counts row_width
      accepts z = record {
        runs = runs f;
        meant = a;
        size_is = ap (λ (c : Counts). c.size) (counts_met f);
        due_there = omega (arith, cycles_are);
        room = ltb-false (length buffer) (due * (v.parts.signals + 2)) (neither (not spare) _ (e ∙ z)).1;
      }

      pub view_given : {r : ℕ} {after : List ℕ} → y ≡ false → Windows v.parts.signals first due mark buffer it r after
          → Views answer buffer after (Ok (record { count = due; visits = r }))
      unfolding window_rows width_of
      view_given z s = views_given ((rw z at answered) ∙ rw (← due_is, signals_counted f, ← s.visits_are, ← s.rows_are))
