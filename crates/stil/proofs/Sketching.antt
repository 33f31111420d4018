-- Waveforms by the list as a caller in C has them: one number, what was served in three buffers, and a number at the front of a fourth.
use Prim.Native.Nat.{ℕ, ◌≤◌}
use native.Mathlib.Omega.{arith}
use mathlib.Core.Path.{◌≡◌, refl, sym, ap, ◌∙◌}
use mathlib.Core.Bool.{Bool, true, false}
use mathlib.Core.List.{List, [], ◌∷◌}
use lib.Dec.{leb}
use lib.ListN.{length}
use borrow.Author.Tests.{leb-true}
use Rattle.std.specs.Prelude.{Result, Ok, Err}
use Rattle.tokens.specs.declared.Refusal.{Refusal}
use Rattle.meaning.specs.Refusals.{no_room}
use Rattle.meaning.specs.Meaning.{Answer, given, refused, answering}
use Rattle.meaning.specs.Charts.{Chart}
use Rattle.texts.specs.Told.{packed_refusal}
use Rattle.verdicts.specs.Buffers.{spared}
use Rattle.services.specs.Charts.{charted_of, Plots}
use Rattle.services.specs.declared.Undrawn.{Undrawn}
use Rattle.services.specs.declared.Undrawn.TheVariants.{Stopped, Refused}
use Rattle.stil.specs.Interface.{with_room, fronted}
use Rattle.stil.specs.Charts.{chart_number, chart_told, Sketches}

-- without room for what else is handed out, no call is made
refused_without : (a : Answer Chart) → (x : Refusal) × (charted_of (spared false a) ≡ Err (Refused x))
unfolding answering
refused_without (given x) = (record { no = no_room; place = 0 }, refl)
refused_without (refused n p) = (record { no = n; place = p }, refl)

module _ (a : Answer Chart) {times times' letters letters' counts counts' : List ℕ} {r : Result ℕ Undrawn} (numbers : List ℕ)
    (h : Plots (spared (leb 1 (length numbers)) a) times times' letters letters' counts counts' r) where
  answered : r ≡ charted_of (with_room 1 numbers a)
  unfolding with_room
  answered = h.answers

  sketches : {n : ℕ} {numbers' : List ℕ} → n ≡ chart_number r → numbers' ≡ chart_told r numbers
      → Sketches a times times' letters letters' counts counts' numbers n numbers'
  unfolding with_room
  sketches e q =
      record {
        number = e ∙ ap chart_number answered;
        told = q ∙ ap (λ (x : Result ℕ Undrawn). chart_told x numbers) answered;
        times_are = h.times_are;
        letters_are = h.letters_are;
        counts_are = h.counts_are;
      }

  pub sketch_refused : {x : Refusal} {s : ℕ} → r ≡ Err (Refused x) → s ≡ packed_refusal x.no x.place → Sketches a times times' letters letters' counts counts' numbers s numbers
  sketch_refused e q = sketches (q ∙ sym (ap chart_number e)) (sym (ap (λ (x : Result ℕ Undrawn). chart_told x numbers) e))

  pub sketch_stopped : {x : Refusal} {k s : ℕ} {numbers' : List ℕ} → r ≡ Err (Stopped x k) → s ≡ packed_refusal x.no x.place → numbers' ≡ fronted (k ∷ []) numbers
      → Sketches a times times' letters letters' counts counts' numbers s numbers'
  sketch_stopped e q f = sketches (q ∙ sym (ap chart_number e)) (f ∙ sym (ap (λ (x : Result ℕ Undrawn). chart_told x numbers) e))

  pub sketch_drawn : {k : ℕ} {numbers' : List ℕ} → r ≡ Ok k → numbers' ≡ fronted (k ∷ []) numbers
      → Sketches a times times' letters letters' counts counts' numbers 0 numbers'
  sketch_drawn e f = sketches (sym (ap chart_number e)) (f ∙ sym (ap (λ (x : Result ℕ Undrawn). chart_told x numbers) e))

  -- where calls were made there is room for a number
  called_room : ((x : Refusal) → r ≡ Err (Refused x) → ⊥) → 1 ≤ length numbers
  called_room z = by (leb 1 (length numbers)) refl
    where
      by : (y : Bool) → leb 1 (length numbers) ≡ y → 1 ≤ length numbers
      by true t = leb-true 1 (length numbers) t
      by false t =
          let f = refused_without a in
          absurd (z f.0 (h.answers ∙ ap (λ (y : Bool). charted_of (spared y a)) t ∙ f.1))

  pub stopped_room : {x : Refusal} {k : ℕ} → r ≡ Err (Stopped x k) → 1 ≤ length numbers
  stopped_room e = called_room (λ n q. (let z : ◌≡◌ {A = ℕ} 0 1 = cc in omega arith))

  pub drawn_room : {k : ℕ} → r ≡ Ok k → 1 ≤ length numbers
  drawn_room e = called_room (λ n q. (let z : ◌≡◌ {A = ℕ} 0 1 = cc in omega arith))
