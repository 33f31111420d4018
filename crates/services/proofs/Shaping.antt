-- The waveform service from the events: refused with them, without room for them, or the events at the front of both buffers.
use Prim.Native.Nat.{ℕ}
use mathlib.Core.Path.{◌≡◌, refl, sym, ap, ◌∙◌}
use mathlib.Core.Bool.{Bool, true, false, not, ◌&&◌, ◌||◌}
use mathlib.Core.List.{List, ◌++◌}
use lib.Dec.{leb, ltb}
use lib.ListN.{length, take, drop}
use Rattle.std.specs.Prelude.{Ok, Err}
use Rattle.tokens.specs.declared.Refusal.{Refusal}
use Rattle.meaning.specs.Refusals.{no_room}
use Rattle.meaning.specs.Timing.{Event}
use Rattle.meaning.specs.Meaning.{Answer, given, refused, answering}
use Rattle.meaning.specs.Services.{events_out, Waveform, waveform}
use Rattle.charts.specs.Serving.{told_all}
use Rattle.charts.proofs.Rooms.{room}
use Rattle.charts.proofs.Telling.{told_times}
use Rattle.verdicts.specs.Buffers.{afterwards}
use Rattle.services.specs.Waveforms.{events_of, Shows, Shapes}
use Rattle.services.proofs.Outlining.{waveform_events}

module _ (text : List ℕ) (k s c : ℕ) (times letters : List ℕ) where
  abbrev answer : Answer Waveform
  answer = waveform text k s c times letters

  pub waveform_refused : {n p : ℕ} → events_of text k s c ≡ refused n p → answer ≡ refused n p
  unfolding answering
  waveform_refused e = waveform_events text k s c times letters ∙ ap (λ (a : Answer (List Event)). answering a (λ es. events_out es times letters)) e

  module _ {n : ℕ} {ts ls : List ℕ} {es : List Event} (e : events_of text k s c ≡ given es) (shows : Shows ts ls n es) where
    handed : answer ≡ events_out es times letters
    unfolding answering
    handed = waveform_events text k s c times letters ∙ ap (λ (a : Answer (List Event)). answering a (λ xs. events_out xs times letters)) e

    module _ {y : Bool} (roomless : (ltb (length times) n || ltb (length letters) n) ≡ y) where
      tested : (leb (length es) (length times) && leb (length es) (length letters)) ≡ not y
      tested = ap (λ (i : ℕ). leb i (length times) && leb i (length letters)) (sym shows.count_is) ∙ room (length times) (length letters) n roomless

      pub waveform_full : y ≡ true → answer ≡ refused no_room 0
      unfolding events_out
      waveform_full z = handed ∙ rw (tested ∙ ap not z, events_out)

      pub waveform_given : {times' letters' : List ℕ} → y ≡ false
          → (times' ≡ told_all (take n ts) ++ drop n times) × (letters' ≡ take n ls ++ drop n letters)
          → answer ≡ given (record { count = n; times = times'; letters = letters' })
      unfolding events_out
      waveform_given z p = handed ∙ rw (tested ∙ ap not z, events_out) (rw (p.0, p.1, shows.times_are, told_times es, shows.letters_are, shows.count_is))

-- ---- as the service answers it

module _ {a : Answer Waveform} {times letters : List ℕ} where
  pub shapes_refused : {x : Refusal} → a ≡ refused x.no x.place → Shapes a times times letters letters (Err x)
  unfolding afterwards
  shapes_refused e = rw e (record { answers = refl; times_are = refl; letters_are = refl })

  pub shapes_given : {n : ℕ} {times' letters' : List ℕ} → a ≡ given (record { count = n; times = times'; letters = letters' })
      → Shapes a times times' letters letters' (Ok n)
  unfolding afterwards
  shapes_given e = rw e (record { answers = refl; times_are = refl; letters_are = refl })
