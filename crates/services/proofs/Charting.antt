-- Waveforms by the list: refused as the text is, by 8 or by 19, or what the single calls leave.
use Prim.Native.Nat.{ℕ, ◌≤◌}
use native.Mathlib.Omega.{arith}
use mathlib.Core.Path.{◌≡◌, refl, sym, ap, ◌∙◌, subst}
use mathlib.Core.Bool.{Bool, true, false, not, ◌||◌}
use mathlib.Core.List.{List}
use lib.Dec.{leb}
use lib.ListN.{length}
use borrow.Author.Tests.{leb-true}
use Rattle.std.specs.Prelude.{Result, Ok, Err, Some, None}
use Rattle.tokens.specs.declared.Refusal.{Refusal}
use Rattle.meaning.specs.Refusals.{too_many, no_room}
use Rattle.meaning.specs.Meaning.{Answer, given, refused, answering, Meaning, meaning}
use Rattle.meaning.specs.Charts.{chart_most, asked_in, Chart, chart, waveforms}
use Rattle.charts.specs.Serving.{Accepted, Serves}
use Rattle.charts.specs.declared.Served.{Served}
use Rattle.verdicts.specs.Buffers.{afterwards, spared}
use Rattle.verdicts.specs.Judged.{Judges}
use Rattle.services.specs.Charts.{Plots}
use Rattle.verdicts.specs.declared.Wanted.{Wanted}
use Rattle.verdicts.specs.declared.Judged.{Judged}
use Rattle.services.specs.declared.Undrawn.{Undrawn}
use Rattle.services.specs.declared.Undrawn.TheVariants.{Stopped, Refused}
use Rattle.verdicts.proofs.Sparing.{spared_all}

-- ---- as the service answers it

module _ {a : Answer Chart} {times letters counts : List ℕ} where
  pub plots_refused : {x : Refusal} → a ≡ refused x.no x.place → Plots a times times letters letters counts counts (Err (Refused x))
  unfolding afterwards
  plots_refused e = rw e (record { answers = refl; times_are = refl; letters_are = refl; counts_are = refl })

  module _ {x : Chart} {times' letters' counts' : List ℕ} {s : Served} (e : a ≡ given x) (h : Serves x times' letters' counts' s) where
    pub plots_drawn : s.stopped ≡ None → Plots a times times' letters letters' counts counts' (Ok s.events)
    unfolding afterwards
    plots_drawn z = rw (e, h.is, z) (record { answers = refl; times_are = refl; letters_are = refl; counts_are = refl })

    pub plots_stopped : {no : ℕ} → s.stopped ≡ Some no → Plots a times times' letters letters' counts counts' (Err (Stopped (record { no = no; place = 0 }) s.served))
    unfolding afterwards
    plots_stopped z = rw (e, h.is, z) (record { answers = refl; times_are = refl; letters_are = refl; counts_are = refl })

-- nothing else is handed out
pub plots_spared : {a : Answer Chart} {times times' letters letters' counts counts' : List ℕ} {r : Result ℕ Undrawn}
    → Plots (spared true a) times times' letters letters' counts counts' r → Plots a times times' letters letters' counts counts' r
plots_spared {a} {times} {times'} {letters} {letters'} {counts} {counts'} {r} h =
    subst (λ (b : Answer Chart). Plots b times times' letters letters' counts counts' r) (spared_all a) h

-- ---- any text

both : (a b : Bool) → (not a || not b) ≡ false → (a ≡ true) × (b ≡ true)
both true true z = (refl, refl)
both true false z = let y : ◌≡◌ {A = ℕ} 0 1 = cc in absurd (omega arith)
both false b z = let y : ◌≡◌ {A = ℕ} 0 1 = cc in absurd (omega arith)

pub text_accepted : {text : List ℕ} {w : Wanted} {r : Judged} → Judges text w (Ok r) → Accepted text
text_accepted j = record { meant = j.0; is = j.1 }

pub list_few : (list : List ℕ) {many : Bool} → leb (length (asked_in list)) chart_most ≡ not many → many ≡ false → length (asked_in list) ≤ chart_most
list_few list e z = leb-true (length (asked_in list)) chart_most (e ∙ ap not z)

pub counts_roomy : (list counts : List ℕ) (spare : Bool) {roomy : Bool} → roomy ≡ leb (length (asked_in list)) (length counts) → (not roomy || not spare) ≡ false
    → length (asked_in list) ≤ length counts
counts_roomy list counts spare {roomy} q z = leb-true (length (asked_in list)) (length counts) (sym q ∙ (both roomy spare z).0)

module _ (text : List ℕ) (list times letters counts : List ℕ) (spare : Bool) where
  abbrev answer : Answer Chart
  answer = spared spare (waveforms text list times letters counts)

  pub chart_refused : {n p : ℕ} → meaning text ≡ refused n p → answer ≡ refused n p
  unfolding waveforms answering
  chart_refused e = rw e

  module _ {m : Meaning} (accepted : meaning text ≡ given m) where
    module _ {many : Bool} (e : leb (length (asked_in list)) chart_most ≡ not many) where
      -- above 64
      pub chart_many : many ≡ true → answer ≡ refused too_many 0
      unfolding waveforms answering
      chart_many z = rw (accepted, answering, e ∙ ap not z)

      module _ (few : many ≡ false) {roomy : Bool} (q : roomy ≡ leb (length (asked_in list)) (length counts)) where
        within_counts : answer ≡ spared spare (elim roomy [ false ↦ refused no_room 0 | true ↦ given (chart text (asked_in list) times letters counts) ])
        unfolding waveforms answering
        within_counts = rw (accepted, answering, e ∙ ap not few, q)

        -- no room for the counts, or for what else is handed out
        pub chart_full : (not roomy || not spare) ≡ true → answer ≡ refused no_room 0
        unfolding answering
        chart_full z = within_counts ∙ by roomy spare z
          where
            by : (a b : Bool) → (not a || not b) ≡ true
                → spared {A = Chart} b (elim a [ false ↦ refused no_room 0 | true ↦ given (chart text (asked_in list) times letters counts) ]) ≡ refused no_room 0
            by false b z = refl
            by true false z = refl
            by true true z = let y : ◌≡◌ {A = ℕ} 0 1 = cc in absurd (omega arith)

        pub chart_called : (not roomy || not spare) ≡ false → answer ≡ given (chart text (asked_in list) times letters counts)
        unfolding answering
        chart_called z = let k = both roomy spare z in within_counts ∙ rw (k.0, k.1)
