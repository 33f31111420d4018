-- What follows from the promise of the service Window, whatever keeps it: the visits, windows laid end to end, one answer only, and nothing written where a call is refused.
use Prim.Native.Nat.{ℕ, ◌+◌, ◌*◌, ◌≤◌}
use native.Mathlib.Omega.{arith}
use mathlib.Core.Path.{◌≡◌, refl, sym, ap, ap₂, ◌∙◌}
use mathlib.Core.Bool.{Bool, true, false}
use mathlib.Core.List.{List, [], ◌∷◌, ◌++◌}
use lib.Dec.{leb}
use lib.ListN.{length, take, drop}
use Rattle.std.specs.Prelude.{Result, Ok, Err}
use Rattle.tokens.specs.declared.Refusal.{Refusal}
use Rattle.meaning.specs.Refusals.{bad_data, no_room}
use Rattle.meaning.specs.Run.{Cycle, size, visits, cycles_of}
use Rattle.meaning.specs.Meaning.{Answer, given, refused, answering, Meaning, meaning}
use Rattle.meaning.specs.Services.{bad_mark, rows, Window, rows_due, width_of, rows_out, window_of, window}
use Rattle.meaning.specs.Windows.{rows_given, joined, Roomy, reach}
use Rattle.meaning.proofs.Accepted.{visits_bounded}
use Rattle.meaning.proofs.Windows.{windows_join}
use Rattle.verdicts.specs.Buffers.{afterwards}
use Rattle.views.specs.Views.{shown_of, Views}
use Rattle.views.specs.Calls.{Call, lent, Kept, fronts}
use Rattle.views.specs.declared.Rows.{Rows}

-- ---- as many rows as are due, and the visits, at most ten times the run's size

pub record Costs (m : Meaning) (first wanted n v : ℕ) : Type 0 where
  pub rows_are : n ≡ rows_due m first wanted
  pub visits_are : v ≡ visits 0 m.run first
  pub visits_few : v ≤ 10 * size m.run

-- where something is given there was room
room_given : {A : Type 0} (enough : Bool) (x y : A) → ◌≡◌ {A = Answer A} (given x) (elim enough [ false ↦ refused no_room 0 | true ↦ given y ]) → x ≡ y
room_given true x y e = cc
room_given false x y e = let z : ◌≡◌ {A = ℕ} 0 1 = cc in absurd (omega arith)

-- and the mark was one
mark_given : {A : Type 0} (bad : Bool) (x : A) (a : Answer A) → given x ≡ elim bad [ true ↦ refused bad_data 0 | false ↦ a ] → given x ≡ a
mark_given true x a e = let z : ◌≡◌ {A = ℕ} 0 1 = cc in absurd (omega arith)
mark_given false x a e = e

pub visits_told : (text : List ℕ) (m : Meaning) → meaning text ≡ given m → (first wanted mark : ℕ) {before after : List ℕ} {n v : ℕ}
    → Views (window text first wanted mark before) before after (Ok (record { count = n; visits = v })) → Costs m first wanted n v
unfolding window answering window_of rows_out
visits_told text m e first wanted mark {before} {after} {n} {v} h =
    let told = mark_given (bad_mark mark) (record { count = n; visits = v; buffer = after }) _
    (h.answers ∙ ap (λ (a : Answer Meaning). answering a (λ m. window_of m first wanted mark before)) e) in
    let w = room_given (leb (rows_due m first wanted * width_of m) (length before)) (record { count = n; visits = v; buffer = after }) _ told in
    let k : v ≡ visits 0 m.run first = ap (λ (w : Window). w.visits) w in
    record { rows_are = ap (λ (w : Window). w.count) w; visits_are = k; visits_few = rw k (visits_bounded text m e first) }

-- ---- windows laid end to end give the run's rows from their first cycle on, as far as they reach

-- what is in the buffers is what the definition gives
fronts_joined : (text : List ℕ) (width mark first : ℕ) (cs : List Call) → Kept text mark first cs → fronts width cs ≡ joined text width mark first (lent cs)
unfolding fronts Kept joined lent
fronts_joined text width mark first [] h = refl
fronts_joined text width mark first (c ∷ cs) h =
    ap₂ (λ (a b : List ℕ). a ++ b) (ap (rows_given width) h.0.answers) (fronts_joined text width mark (first + c.wanted) cs h.1)

module _ (text : List ℕ) (m : Meaning) (e : meaning text ≡ given m) where
  abbrev all : List Cycle
  all = cycles_of (length m.signals) m.run

  -- THE LAW
  pub calls_join : (mark : ℕ) → bad_mark mark ≡ false → (first : ℕ) (cs : List Call) → Kept text mark first cs → Roomy m first (lent cs)
      → fronts (width_of m) cs ≡ rows mark (take (reach (lent cs)) (drop first all))
  calls_join mark good first cs h room = fronts_joined text (width_of m) mark first cs h ∙ windows_join m mark text e good first (lent cs) room

-- ---- one answer only, and one content of the buffer afterwards

pub window_determined : {a : Answer Window} {before x y : List ℕ} {r s : Result Rows Refusal} → Views a before x r → Views a before y s → (r ≡ s) × (x ≡ y)
window_determined {a} {before} {x} {y} {r} {s} h k = (told r x h.answers ∙ sym (told s y k.answers), h.buffer_is ∙ sym k.buffer_is)
  where
    back : Answer Window → Result Rows Refusal
    back (given w) = Ok (record { count = w.count; visits = w.visits })
    back (refused n p) = Err (record { no = n; place = p })

    told : (r : Result Rows Refusal) (after : List ℕ) → shown_of r after ≡ a → r ≡ back a
    told (Ok x) after e = ap back e
    told (Err x) after e = ap back e

-- ---- a refused call leaves the buffer as it was

pub window_untouched : {a : Answer Window} {before after : List ℕ} {x : Refusal} → Views a before after (Err x) → after ≡ before
unfolding afterwards
window_untouched {a} {before} h = h.buffer_is ∙ ap (λ (x : Answer Window). afterwards (λ w. w.buffer) x before) (sym h.answers)
