-- Events at the front of two arrays, their times in one and their letters in the other: one event more, and what a caller finds there.
use Prim.Native.Nat.{ℕ, suc, ◌+◌, ◌≤◌, ◌<◌}
use native.Mathlib.Omega.{arith}
use mathlib.Core.Path.{◌≡◌, refl, sym, ap, ◌∙◌}
use mathlib.Core.List.{List, [], ◌∷◌, ◌++◌}
use lib.ListN.{length, take, set, length-append}
use Rattle.meaning.specs.Bounds.{entry_most}
use Rattle.meaning.specs.Timing.{Event}
use Rattle.meaning.specs.Services.{letters_of}
use Rattle.data.specs.Filled.{over}
use Rattle.data.proofs.Over.{over_set, over_length, over_front}
use Rattle.waves.specs.Waves.{counts_of, Reads}

-- ---- a number of each event

module _ (f : List Event → List ℕ) (g : Event → ℕ) (none' : f [] ≡ []) (more : (e : Event) (es : List Event) → f (e ∷ es) ≡ g e ∷ f es) where
  each_length : (es : List Event) → length (f es) ≡ length es
  each_length [] = ap length none'
  each_length (e ∷ es) = ap length (more e es) ∙ ap suc (each_length es)

  each_append : (es : List Event) (x : Event) → f (es ++ x ∷ []) ≡ f es ++ g x ∷ []
  each_append [] x = more x [] ∙ rw none'
  each_append (e ∷ es) x = more e (es ++ x ∷ []) ∙ rw (more e es, each_append es x)

  -- one event more
  front_more : (es : List Event) {n : ℕ} (entry : List ℕ) {buffer : List ℕ} (x : Event) → buffer ≡ over (f es) entry → n ≡ length es
      → set buffer n (g x) ≡ over (f (es ++ x ∷ [])) entry
  front_more es {n} entry x h k =
      let l : n ≡ length (f es) = k ∙ sym (each_length es) in
      rw (h, l) (over_set (f es) entry (g x) ∙ ap (λ (u : List ℕ). over u entry) (sym (each_append es x)))

  -- they stand there
  front_is : (es : List Event) {n : ℕ} (entry : List ℕ) {buffer : List ℕ} → buffer ≡ over (f es) entry → n ≡ length es → length es ≤ length entry → take n buffer ≡ f es
  front_is es {n} entry h k m =
      let l : n ≡ length (f es) = k ∙ sym (each_length es) in
      rw (h, l) (over_front (f es) entry (omega (arith, each_length es)))

-- ---- the events

pub reads_none : (times letters : List ℕ) → Reads [] 0 times times letters letters
unfolding counts_of letters_of over
reads_none times letters = record { count = refl; few = omega arith; times_are = refl; letters_are = refl }

pub reads_more : {es : List Event} {n : ℕ} {times times' letters letters' : List ℕ} (x : Event) → n < entry_most → Reads es n times times' letters letters'
    → Reads (es ++ x ∷ []) (n + 1) times (set times' n x.time) letters (set letters' n x.letter)
unfolding counts_of letters_of
reads_more {es} {n} {times} {times'} {letters} x h r =
    let l : n + 1 ≡ length (es ++ x ∷ []) = omega (arith, r.count, length-append es (x ∷ [])) in
    record {
      count = l;
      few = omega arith;
      times_are = front_more counts_of (λ e. e.time) refl (λ e es. refl) es times x r.times_are r.count;
      letters_are = front_more letters_of (λ e. e.letter) refl (λ e es. refl) es letters x r.letters_are r.count;
    }

-- ---- for callers

module _ {es : List Event} {n : ℕ} {times times' letters letters' : List ℕ} (r : Reads es n times times' letters letters') where
  pub times_kept : length times' ≡ length times
  times_kept = ap length r.times_are ∙ over_length (counts_of es) times

  pub letters_kept : length letters' ≡ length letters
  letters_kept = ap length r.letters_are ∙ over_length (letters_of es) letters

  -- the events, in arrays that have room for an entry's
  pub times_front : length times ≡ entry_most → take n times' ≡ counts_of es
  unfolding counts_of
  times_front h = front_is counts_of (λ e. e.time) refl (λ e es. refl) es times r.times_are r.count (omega (arith, r.few))

  pub letters_front : length letters ≡ entry_most → take n letters' ≡ letters_of es
  unfolding letters_of
  letters_front h = front_is letters_of (λ e. e.letter) refl (λ e es. refl) es letters r.letters_are r.count (omega (arith, r.few))
