-- Counted times as they are told: one, each of a list, and those of a waveform's events.
use Prim.Native.Nat.{ℕ, zero, suc, ◌+◌, ◌-◌, ◌<◌, ◌≤◌}
use native.Mathlib.Omega.{arith}
use mathlib.Core.Path.{◌≡◌, refl, sym, ap, ◌∙◌}
use mathlib.Core.Bool.{Bool, true, false}
use mathlib.Core.List.{List, [], ◌∷◌, ◌++◌}
use lib.ListN.{length, get_or, take, drop, set}
use borrow.Author.Tests.{lt-ltb, le-ltb}
use Rattle.meaning.specs.Bounds.{time_most}
use Rattle.meaning.specs.Timing.{Event, plus, minus, uncounted}
use Rattle.meaning.specs.Services.{word_range, bits_of, times_of}
use Rattle.waves.specs.Waves.{counts_of}
use Rattle.charts.specs.Serving.{told_all}
use Rattle.charts.proofs.Fronts.{Fronted, fronted_more, fronted_all}

-- ---- one

as_told : ℕ → Bool → ℕ
as_told t b = bits_of (elim b [ true ↦ minus (time_most - t) | false ↦ plus (t - time_most) ])

pub told_before : (t : ℕ) → t < time_most → word_range - (time_most - t) ≡ bits_of (uncounted t)
unfolding bits_of uncounted as_told
told_before t h = ap (as_told t) (sym (lt-ltb t time_most h))

pub told_behind : (t : ℕ) → time_most ≤ t → t - time_most ≡ bits_of (uncounted t)
unfolding bits_of uncounted as_told
told_behind t h = ap (as_told t) (sym (le-ltb t time_most h))

-- ---- each

pub told_length : (ts : List ℕ) → length (told_all ts) ≡ length ts
unfolding told_all
told_length [] = refl
told_length (t ∷ ts) = ap suc (told_length ts)

pub told_at : (ts : List ℕ) (i : ℕ) → i < length ts → get_or (told_all ts) i 0 ≡ bits_of (uncounted (get_or ts i 0))
unfolding told_all
told_at [] i h = absurd (omega arith)
told_at (t ∷ ts) zero h = refl
told_at (t ∷ ts) (suc i) h = told_at ts i (omega arith)

pub told_take : (n : ℕ) (ts : List ℕ) → take n (told_all ts) ≡ told_all (take n ts)
unfolding told_all
told_take zero ts = refl
told_take (suc n) [] = refl
told_take (suc n) (t ∷ ts) = ap (λ (l : List ℕ). bits_of (uncounted t) ∷ l) (told_take n ts)

-- one more at the front of a buffer, and all of them
module _ (ts : List ℕ) {before : List ℕ} {i : ℕ} {buffer : List ℕ} (f : Fronted (told_all ts) before i buffer) where
  pub told_more : {v : ℕ} → i < length ts → v ≡ bits_of (uncounted (get_or ts i 0)) → Fronted (told_all ts) before (i + 1) (set buffer i v)
  told_more h e = rw (e ∙ sym (told_at ts i h)) (fronted_more f (omega (arith, told_length ts)))

  pub told_all_lem : (n : ℕ) → i ≡ n → n ≤ length ts → n ≤ length before → buffer ≡ told_all (take n ts) ++ drop n before
  told_all_lem n e h k = fronted_all f n e (omega (arith, told_length ts)) k ∙ ap (λ (l : List ℕ). l ++ drop n before) (told_take n ts)

-- ---- those of events

pub told_times : (es : List Event) → told_all (counts_of es) ≡ times_of es
unfolding told_all counts_of times_of
told_times [] = refl
told_times (e ∷ es) = ap (λ (l : List ℕ). bits_of (uncounted e.time) ∷ l) (told_times es)
