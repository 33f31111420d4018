-- The search for a missing waveform: signal by signal in a cycle, turn by turn in a V that is played t times.
use Prim.Native.Nat.{ℕ, zero, suc, ◌+◌, ◌≤◌, ◌<◌}
use native.Mathlib.Omega.{arith}
use native.Mathlib.Nat.{zero-add, suc-add}
use native.Mathlib.Numerals.{add-one}
use mathlib.Core.Path.{◌≡◌, refl, sym, ap, ◌∙◌, subst}
use mathlib.Core.Bool.{Bool, true, false, ◌||◌, true≢false}
use mathlib.Core.Option.{none, some}
use mathlib.Core.List.{List}
use lib.Dec.{eqb}
use lib.ListN.{length, get_or, drop, drop_of_length-le}
use Rattle.tokens.proofs.Reading.{cut}
use Rattle.meaning.specs.Timing.{Wave, Tables}
use Rattle.meaning.specs.Body.{Assigns}
use Rattle.meaning.specs.Run.{State, unassigned, Played, puts, cycle_at, again, follow}
use Rattle.meaning.specs.Meaning.{has_wave, all_waves, table_at, playable, first_failing}
use Rattle.walks.proofs.Loops.{again_add}
use Rattle.pins.specs.Shown.{vector}

-- ---- a cycle's signals

-- has signal s its waveform
abbrev pub fine : ℕ → ℕ → List Wave → Bool
fine s c ws = eqb c unassigned || has_wave s c ws

module _ (pins : List ℕ) (ws : List Wave) (s : ℕ) where
  module _ (h : s < length pins) where
    pub waves_here : fine s (get_or pins s 0) ws ≡ false → all_waves s (drop s pins) ws ≡ false
    unfolding all_waves
    waves_here e = rw (cut pins s h) (rw e)

    pub waves_next : fine s (get_or pins s 0) ws ≡ true → all_waves s (drop s pins) ws ≡ all_waves (s + 1) (drop (s + 1) pins) ws
    unfolding all_waves
    waves_next e = rw (cut pins s h) (rw (e, add-one))

  pub waves_end : length pins ≤ s → all_waves s (drop s pins) ws ≡ true
  unfolding all_waves
  waves_end h = rw (drop_of_length-le pins h)

module _ (pins : List ℕ) (ws : List Wave) where
  -- every signal has its own: all have theirs
  pub waves_all_lem : ((s : ℕ) → s < length pins → fine s (get_or pins s 0) ws ≡ true) → all_waves 0 pins ws ≡ true
  waves_all_lem h = from (length pins) 0 (omega arith)
    where
      from : (d s : ℕ) → s + d ≡ length pins → all_waves s (drop s pins) ws ≡ true
      from zero s e = waves_end pins ws s (omega arith)
      from (suc d) s e = waves_next pins ws s (omega arith) (h s (omega arith)) ∙ from d (s + 1) (omega arith)

  waves_first : (s : ℕ) → s < length pins → all_waves s (drop s pins) ws ≡ true → fine s (get_or pins s 0) ws ≡ true
  waves_first s b h = by (fine s (get_or pins s 0) ws) refl
    where
      by : (z : Bool) → fine s (get_or pins s 0) ws ≡ z → z ≡ true
      by true e = refl
      by false e = absurd (true≢false (sym h ∙ waves_here pins ws s b e))

  -- and the other way round
  pub waves_each : all_waves 0 pins ws ≡ true → (s : ℕ) → s < length pins → fine s (get_or pins s 0) ws ≡ true
  waves_each h s b = from s 0 (omega arith) h
    where
      from : (d i : ℕ) → i + d ≡ s → all_waves i (drop i pins) ws ≡ true → fine s (get_or pins s 0) ws ≡ true
      from zero i e h = let o : i ≡ s = omega arith in subst (λ (k : ℕ). fine k (get_or pins k 0) ws ≡ true) o (waves_first i (omega arith) h)
      from (suc d) i e h =
          let l : i < length pins = omega arith in
          from d (i + 1) (omega arith) (sym (waves_next pins ws i l (waves_first i l h)) ∙ h)

-- ---- a V's turns

module _ (tabs : Tables) (p : ℕ) (a : Assigns) where
  -- all of the turns that are left
  abbrev pub rest : ℕ → State → Played
  rest n s = again n (vector p a) s

  -- the first that fails is where it stands
  pub turn_fails : (n : ℕ) (s : State) → playable tabs (cycle_at p (puts a s)) ≡ false → first_failing tabs (rest (suc n) s).1 ≡ some p
  unfolding again follow first_failing cycle_at
  turn_fails n s e = rw (e, first_failing)

  pub turn_passes : (n : ℕ) (s : State) → playable tabs (cycle_at p (puts a s)) ≡ true → first_failing tabs (rest (suc n) s).1 ≡ first_failing tabs (rest n (puts a s)).1
  unfolding again follow first_failing cycle_at
  turn_passes n s e = rw (e, first_failing)

  pub turn_state : (n : ℕ) (s : State) → (rest (suc n) s).0 ≡ (rest n (puts a s)).0
  unfolding again follow
  turn_state n s = refl

  -- k turns that can be played, and n more
  pub turns_pass : (k n : ℕ) (s : State) → ((i : ℕ) → i < k → playable tabs (cycle_at p (puts a (rest i s).0)) ≡ true)
      → first_failing tabs (rest (k + n) s).1 ≡ first_failing tabs (rest n (rest k s).0).1
  unfolding again follow
  turns_pass zero n s h = rw zero-add
  turns_pass (suc k) n s h = rw suc-add (turn_passes (k + n) s (h 0 (omega arith)) ∙ turns_pass k n (puts a s) (λ i l. h (suc i) (omega arith)))

  pub turns_state : (k n : ℕ) (s : State) → (rest (k + n) s).0 ≡ (rest n (rest k s).0).0
  unfolding follow
  turns_state k n s = ap (λ (y : Played). y.0) (again_add (vector p a) k n s)

  pub turns_end : (s : State) → (first_failing tabs (rest 0 s).1 ≡ none) × ((rest 0 s).0 ≡ s)
  unfolding again first_failing
  turns_end s = (refl, refl)

-- without a table none can be played
module _ (tabs : Tables) (p : ℕ) (s : State) where
  pub no_table : s.table ≡ none → playable tabs (cycle_at p s) ≡ false
  unfolding playable cycle_at
  no_table e = rw e

  pub a_table : (k : ℕ) → s.table ≡ some k → playable tabs (cycle_at p s) ≡ all_waves 0 s.pins (table_at tabs k)
  unfolding playable cycle_at
  a_table k e = rw e
