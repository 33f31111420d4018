-- A run in which each listed pattern is known to play has no cycle that fails.
use Prim.Native.Nat.{ℕ, ◌<◌}
use native.Mathlib.Nat.{zero-mul}
use native.Mathlib.Omega.{arith}
use mathlib.Core.Path.{◌≡◌, refl, sym, ◌∙◌}
use mathlib.Core.Bool.{true, true≢false}
use mathlib.Core.Option.{Option, none, some}
use mathlib.Core.List.{[]}
use lib.ListN.{length, length-replicate, get_or-replicate}
use Rattle.meaning.specs.Lists.{has, count}
use Rattle.meaning.specs.Timing.{Tables}
use Rattle.meaning.specs.Body.{listed, Body, shifting, arg_of}
use Rattle.meaning.specs.Run.{shift_of, State, bare, entering, playing, play, start, cycles_of}
use Rattle.meaning.specs.Meaning.{first_failing}
use Rattle.meaning.proofs.Everywhere.{Runs, no_more, one_more_lem}
use Rattle.sums.specs.Sums.{Sum, ok_at, or_table, Asks, due, Enough}
use Rattle.sums.specs.Parts.{Alone, Cleared}
use Rattle.sums.proofs.Adds.{fails_none}

module _ (tabs : Tables) (n : ℕ) where
  -- what a listed pattern asks is there where it starts
  asks_start : {S : Sum} → Alone n S → Asks tabs n S (start n)
  unfolding start or_table ok_at arg_of has
  asks_start {S} x = record {
    good = x.good;
    tabled = λ e. absurd (true≢false (sym e ∙ x.untabled));
    shown = λ i t b e. rw (get_or-replicate {A = ℕ} n i 0 0 b) (by i t b e);
    fed = λ i t b e c g. absurd (true≢false (sym g));
  }
    where
      by : (i : ℕ) (t : Option ℕ) → i < n → S.under i t ≡ true → ok_at tabs (or_table t none) i 0 ≡ true
      by i (some k) b e = refl
      by i none b e = absurd (true≢false (sym e ∙ x.unshown i b))

  pub pattern_plays : {b : Body} → Cleared tabs n b → first_failing tabs (play 0 b (start n)).1 ≡ none
  unfolding start due count arg_of
  pattern_plays {b} x = (x.sums.each (start n) (length-replicate n 0) enough (asks_start x.alone)).0
    where
      enough : Enough 0 b []
      enough i = rw x.unmarked (omega (arith, zero-mul (count i (shifting b))))

  -- the state before a listed pattern stays over the run
  listed_plays : {r : Body} → Runs (Cleared tabs n) r → (s : State) → length s.pins ≡ n → first_failing tabs (play 0 r s).1 ≡ none
  unfolding play playing shift_of entering bare start first_failing
  listed_plays no_more s w = refl
  listed_plays (one_more_lem {b} {r} x rest) s w =
      fails_none tabs n (entering listed [] (play 0 b) s) (play 0 r) (rw w (pattern_plays x)) (listed_plays rest s w)

  -- THE LAW
  pub listed_sound : {run : Body} → Runs (Cleared tabs n) run → first_failing tabs (cycles_of n run) ≡ none
  unfolding cycles_of start
  listed_sound x = listed_plays x (start n) (length-replicate n 0)
