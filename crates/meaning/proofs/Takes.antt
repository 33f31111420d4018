-- A reader that takes a token at each turn: a repeated part is read one turn at a time, whatever the count it was given.
use mathlib.Core.Path.{◌≡◌, refl}
use Prim.Native.Nat.{ℕ, zero, suc, ◌≤◌, ◌<◌}
use mathlib.Core.Bool.{Bool, true, false}
use native.Mathlib.Omega.{arith}
use Rattle.tokens.specs.Tokens.{Toks, left}
use Rattle.meaning.specs.Reader.{Res, Reader, ok, refuse, after, ◌>>=◌, while_f, while}

-- a reader that takes at least one token wherever it answers
pub record Takes {A : Type 0} (m : Reader A) : Type 0 where
  pub falls : (ts : Toks) (a : A) (us : Toks) → m ts ≡ ok a us → left us < left ts

-- one that gives none back
pub record Keeps {A : Type 0} (m : Reader A) : Type 0 where
  pub stays : (ts : Toks) (a : A) (us : Toks) → m ts ≡ ok a us → left us ≤ left ts

module _ {S : Type 0} (test : Toks → Bool) (step : S → Reader S) (takes : (s : S) → Takes (step s)) where
  -- counts that are large enough give the same
  same_count : (j k : ℕ) (s : S) (ts : Toks) → left ts < j → left ts < k → while_f test step j s ts ≡ while_f test step k s ts
  unfolding while_f after ◌>>=◌
  same_count zero k s ts hj hk = absurd (omega arith)
  same_count (suc j) zero s ts hj hk = absurd (omega arith)
  same_count (suc j) (suc k) s ts hj hk = by_test (test ts) (step s ts) refl (λ a us h. same_count j k a us (omega arith) (omega arith))
    where
      by_test : (b : Bool) (r : Res S) → step s ts ≡ r
          → ((a : S) (us : Toks) → left us < left ts → while_f test step j a us ≡ while_f test step k a us)
          → ◌≡◌ {A = Res S} (elim b [ true ↦ after r (λ s'. while_f test step j s') | false ↦ ok s ts ])
          (elim b [ true ↦ after r (λ s'. while_f test step k s') | false ↦ ok s ts ])
      by_test true (ok a us) e ih = ih a us ((takes s).falls ts a us e)
      by_test true (refuse n p) e ih = refl
      by_test false r e ih = refl

  -- the test fails: done
  pub while_done : (s : S) (ts : Toks) → test ts ≡ false → while test step s ts ≡ ok s ts
  unfolding while while_f
  while_done s ts e = rw (e, while_f)

  -- it holds: a turn, and on from there
  pub while_on : (s : S) (ts : Toks) → test ts ≡ true → while test step s ts ≡ after (step s ts) (while test step)
  unfolding while while_f after ◌>>=◌
  while_on s ts e = rw (e, while_f) (by (step s ts) refl)
    where
      by : (r : Res S) → step s ts ≡ r → after r (λ s'. while_f test step (left ts) s') ≡ after r (while test step)
      by (ok s' us) h = same_count (left ts) (suc (left us)) s' us ((takes s).falls ts s' us h) (omega arith)
      by (refuse n p) h = refl
