-- A Loop: its first turn is all where that fails, where there is no other, or where no second may be open; else its second turn follows.
use Prim.Native.Nat.{ℕ, zero, suc, ◌-◌, ◌<◌, ◌≤◌}
use native.Mathlib.Omega.{arith}
use native.Mathlib.Nat.{pos_of_ne-zero}
use mathlib.Core.Path.{◌≡◌, refl, sym, ◌∙◌}
use mathlib.Core.Bool.{Bool, true, false, ◌||◌}
use lib.Dec.{ltb, eqb}
use borrow.Author.Tests.{le-ltb, ne_eqb, ltb-false, eqb-false}
use Rattle.tokens.specs.Tokens.{Toks}
use Rattle.tokens.proofs.Bools.{neither}
use Rattle.meaning.specs.Timing.{Tables}
use Rattle.meaning.specs.Body.{Body}
use Rattle.meaning.specs.Statements.{Env}
use Rattle.meaning.specs.Run.{State, Played as Play, follow}
use Rattle.turns.specs.Few.{loop_few, play_few}
use Rattle.plays.specs.declared.Played.{Played}
use Rattle.plays.specs.Plays.{Ground, Arrays, Standing, Plays}
use Rattle.plays.proofs.Supply.{same_play}
use Rattle.plays.proofs.Fitting.{fits_again}
use Rattle.plays.proofs.Following.{first_fails, failing_plays, second_alike, alike_same, alike_then, told_alike}

or_last : (a b : Bool) → (a || b) ≡ true → b ≡ false → a ≡ true
or_last true b h e = refl
or_last false b h e = let z : true ≡ false = sym h ∙ e in let w : ◌≡◌ {A = ℕ} 0 1 = cc in absurd (omega arith)

-- two turns
pub twice : (n k : ℕ) (f : ℕ → State → Play) (s : State) → 2 ≤ n → 0 < k → loop_few n k f s ≡ follow (f k s) (f (k - 1))
unfolding loop_few
twice zero k f s h l = absurd (omega arith)
twice (suc zero) k f s h l = absurd (omega arith)
twice (suc (suc n)) zero f s h l = absurd (omega arith)
twice (suc (suc n)) (suc k) f s h l = let e : suc k - 1 ≡ k = omega arith in rw e

module _ {g : Ground} {tabs : Tables} {level : ℕ} {y : Arrays} {us : Toks} {r : Played} (n k : ℕ) (f : ℕ → State → Play) {s : State} where
  -- the first turn is all, or it failed
  pub turned_once : 0 < n → Plays g tabs level y us r (f k s) → ((r.failed || ltb n 2) || eqb k 0) ≡ true → Plays g tabs level y us r (loop_few n k f s)
  unfolding loop_few
  turned_once some p h = by n k some p h
    where
      by : (n k : ℕ) → 0 < n → Plays g tabs level y us r (f k s) → ((r.failed || ltb n 2) || eqb k 0) ≡ true → Plays g tabs level y us r (loop_few n k f s)
      by zero k some p h = absurd (omega arith)
      by (suc zero) k some p h = p
      by (suc (suc n)) zero some p h = p
      by (suc (suc n)) (suc k) some p h =
          let e = or_last r.failed (ltb (suc (suc n)) 2) (or_last (r.failed || ltb (suc (suc n)) 2) (eqb (suc k) 0) h (ne_eqb (suc k) 0 (λ q. omega arith))) (le-ltb (suc (suc n)) 2 (omega arith)) in
          failing_plays e (first_fails tabs (f (suc k) s) (f k) (p.told.fails e))

  -- the second
  module _ {r' : Played} {y' : Arrays} where
    pub turned_twice : Plays g tabs level y us r (f k s) → ((r.failed || ltb n 2) || eqb k 0) ≡ false → Plays g tabs level y' us r' (f (k - 1) (f k s).0)
        → Plays g tabs level y' us r' (loop_few n k f s)
    turned_twice p h q =
        let i = neither (r.failed || ltb n 2) (eqb k 0) h in
        let j = neither r.failed (ltb n 2) i.0 in
        let l : 2 ≤ n = ltb-false n 2 j.1 in
        let m : 0 < k = pos_of_ne-zero (eqb-false k 0 i.1) in
        record {
          told = told_alike (alike_then (alike_same (twice n k f s l m)) (second_alike tabs (f k s) (f (k - 1)) (p.told.sound j.0))) q.told;
          behind = q.behind;
        }

-- a second turn may be open
pub second_open : (n k : ℕ) (f : Bool) → ((f || ltb n 2) || eqb k 0) ≡ false → 0 < k
second_open n k f h = pos_of_ne-zero (eqb-false k 0 (neither (f || ltb n 2) (eqb k 0) h).1)

-- there is one
pub second_due : (n k : ℕ) (f : Bool) → ((f || ltb n 2) || eqb k 0) ≡ false → 2 ≤ n
second_due n k f h = ltb-false n 2 (neither f (ltb n 2) (neither (f || ltb n 2) (eqb k 0) h).0).1

-- the first did not fail
pub first_sound : (n k : ℕ) (f : Bool) → ((f || ltb n 2) || eqb k 0) ≡ false → f ≡ false
first_sound n k f h = (neither f (ltb n 2) (neither (f || ltb n 2) (eqb k 0) h).0).0

-- behind the first turn the body is held once more
pub turned_standing : {g : Ground} {ts us : Toks} {more level table : ℕ} {x y : Arrays} {E : Env} {b : Body} {s : State} {r : Played} (k t : ℕ)
    → Standing g ts more level table x E b us s → Plays g E.tables level y us r (play_few k t b s) → r.failed ≡ false
    → Standing g ts more level r.table y E b us (play_few k t b s).0
turned_standing {b = b} {s = s} k t st p e =
    record { holding = st.holding; holds = st.holds; fits = fits_again (same_play k t b s) st.fits; shows = p.told.shows e }

-- one turn, where there is no other or none may be open
pub loop_once : (n k : ℕ) (f : ℕ → State → Play) (s : State) (failed : Bool) → 0 < n → ((failed || ltb n 2) || eqb k 0) ≡ true → failed ≡ false → loop_few n k f s ≡ f k s
unfolding loop_few
loop_once zero k f s failed some h e = absurd (omega arith)
loop_once (suc zero) k f s failed some h e = refl
loop_once (suc (suc n)) zero f s failed some h e = refl
loop_once (suc (suc n)) (suc k) f s failed some h e =
    let q = or_last failed (ltb (suc (suc n)) 2) (or_last (failed || ltb (suc (suc n)) 2) (eqb (suc k) 0) h (ne_eqb (suc k) 0 (λ q. omega arith))) (le-ltb (suc (suc n)) 2 (omega arith)) in
    let z : true ≡ false = sym q ∙ e in let w : ◌≡◌ {A = ℕ} 0 1 = cc in absurd (omega arith)
