-- One play and then another: what fails in the first fails in both; where nothing fails in it, both are as the second.
use Prim.Native.Nat.{ℕ}
use native.Mathlib.Omega.{arith}
use mathlib.Core.Path.{◌≡◌, refl, sym, ap, ◌∙◌}
use mathlib.Core.Bool.{Bool, true, false}
use mathlib.Core.Option.{Option, none, some, or_else}
use mathlib.Core.List.{List}
use Rattle.tokens.specs.Tokens.{Toks}
use Rattle.meaning.specs.Timing.{Tables}
use Rattle.meaning.specs.Run.{State, Played, follow}
use Rattle.meaning.specs.Meaning.{first_failing}
use Rattle.meaning.proofs.Turns.{fails-++}
use Rattle.pins.specs.Shown.{Told}
use Rattle.plays.specs.declared.Played.{Played as Result}
use Rattle.plays.specs.Plays.{Ground, Arrays, Plays, Alike}

module _ (tabs : Tables) (y : Played) (f : State → Played) where
  both_fail : (o : Option ℕ) → first_failing tabs y.1 ≡ o → first_failing tabs (follow y f).1 ≡ or_else o (first_failing tabs (f y.0).1)
  unfolding follow
  both_fail o e = fails-++ tabs y.1 (f y.0).1 ∙ ap (λ (x : Option ℕ). or_else x (first_failing tabs (f y.0).1)) e

  pub first_fails : {p : ℕ} → first_failing tabs y.1 ≡ some p → first_failing tabs (follow y f).1 ≡ some p
  unfolding or_else
  first_fails {p} e = both_fail (some p) e

  pub second_alike : first_failing tabs y.1 ≡ none → Alike tabs (follow y f) (f y.0)
  unfolding or_else follow
  second_alike e = record { left_same = refl; fails_same = both_fail none e }

module _ {tabs : Tables} {p q : Played} where
  pub alike_same : p ≡ q → Alike tabs p q
  alike_same e = record { left_same = ap (λ (x : Played). x.0) e; fails_same = ap (λ (x : Played). first_failing tabs x.1) e }

  pub alike_then : {o : Played} → Alike tabs p q → Alike tabs q o → Alike tabs p o
  alike_then a b = record { left_same = a.left_same ∙ b.left_same; fails_same = a.fails_same ∙ b.fails_same }

  -- what is told of a play is told of one like it
  pub told_alike : {text : List ℕ} {signals : ℕ} {values : List ℕ} {table : ℕ} {feeds : List ℕ} {level : ℕ} {failed : Bool} {place : ℕ} → Alike tabs p q
      → Told tabs text signals values table feeds level failed place q → Told tabs text signals values table feeds level failed place p
  told_alike a t = record {
    fails = λ h. a.fails_same ∙ t.fails h;
    sound = λ h. a.fails_same ∙ t.sound h;
    shows = λ h. rw a.left_same (t.shows h);
  }

-- where a cycle fails, nothing more is told
pub failing_plays : {g : Ground} {tabs : Tables} {level : ℕ} {y : Arrays} {us : Toks} {r : Result} {p : Played} → r.failed ≡ true
    → first_failing tabs p.1 ≡ some r.place → Plays g tabs level y us r p
failing_plays {g} {tabs} {level} {y} {us} {r} {p} e h =
    record { told = record { fails = λ q. h; sound = λ q. absurd (never q); shows = λ q. absurd (never q) }; behind = λ q. absurd (never q) }
  where
    never : r.failed ≡ false → ⊥
    never q = let z : true ≡ false = sym e ∙ q in let w : ◌≡◌ {A = ℕ} 0 1 = cc in omega arith

-- where none does, no place is told
pub sound_plays : {g : Ground} {tabs : Tables} {level : ℕ} {y : Arrays} {us : Toks} {r : Result} {p : Played} {place : ℕ} {ends : Bool} → r.failed ≡ false
    → Plays g tabs level y us r p → Plays g tabs level y us (record { cursor = r.cursor; failed = false; place = place; table = r.table; ends = ends }) p
sound_plays e h = record {
  told = record { fails = λ q. (let z : ◌≡◌ {A = ℕ} 0 1 = cc in absurd (omega arith)); sound = λ q. h.told.sound e; shows = λ q. h.told.shows e };
  behind = λ q. h.behind e;
}
