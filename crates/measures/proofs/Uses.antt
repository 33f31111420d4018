-- A body's uses of `#`, one statement more at a time.
use Prim.Native.Nat.{ℕ, ◌+◌, min}
use native.Mathlib.Omega.{arith}
use mathlib.Core.Path.{◌≡◌, refl, sym, ap, ◌∙◌}
use mathlib.Core.Bool.{Bool, true, true≢false}
use mathlib.Core.List.{List, [], ◌++◌, append-nil, append_assoc}
use lib.ListN.{replicate, length-replicate, get_or-replicate}
use Rattle.meaning.specs.Bounds.{signals_most}
use Rattle.meaning.specs.Lists.{has, count}
use Rattle.meaning.specs.Signals.{Names}
use Rattle.meaning.specs.Body.{Args, Kind, Setting, looped, entered, Body, done, vec, set', inner, marked, outside, in_shift, shifting}
use Rattle.meaning.specs.Data.{assigns}
use Rattle.words.specs.declared.Cursor.{Cursor}
use Rattle.words.specs.Cursor.{alive}
use Rattle.sets.proofs.Tidy.{has_below}
use Rattle.signals.specs.Names.{AllTidy}
use Rattle.assigns.specs.Given.{Gives}
use Rattle.assigns.proofs.Callers.{assigned_once, all_written}
use Rattle.measures.specs.Measures.{joined}
use Rattle.measures.specs.Uses.{uses_cap, row_length, flag, Uses, Given}

-- ---- `#` in statements behind statements

pub outside_joined : (a b : Body) → outside (joined a b) ≡ outside a ++ outside b
unfolding joined outside
outside_joined done b = refl
outside_joined (vec p x r) b = ap (λ (l : List ℕ). marked x ++ l) (outside_joined r b) ∙ sym (append_assoc (marked x) (outside r) (outside b))
outside_joined (set' x r) b = outside_joined r b
outside_joined (inner w c r) b = outside_joined r b

pub shifting_joined : (a b : Body) → shifting (joined a b) ≡ shifting a ++ shifting b
unfolding joined shifting
shifting_joined done b = refl
shifting_joined (vec p x r) b = shifting_joined r b
shifting_joined (set' x r) b = shifting_joined r b
shifting_joined (inner w c r) b =
    ap (λ (l : List ℕ). in_shift w (outside c) ++ l) (shifting_joined r b) ∙ sym (append_assoc (in_shift w (outside c)) (shifting r) (shifting b))

-- ---- a row

-- only these two count
uses_alike : {b c : Body} {row : List ℕ} → outside c ≡ outside b → shifting c ≡ shifting b → Uses b row → Uses c row
uses_alike e f u =
    record {
      long = u.long;
      outside_is = λ s h. u.outside_is s h ∙ ap (λ (l : List ℕ). min uses_cap (count s l)) (sym e);
      shifting_is = λ s h. u.shifting_is s h ∙ ap (λ (l : List ℕ). flag (has s l)) (sym f);
      below = λ s h. u.below s (sym (rw (e, f)) ∙ h);
    }

-- no use yet
pub uses_none : Uses done (replicate row_length 0)
unfolding outside shifting has count
uses_none =
    record {
      long = length-replicate {A = ℕ} row_length 0;
      outside_is = λ s h. get_or-replicate {A = ℕ} row_length s 0 0 (omega arith);
      shifting_is = λ s h. get_or-replicate {A = ℕ} row_length (signals_most + s) 0 0 (omega arith);
      below = λ s h. absurd (true≢false (sym h));
    }

-- ---- a statement without `#`

module _ {b : Body} {row : List ℕ} (u : Uses b row) where
  uses_plain : (x : Body) → outside x ≡ [] → shifting x ≡ [] → Uses (joined b x) row
  uses_plain x e f =
      uses_alike (outside_joined b x ∙ ap (λ (l : List ℕ). outside b ++ l) e ∙ append-nil (outside b))
      (shifting_joined b x ∙ ap (λ (l : List ℕ). shifting b ++ l) f ∙ append-nil (shifting b)) u

  pub uses_setting : (x : Setting) → Uses (joined b (set' x done)) row
  unfolding outside shifting
  uses_setting x = uses_plain (set' x done) refl refl

  pub uses_looped : (n : ℕ) (c : Body) → Uses (joined b (inner (looped n) c done)) row
  unfolding outside shifting in_shift
  uses_looped n c = uses_plain (inner (looped n) c done) refl refl

  pub uses_entered : (k : Kind) (t : ℕ) (x : Args) (c : Body) → Uses (joined b (inner (entered k t x) c done)) row
  unfolding outside shifting in_shift
  uses_entered k t x c = uses_plain (inner (entered k t x) c done) refl refl

-- ---- for callers: what was read has no signal twice, none above the bound, and no other characters than those of DATA

pub given_read : {text : List ℕ} {c r : Cursor} {ns : Names} (may : Bool) {given : List ℕ} → AllTidy signals_most ns
    → (g : Gives text c (assigns ns may) r given) → alive r ≡ true → Given g.it given
given_read {ns = ns} may all g live =
    let t = assigned_once may all g live in
    record { gave = g.gave live; once = t.1; below = has_below t.0; written = all_written ns may g live }
