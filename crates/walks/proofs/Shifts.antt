-- A Shift entered at turn i: its V sets the same signals in each turn, so that of the turns before only the characters taken are seen. Skipping i of each argument serves.
use mathlib.Core.Path.{◌≡◌, refl, sym, ap, ap₂, ◌∙◌, subst}
use Prim.Native.Nat.{ℕ, zero, suc, ◌+◌, ◌*◌, ◌-◌, ◌≤◌, ◌<◌}
use native.Mathlib.Omega.{arith}
use native.Mathlib.Decide.{ℕ_discrete}
use mathlib.Core.Bool.{Bool, true, false}
use mathlib.Core.Option.{Option}
use mathlib.Core.List.{List, [], ◌∷◌}
use lib.ListN.{length, get_or, set, drop, length-set}
use lib.Seq.{get_or-set_same, get_or-set_other, ext_get_or}
use lib.Dec.{eqb}
use borrow.Author.Tests.{ne_eqb, eqb-false}
use Rattle.tokens.proofs.Bools.{neither}
use Rattle.meaning.specs.Lists.{has, repeats}
use Rattle.meaning.specs.Body.{Assigns, Args, mark, arg_of, supplied, marked, shifted, done, vec}
use Rattle.meaning.specs.Data.{assigned}
use Rattle.meaning.specs.Run.{State, Cycle, Played, next, put, puts, cycle_at, follow, again, playing, play}
use Rattle.meaning.proofs.Rows.{length_again, puts_table}
use Rattle.meaning.proofs.Lists.{marked_not}
use Rattle.walks.specs.Seen.{seen, Through}
use Rattle.walks.specs.Statement.{played_in}
use Rattle.walks.specs.Turns.{vector, lost_all, skipped}
use Rattle.walks.proofs.Loops.{again_add, turns_passed}
use Rattle.walks.proofs.Arguments.{taken_lost, all_both, all_none, arg_skipped, arg_kept, supplied_lost}

-- ---- what assignments do to arguments and table, whatever the pins

-- one signal set, and perhaps a character taken
put_is : (x : ℕ × ℕ) (s : State) → (c : ℕ) × ((put x s).pins ≡ set s.pins x.0 c)
unfolding put
put_is x s = by (eqb x.1 mark) refl
  where
    by : (w : Bool) → eqb x.1 mark ≡ w → (c : ℕ) × ((put x s).pins ≡ set s.pins x.0 c)
    by true e = (next (arg_of x.0 s.args), rw (e, put))
    by false e = (x.1, rw (e, put))

pub puts_args : (a : Assigns) (s : State) → (puts a s).args ≡ lost_all 1 (marked a) s.args
unfolding puts put marked lost_all
puts_args [] s = refl
puts_args (x ∷ a) s = puts_args a (put x s) ∙ by (eqb x.1 mark) refl
  where
    by : (w : Bool) → eqb x.1 mark ≡ w → lost_all 1 (marked a) (put x s).args ≡ lost_all 1 (marked (x ∷ a)) s.args
    by true e = simp (e, put, marked) (ap (lost_all 1 (marked a)) (taken_lost x.0 s.args))
    by false e = simp (e, put, marked)

-- ---- pins that differ only where they are assigned

abbrev Apart : Assigns → List ℕ → List ℕ → Type 0
Apart a v w = (length v ≡ length w) × ((i : ℕ) → i < length v → has i (assigned a) ≡ false → get_or v i 0 ≡ get_or w i 0)

apart_set : (x : ℕ × ℕ) (a : Assigns) (v w : List ℕ) (c : ℕ) → Apart (x ∷ a) v w → Apart a (set v x.0 c) (set w x.0 c)
unfolding assigned has
apart_set x a v w c h = (length-set v x.0 c ∙ h.0 ∙ sym (length-set w x.0 c), λ i g o. by i (rw length-set at g) o (ℕ_discrete i x.0))
  where
    by : (i : ℕ) → i < length v → has i (assigned a) ≡ false → Dec (i ≡ x.0) → get_or (set v x.0 c) i 0 ≡ get_or (set w x.0 c) i 0
    by i g o (yes e) =
        subst (λ (j : ℕ). get_or (set v j c) i 0 ≡ get_or (set w j c) i 0) e
        (get_or-set_same v i c 0 g ∙ sym (get_or-set_same w i c 0 (omega (arith, h.0))))
    by i g o (no e) =
        let q : eqb x.0 i ≡ false = ne_eqb x.0 i (λ r. e (sym r)) in
        get_or-set_other v x.0 i c 0 e ∙ h.1 i g (rw q o) ∙ sym (get_or-set_other w x.0 i c 0 e)

-- assignments see none of the difference
puts_alike : (a : Assigns) (v w : List ℕ) (k : Option ℕ) (A : Args) → Apart a v w
    → puts a (record { pins = v; table = k; args = A }) ≡ puts a (record { pins = w; table = k; args = A })
unfolding puts put has assigned
puts_alike [] v w k A h = ap (λ (l : List ℕ). record { pins = l; table = k; args = A }) (ext_get_or 0 v w h.0 (λ i g. h.1 i g refl))
puts_alike (x ∷ a) v w k A h = by (eqb x.1 mark) refl (λ c B. puts_alike a (set v x.0 c) (set w x.0 c) k B (apart_set x a v w c h))
  where
    by : (y : Bool) → eqb x.1 mark ≡ y
        → ((c : ℕ) (B : Args) → puts a (record { pins = set v x.0 c; table = k; args = B }) ≡ puts a (record { pins = set w x.0 c; table = k; args = B }))
        → puts a (put x (record { pins = v; table = k; args = A })) ≡ puts a (put x (record { pins = w; table = k; args = A }))
    by true e ih = simp (e, put) (ih _ _)
    by false e ih = simp (e, put) (ih _ _)

-- and they leave all other signals
puts_apart : (a : Assigns) (s : State) → Apart a (puts a s).pins s.pins
unfolding puts assigned has
puts_apart [] s = (refl, λ i g o. refl)
puts_apart (x ∷ a) s =
    let h = puts_apart a (put x s) in
    let p = put_is x s in
    let l : length (put x s).pins ≡ length s.pins = ap length p.1 ∙ length-set s.pins x.0 p.0 in (
      h.0 ∙ l,
      λ i g o.
          let e = neither (eqb x.0 i) (has i (assigned a)) o in
          h.1 i g e.1 ∙ ap (λ (v : List ℕ). get_or v i 0) p.1
          ∙ get_or-set_other s.pins x.0 i p.0 0 (λ r. eqb-false x.0 i e.0 (sym r)),
    )

-- ---- the turns

module _ (p : ℕ) (a : Assigns) where
  -- THE LAW: of the turns before turn i only the characters taken are seen
  pub turn_skipped : (i : ℕ) (s : State) → puts a (again i (vector p a) s).0 ≡ puts a (skipped i a s)
  unfolding again follow skipped
  turn_skipped zero s = ap (λ (A : Args). puts a (record { pins = s.pins; table = s.table; args = A })) (sym (all_none (marked a) s.args))
  turn_skipped (suc i) s =
      let n : 1 + i ≡ suc i = omega arith in
      let l = ap (lost_all i (marked a)) (puts_args a s) ∙ all_both i 1 (marked a) s.args ∙ ap (λ (k : ℕ). lost_all k (marked a) s.args) n in
      turn_skipped i (puts a s)
      ∙ ap₂ (λ (k : Option ℕ) (A : Args). puts a (record { pins = (puts a s).pins; table = k; args = A })) (puts_table a s) l
      ∙ puts_alike a (puts a s).pins s.pins s.table (lost_all (suc i) (marked a) s.args) (puts_apart a s)

  again_alike : (k : ℕ) (s s' : State) → puts a s ≡ puts a s' → again (suc k) (vector p a) s ≡ again (suc k) (vector p a) s'
  unfolding again
  again_alike k s s' e = ap (λ (u : State). follow (u, cycle_at p u ∷ []) (again k (vector p a))) e

  module _ (t i : ℕ) (s : State) (h : i < t) where
    -- the turns from i on
    pub turns_skipped : again (t - i) (vector p a) (again i (vector p a) s).0 ≡ again (t - i) (vector p a) (skipped i a s)
    turns_skipped =
        let e : t - i ≡ suc (t - i - 1) = omega arith in
        rw e (again_alike (t - i - 1) (again i (vector p a) s).0 (skipped i a s) (turn_skipped i s))

    pub shift_entered : (m : ℕ) → seen i m (again t (vector p a) s).1 ≡ seen 0 m (again (t - i) (vector p a) (skipped i a s)).1
    shift_entered m =
        let e : i - i * 1 ≡ 0 = omega arith in
        turns_passed (vector p a) 1 (λ u. refl) i t i m s (omega arith) (omega arith)
        ∙ ap₂ (λ (n : ℕ) (y : Played). seen n m y.1) e turns_skipped

    pub shift_left : (again t (vector p a) s).0 ≡ (again (t - i) (vector p a) (skipped i a s)).0
    unfolding follow
    shift_left =
        let e : t ≡ i + (t - i) = omega arith in
        ap (λ (k : ℕ). (again k (vector p a) s).0) e
        ∙ ap (λ (y : Played). y.0) (again_add (vector p a) i (t - i) s)
        ∙ ap (λ (y : Played). y.0) turns_skipped

    -- whoever goes through the turns left from there has gone through all
    pub through_shift : {m : ℕ} {cs : List Cycle} {n' m' : ℕ} → Through (again (t - i) (vector p a) (skipped i a s)).1 0 m cs n' m'
        → Through (again t (vector p a) s).1 i m cs n' m'
    through_shift {m} x = record {
      shown = x.shown ∙ sym (shift_entered m);
      show = x.show;
      pass = λ g. x.pass g ∙ omega (arith, length_again t 1 (vector p a) s (λ u. refl));
    }

  -- the state behind a Shift, by its last turn alone
  pub shift_last : (t : ℕ) (s : State) → 1 ≤ t → (again t (vector p a) s).0 ≡ puts a (skipped (t - 1) a s)
  unfolding again follow
  shift_last t s h =
      let e : t - (t - 1) ≡ 1 = omega arith in
      shift_left t (t - 1) s (omega arith) ∙ ap (λ (k : ℕ). (again k (vector p a) (skipped (t - 1) a s)).0) e

-- the statement plays its V so
pub shift_turns_lem : (t p : ℕ) (a : Assigns) (s : State) → played_in t shifted (vec p a done) s ≡ again t (vector p a) s
unfolding playing play follow
shift_turns_lem t p a s = refl

-- ---- its arguments, for whoever holds them signal by signal

pub marked_once : (a : Assigns) → repeats (assigned a) ≡ false → repeats (marked a) ≡ false
unfolding assigned marked repeats
marked_once [] h = refl
marked_once (x ∷ a) h =
    let e = neither (has x.0 (assigned a)) (repeats (assigned a)) h in
    by (eqb x.1 mark) (marked_not x.0 a e.0) (marked_once a e.1)
  where
    by : (w : Bool) → has x.0 (marked a) ≡ false → repeats (marked a) ≡ false → repeats (elim w [ true ↦ x.0 ∷ marked a | false ↦ marked a ]) ≡ false
    by true e ih = rw e ih
    by false e ih = ih

module _ (i : ℕ) (a : Assigns) (u : State) where
  pub skipped_arg : (s : ℕ) → repeats (assigned a) ≡ false → has s (marked a) ≡ true → arg_of s (skipped i a u).args ≡ drop i (arg_of s u.args)
  unfolding skipped
  skipped_arg s once h = arg_skipped i s (marked a) u.args (marked_once a once) h

  pub kept_arg : (s : ℕ) → has s (marked a) ≡ false → arg_of s (skipped i a u).args ≡ arg_of s u.args
  unfolding skipped
  kept_arg s h = arg_kept i s (marked a) u.args h

  pub skipped_supplied : supplied (skipped i a u).args ≡ supplied u.args
  unfolding skipped
  skipped_supplied = supplied_lost i (marked a) u.args
