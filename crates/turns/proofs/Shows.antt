-- What a stretch of the run shows, whatever the state before: the V's that it meets, with what is known at each; and what it leaves.
use mathlib.Core.Path.{◌≡◌, refl, sym, ap, ap₂, fun_ext, ◌∙◌, subst}
use Prim.Native.Nat.{ℕ, zero, suc, ◌+◌, ◌<◌}
use native.Mathlib.Nat.{zero-add, add-zero, add-suc, suc-add}
use native.Mathlib.Omega.{arith}
use native.Mathlib.Decide.{ℕ_discrete, dec_lt}
use mathlib.Core.Bool.{Bool, true, false, ◌&&◌, ◌||◌}
use mathlib.Core.Option.{Option, none, some, or_else}
use mathlib.Core.List.{List, [], ◌∷◌, ◌++◌}
use lib.ListN.{length, set, get_or, replicate, length-set, length-replicate}
use lib.Seq.{get_or-set_same, get_or-set_other, set_out}
use lib.Dec.{eqb}
use Rattle.meaning.specs.Timing.{Wave, Tables}
use Rattle.meaning.specs.Body.{Assigns, Args, mark, Setting, assigning, choosing, macro, procedure, listed, arg_of}
use Rattle.meaning.specs.Run.{unassigned, State, Played, next, taken, put, puts, changed, cycle_at, follow, bare, entering}
use Rattle.meaning.specs.Meaning.{has_wave, all_waves, table_at, playable, first_failing}
use Rattle.meaning.proofs.Turns.{over, over_later, fails-++}
use Rattle.turns.proofs.Known.{Known, nothing, after, Met, behind, Test, from, every, passes, first, first-++, first_behind}

-- ---- what is tested of a cycle: each signal's character with the table

unfoldable pub fine : Tables → ℕ → ℕ → Option ℕ → Bool
fine tabs i c none = false
fine tabs i c (some k) = eqb c unassigned || has_wave i c (table_at tabs k)

-- the same where only a part is known and the rest is as in s
unfoldable pub seen : Tables → State → Test
seen tabs s i p q = fine tabs i (over p (get_or s.pins i unassigned)) (over q s.table)

waves_every : (ws : List Wave) (f : ℕ → ℕ) (s : ℕ) (cs : List ℕ) → ((j : ℕ) → f (s + j) ≡ get_or cs j unassigned)
    → all_waves s cs ws ≡ every s (suc (length cs)) (λ i. eqb (f i) unassigned || has_wave i (f i) ws)
unfolding all_waves every
waves_every ws f s [] h = let e : f s ≡ unassigned = rw add-zero at (h 0) in rw e
waves_every ws f s (c ∷ cs) h =
    let e : f s ≡ c = rw add-zero at (h 0) in
    ap₂ ◌&&◌ (ap (λ (x : ℕ). eqb x unassigned || has_wave s x ws) (sym e)) (waves_every ws f (suc s) cs (λ j. rw (suc-add, ← add-suc) (h (suc j))))

playable_every : (tabs : Tables) (p : ℕ) (s : State)
    → playable tabs (cycle_at p s) ≡ every 0 (suc (length s.pins)) (λ i. fine tabs i (get_or s.pins i unassigned) s.table)
unfolding playable cycle_at every fine
playable_every tabs p s = by s.table
  where
    by : (k : Option ℕ) → elim k [ none ↦ false | some k ↦ all_waves 0 s.pins (table_at tabs k) ]
        ≡ every 0 (suc (length s.pins)) (λ i. fine tabs i (get_or s.pins i unassigned) k)
    by none = refl
    by (some k) = waves_every (table_at tabs k) (λ i. get_or s.pins i unassigned) 0 s.pins (λ j. rw zero-add)

-- ---- what a stretch leaves

-- all signals unassigned, and a table perhaps chosen
abbrev pub cleared : Option (Option ℕ) → Known
cleared k = record { pins = λ i. some unassigned; table = k }

bare_known : (n i : ℕ) → get_or (replicate n unassigned) i unassigned ≡ unassigned
bare_known zero i = refl
bare_known (suc n) zero = refl
bare_known (suc n) (suc i) = bare_known n i

-- from s to s' what is known of e was set, and the rest stayed
pub record Leaves (e : Known) (s s' : State) : Type 0 where
  pub pins : (i : ℕ) → get_or s'.pins i unassigned ≡ over (e.pins i) (get_or s.pins i unassigned)
  pub table : s'.table ≡ over e.table s.table

leaves_then : {s s' s'' : State} {e e' : Known} → Leaves e s s' → Leaves e' s' s'' → Leaves (after e e') s s''
leaves_then {s} {e} {e'} h k = record {
  pins = λ i. k.pins i ∙ ap (over (e'.pins i)) (h.pins i) ∙ sym (over_later (e.pins i) (e'.pins i) _);
  table = k.table ∙ ap (over e'.table) h.table ∙ sym (over_later e.table e'.table _);
}

-- a test as it is behind what was left
seen_left : (tabs : Tables) {e : Known} {s s' : State} → Leaves e s s' → seen tabs s' ≡ from e (seen tabs s)
unfolding seen
seen_left tabs {e} {s} {s'} h = fun_ext λ i. fun_ext λ p. fun_ext λ q.
    ap₂ (fine tabs i) (ap (over p) (h.pins i) ∙ sym (over_later (e.pins i) p _)) (ap (over q) h.table ∙ sym (over_later e.table q _))

module _ (n : ℕ) where
  -- a state over n signals with arguments A
  pub record With (A : Args) (s : State) : Type 0 where
    pub args : s.args ≡ A
    pub width : length s.pins ≡ n

  pub record Moves (f : State → State) (A A' : Args) (e : Known) : Type 0 where
    pub to : (s : State) → With A s → With A' (f s)
    pub leaves : (s : State) → With A s → Leaves e s (f s)

  abbrev pub Moving : (State → State) → Type 0
  Moving f = (A : Args) → (A' : Args) × (e : Known) × Moves f A A' e

  pub moves_same : (A : Args) → Moves (λ s. s) A A nothing
  unfolding over
  moves_same A = record { to = λ s h. h; leaves = λ s h. record { pins = λ i. refl; table = refl } }

  moves_then : {f g : State → State} {A B C : Args} {d e : Known} → Moves f A B d → Moves g B C e → Moves (λ s. g (f s)) A C (after d e)
  moves_then {f} x y = record {
    to = λ s h. y.to (f s) (x.to s h);
    leaves = λ s h. leaves_then (x.leaves s h) (y.leaves (f s) (x.to s h));
  }

  -- character c at signal j, if there is such a signal: what is known of signal i
  cell : (j c i : ℕ) → Dec (i ≡ j) → Dec (i < n) → Option ℕ
  cell j c i (yes e) (yes h) = some c
  cell j c i (yes e) (no h) = none
  cell j c i (no e) d = none

  cell_holds : (v : List ℕ) → length v ≡ n → (j c i : ℕ) (d : Dec (i ≡ j)) (d' : Dec (i < n))
      → get_or (set v j c) i unassigned ≡ over (cell j c i d d') (get_or v i unassigned)
  unfolding over cell
  cell_holds v w j c i (yes e) (yes h) = subst (λ (k : ℕ). get_or (set v k c) i unassigned ≡ c) e (get_or-set_same v i c unassigned (omega arith))
  cell_holds v w j c i (yes e) (no h) = ap (λ (v : List ℕ). get_or v i unassigned) (set_out v j c (omega arith))
  cell_holds v w j c i (no e) d = get_or-set_other v j i c unassigned e

  one : ℕ → ℕ → Known
  one j c = record { pins = λ i. cell j c i (ℕ_discrete i j) (dec_lt i n); table = none }

  moves_one : (j c : ℕ) (A B : Args) → Moves (λ s. record { pins = set s.pins j c; table = s.table; args = B }) A B (one j c)
  unfolding one over
  moves_one j c A B = record {
    to = λ s h. record { args = refl; width = length-set s.pins j c ∙ h.width };
    leaves = λ s h. record { pins = λ i. cell_holds s.pins h.width j c i (ℕ_discrete i j) (dec_lt i n); table = refl };
  }

  pub moves_as : {f : State → State} (g : State → State) {A B : Args} {e : Known} → ((s : State) → s.args ≡ A → g s ≡ f s) → Moves g A B e → Moves f A B e
  moves_as g {B} {e} q x = record {
    to = λ s h. subst (With B) (q s h.args) (x.to s h);
    leaves = λ s h. subst (Leaves e s) (q s h.args) (x.leaves s h);
  }

  moving_put : (x : ℕ × ℕ) → Moving (put x)
  unfolding put
  moving_put x A = by (eqb x.1 mark) refl
    where
      by : (w : Bool) → eqb x.1 mark ≡ w → (A' : Args) × (e : Known) × Moves (put x) A A' e
      by true e = (_, _, moves_as _ (λ s a. rw (← a, e, put)) (moves_one x.0 (next (arg_of x.0 A)) A (taken x.0 A)))
      by false e = (_, _, moves_as _ (λ s a. rw (← a, e, put)) (moves_one x.0 x.1 A A))

  pub moving_puts : (xs : Assigns) → Moving (puts xs)
  unfolding puts
  moving_puts [] A = (A, nothing, moves_same A)
  moving_puts (x ∷ xs) A =
      let l = moving_put x A in
      let m = moving_puts xs l.0 in
      (m.0, after l.1 m.1, moves_then l.2 m.2)

  pub moving_changed : (x : Setting) → Moving (changed x)
  unfolding changed over
  moving_changed (assigning a) A = moving_puts a A
  moving_changed (choosing k) A = (
    A,
    record { pins = λ i. none; table = some (some k) },
    record { to = λ s h. record { args = h.args; width = h.width }; leaves = λ s h. record { pins = λ i. refl; table = refl } },
  )

-- ---- what it shows

module _ (n : ℕ) (tabs : Tables) where
  pub record Shows (f : State → Played) (A A' : Args) (e : Known) (l : List Met) : Type 0 where
    pub moves : Moves n (λ s. (f s).0) A A' e
    pub fails : (s : State) → With n A s → first_failing tabs (f s).1 ≡ first n (seen tabs s) l

  -- what fails from s' on fails from s on, behind what was left
  first_left : {e : Known} {s s' : State} (l : List Met) → Leaves e s s' → first n (seen tabs s') l ≡ first n (seen tabs s) (behind e l)
  first_left {e} {s} l h = ap (λ (T : Test). first n T l) (seen_left tabs h) ∙ sym (first_behind n (seen tabs s) e l)

  -- no cycle
  pub shows_none : {f : State → State} {A B : Args} {e : Known} → Moves n f A B e → Shows (λ s. (f s, [])) A B e []
  unfolding first_failing first
  shows_none x = record { moves = x; fails = λ s h. refl }

  -- a V
  pub shows_vec : (p : ℕ) {f : State → State} {A B : Args} {e : Known} → Moves n f A B e → Shows (λ s. (f s, cycle_at p (f s) ∷ [])) A B e ((p, e) ∷ [])
  unfolding first_failing first cycle_at seen
  shows_vec p {f} {A} {e} x = record {
    moves = x;
    fails = λ s h. ap (λ (w : Bool). elim w [ true ↦ none | false ↦ some p ]) (tested s h);
  }
    where
      tested : (s : State) → With n A s → playable tabs (cycle_at p (f s)) ≡ passes n (seen tabs s) e
      tested s h =
          let l = x.leaves s h in
          playable_every tabs p (f s)
          ∙ ap (λ (m : ℕ). every 0 (suc m) λ i. fine tabs i (get_or (f s).pins i unassigned) (f s).table) (x.to s h).width
          ∙ ap (every 0 (suc n)) (fun_ext λ i. ap₂ (fine tabs i) (l.pins i) l.table)

  pub shows_then : {f g : State → Played} {A B C : Args} {d e : Known} {l m : List Met} → Shows f A B d l → Shows g B C e m
      → Shows (λ s. follow (f s) g) A C (after d e) (l ++ behind d m)
  unfolding follow
  shows_then {f} {g} {d} {l} {m} x y = record {
    moves = moves_then n x.moves y.moves;
    fails = λ s h. fails-++ tabs (f s).1 (g (f s).0).1
        ∙ ap₂ or_else (x.fails s h) (y.fails (f s).0 (x.moves.to s h) ∙ first_left m (x.moves.leaves s h))
        ∙ sym (first-++ n (seen tabs s) l (behind d m));
  }

  -- a body entered
  pub shows_macro : {f : State → Played} {a B : Args} {e : Known} {l : List Met} (A : Args) → Shows f a B e l → Shows (entering macro a f) A A e l
  unfolding entering seen
  shows_macro {a} A x = record {
    moves = record {
      to = λ s h. record { args = h.args; width = (x.moves.to _ (given s h)).width };
      leaves = λ s h. record { pins = (x.moves.leaves _ (given s h)).pins; table = (x.moves.leaves _ (given s h)).table };
    };
    fails = λ s h. x.fails _ (given s h);
  }
    where
      given : (s : State) → With n A s → With n a (record { pins = s.pins; table = s.table; args = a })
      given s h = record { args = refl; width = h.width }

  -- one that begins behind e and leaves nothing
  shows_apart : {f : State → Played} {a B : Args} {d : Known} {l : List Met} (A : Args) (g : State → State) (e : Known) → Moves n g A a e → Shows f a B d l
      → Shows (λ s. (s, (f (g s)).1)) A A nothing (behind e l)
  shows_apart {l} A g e y x = record {
    moves = moves_same n A;
    fails = λ s h. x.fails (g s) (y.to s h) ∙ first_left l (y.leaves s h);
  }

  moves_cleared : (A a : Args) (k : Option (Option ℕ)) → Moves n (λ s. record { pins = bare s.pins; table = over k s.table; args = a }) A a (cleared k)
  unfolding bare over
  moves_cleared A a k = record {
    to = λ s h. record { args = refl; width = length-replicate (length s.pins) unassigned ∙ h.width };
    leaves = λ s h. record { pins = bare_known (length s.pins); table = refl };
  }

  pub shows_procedure : {f : State → Played} {a B : Args} {e : Known} {l : List Met} (A : Args) → Shows f a B e l
      → Shows (entering procedure a f) A A nothing (behind (cleared none) l)
  unfolding entering over
  shows_procedure {a} A x = shows_apart A _ (cleared none) (moves_cleared A a none) x

  pub shows_listed : {f : State → Played} {a B : Args} {e : Known} {l : List Met} (A : Args) → Shows f a B e l
      → Shows (entering listed a f) A A nothing (behind (cleared (some none)) l)
  unfolding entering over
  shows_listed {a} A x = shows_apart A _ (cleared (some none)) (moves_cleared A a (some none)) x
