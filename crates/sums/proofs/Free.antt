-- A plain body sees no argument: with any arguments it plays the same cycles, and leaves the same signals and table.
use Prim.Native.Nat.{ℕ, zero, suc}
use native.Mathlib.Omega.{arith}
use mathlib.Core.Path.{◌≡◌, refl, ap, ◌∙◌}
use mathlib.Core.Bool.{Bool, true, false}
use mathlib.Core.List.{List, [], ◌∷◌, ◌++◌}
use lib.Dec.{eqb}
use Rattle.meaning.specs.Body.{Assigns, Args, mark, Setting, assigning, choosing, macro, procedure, listed, Way, looped, shifted, entered, Body, done, vec, set', inner, marked}
use Rattle.meaning.specs.Run.{shift_of, State, Played, put, puts, changed, cycle_at, follow, again, entering, playing, play}
use Rattle.meaning.proofs.Turns.{Unmarked, PlainWay, Plain}

-- a state with other arguments
abbrev pub feeding : Args → State → State
feeding A s = record { pins = s.pins; table = s.table; args = A }

module _ (A : Args) where
  abbrev Blind : (State → State) → Type 0
  Blind f = (s : State) → f (feeding A s) ≡ feeding A (f s)

  -- the same of a play
  abbrev pub fed : Played → Played
  fed y = (feeding A y.0, y.1)

  abbrev pub Free : (State → Played) → Type 0
  Free f = (s : State) → f (feeding A s) ≡ fed (f s)

  pub blind_puts : (a : Assigns) → marked a ≡ [] → Blind (puts a)
  unfolding puts marked put
  blind_puts [] e s = refl
  blind_puts (x ∷ a) e s = by (eqb x.1 mark) refl e (blind_puts a)
    where
      by : (w : Bool) → eqb x.1 mark ≡ w → ◌≡◌ {A = List ℕ} (elim w [ true ↦ x.0 ∷ marked a | false ↦ marked a ]) [] → (marked a ≡ [] → Blind (puts a))
          → puts a (put x (feeding A s)) ≡ feeding A (puts a (put x s))
      by true q e ih = let z : ◌≡◌ {A = ℕ} 0 1 = cc in absurd (omega arith)
      by false q e ih =
          let one : put x (feeding A s) ≡ feeding A (put x s) = simp (q, put) in
          ap (puts a) one ∙ ih e (put x s)

  pub blind_changed : (x : Setting) → Unmarked x → Blind (changed x)
  unfolding changed
  blind_changed (assigning a) h = blind_puts a h
  blind_changed (choosing k) h = λ s. refl

  pub free_follow : (x : Played) (f : State → Played) → Free f → follow (fed x) f ≡ fed (follow x f)
  unfolding follow
  free_follow x f h = ap (λ (y : Played). (y.0, x.1 ++ y.1)) (h x.0)

  pub free_then : (f g : State → Played) → Free f → Free g → Free (λ s. follow (f s) g)
  free_then f g h k s = ap (λ (x : Played). follow x g) (h s) ∙ free_follow (f s) g k

  free_again : (n : ℕ) (f : State → Played) → Free f → Free (again n f)
  unfolding again
  free_again zero f h s = refl
  free_again (suc n) f h s = free_then f (again n f) h (free_again n f h) s

  free_playing : (t : ℕ) (w : Way) (f : State → Played) (P : Type 0) → PlainWay w P → (P → Free f) → Free (playing t w f)
  unfolding playing entering
  free_playing t (looped n) f P h k = free_again n f (k h)
  free_playing t shifted f P h k = absurd h
  free_playing t (entered macro u a) f P h k = λ s. refl
  free_playing t (entered procedure u a) f P h k = λ s. refl
  free_playing t (entered listed u a) f P h k = λ s. refl

  pub plain_free : (t : ℕ) (b : Body) → Plain b → Free (play t b)
  unfolding Plain play cycle_at
  plain_free t done h s = refl
  plain_free t (vec p a r) h s =
      ap (λ (u : State). follow (u, cycle_at p u ∷ []) (play t r)) (blind_puts a h.0 s) ∙ free_follow (puts a s, _ ∷ []) (play t r) (plain_free t r h.1)
  plain_free t (set' x r) h s = ap (play t r) (blind_changed x h.0 s) ∙ plain_free t r h.1 (changed x s)
  plain_free t (inner w b r) h s =
      free_then (playing t w (play (shift_of t w) b)) (play t r) (free_playing t w (play (shift_of t w) b) (Plain b) h.0 (plain_free (shift_of t w) b))
      (plain_free t r h.1) s
