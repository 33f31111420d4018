-- A statement with a body in it, alone. With fewer second turns no other cycle fails, and the same is left; where it is plain it sees no argument, and not how often a Shift
-- plays around it.
use Prim.Native.Nat.{ℕ, zero, suc, ◌+◌, ◌-◌, ◌≤◌}
use native.Mathlib.Omega.{arith}
use mathlib.Core.Path.{◌≡◌, refl, sym, ap, ◌∙◌}
use mathlib.Core.Option.{none}
use mathlib.Core.List.{[], ◌∷◌}
use Rattle.meaning.specs.Timing.{Tables}
use Rattle.meaning.specs.Body.{Args, macro, procedure, listed, Way, looped, shifted, entered, Body, done, vec, set', inner}
use Rattle.meaning.specs.Run.{shift_of, State, Played as Play, puts, changed, cycle_at, follow, entering}
use Rattle.meaning.specs.Meaning.{first_failing}
use Rattle.meaning.proofs.Turns.{PlainWay, Plain, Good}
use Rattle.turns.specs.Few.{loop_few, playing_few, play_few}
use Rattle.turns.proofs.Decides.{few_left, fewer_fail}
use Rattle.sums.proofs.Free.{feeding, fed, Free, blind_puts, blind_changed, free_follow, free_then}
use Rattle.memos.proofs.Tracking.{follow_none, follow_alike}
use Rattle.plays.specs.Plays.{alone}

-- it is a body of one statement
alone_is : (k t : ℕ) (w : Way) (b : Body) (s : State) → play_few k t (inner w b done) s ≡ alone k t w b s
unfolding play_few
alone_is k t w b s = follow_none (alone k t w b s)

-- ---- fewer second turns

module _ (tabs : Tables) (t : ℕ) (b : Body) (good : Good b) where
  fewer : (s : State) (d k j : ℕ) → d + j ≡ k → first_failing tabs (play_few k t b s).1 ≡ none → first_failing tabs (play_few j t b s).1 ≡ none
  fewer s zero k j e h = let z : k ≡ j = omega arith in rw (← z) h
  fewer s (suc d) k j e h = let z : k ≡ suc (d + j) = omega arith in fewer s d (d + j) j refl (fewer_fail t b good s tabs (d + j) (rw z at h))

pub fewer_alone : (tabs : Tables) (t : ℕ) (w : Way) (b : Body) → Good (inner w b done) → (s : State) (k j : ℕ) → j ≤ k → first_failing tabs (alone k t w b s).1 ≡ none
    → (first_failing tabs (alone j t w b s).1 ≡ none) × ((alone j t w b s).0 ≡ (alone k t w b s).0)
fewer_alone tabs t w b good s k j l h =
    let one = inner w b done in
    let same : (i : ℕ) → (alone i t w b s).0 ≡ (play_few i t one s).0 = λ i. ap (λ (p : Play). p.0) (sym (alone_is i t w b s)) in
    let fails : (i : ℕ) → first_failing tabs (play_few i t one s).1 ≡ first_failing tabs (alone i t w b s).1 = λ i. ap (λ (p : Play). first_failing tabs p.1) (alone_is i t w b s) in (
      sym (fails j) ∙ fewer tabs t one good s (k - j) k j (omega arith) (fails k ∙ h),
      same j ∙ few_left t one good s j ∙ sym (few_left t one good s k) ∙ sym (same k),
    )

-- ---- a plain body does not look at how often a Shift plays around it

turns_alone : (j t u : ℕ) (w : Way) (b : Body) → PlainWay w (Plain b) → (Plain b → (i : ℕ) (z : State) → play_few i t b z ≡ play_few i u b z) → (s : State) → alone j t w b s ≡ alone j u w b s
unfolding playing_few shift_of
turns_alone j t u (looped n) b h e s = ap (λ (f : ℕ → State → Play). loop_few n j f s) (λ i. λ k z. e h k z i)
turns_alone j t u shifted b h e s = absurd h
turns_alone j t u (entered kind v a) b h e s = refl

turns_free : (t u : ℕ) (b : Body) → Plain b → (j : ℕ) (s : State) → play_few j t b s ≡ play_few j u b s
unfolding Plain play_few
turns_free t u done h j s = refl
turns_free t u (vec p a r) h j s = follow_alike _ (play_few j t r) (play_few j u r) (turns_free t u r h.1 j)
turns_free t u (set' x r) h j s = turns_free t u r h.1 j (changed x s)
turns_free t u (inner w b r) h j s =
    ap (λ (y : Play). follow y (play_few j t r)) (turns_alone j t u w b h.0 (turns_free t u b) s)
    ∙ follow_alike (alone j u w b s) (play_few j t r) (play_few j u r) (turns_free t u r h.1 j)

-- ---- nor at an argument

module _ (A : Args) where
  free_loop : (n j : ℕ) (f : ℕ → State → Play) → ((i : ℕ) → Free A (f i)) → Free A (loop_few n j f)
  unfolding loop_few
  free_loop zero j f h s = refl
  free_loop (suc zero) j f h s = h j s
  free_loop (suc (suc n)) zero f h s = h 0 s
  free_loop (suc (suc n)) (suc j) f h s = free_then A (f (suc j)) (f j) (h (suc j)) (h j) s

  free_alone : (j t : ℕ) (w : Way) (b : Body) → PlainWay w (Plain b) → (Plain b → (i : ℕ) → Free A (play_few i t b)) → Free A (alone j t w b)
  unfolding playing_few shift_of entering
  free_alone j t (looped n) b h f = free_loop n j (λ i. play_few i t b) (f h)
  free_alone j t shifted b h f = absurd h
  free_alone j t (entered macro u a) b h f = λ s. refl
  free_alone j t (entered procedure u a) b h f = λ s. refl
  free_alone j t (entered listed u a) b h f = λ s. refl

  free_few : (t : ℕ) (b : Body) → Plain b → (j : ℕ) → Free A (play_few j t b)
  unfolding Plain play_few cycle_at
  free_few t done h j s = refl
  free_few t (vec p a r) h j s =
      ap (λ (u : State). follow (u, cycle_at p u ∷ []) (play_few j t r)) (blind_puts A a h.0 s)
      ∙ free_follow A (puts a s, cycle_at p (puts a s) ∷ []) (play_few j t r) (free_few t r h.1 j)
  free_few t (set' x r) h j s = ap (play_few j t r) (blind_changed A x h.0 s) ∙ free_few t r h.1 j (changed x s)
  free_few t (inner w b r) h j s = free_then A (alone j t w b) (play_few j t r) (free_alone j t w b h.0 (free_few t b)) (free_few t r h.1 j) s

  -- THE LAW: where a plain statement stands, and with which arguments, it plays the same and leaves the same signals and table
  pub alone_free : (j t u : ℕ) (w : Way) (b : Body) → Plain (inner w b done) → (s : State) → alone j t w b (feeding A s) ≡ fed A (alone j u w b s)
  unfolding Plain
  alone_free j t u w b h s = turns_alone j t u w b h.0 (turns_free t u b) (feeding A s) ∙ free_alone j u w b h.0 (free_few u b) s
