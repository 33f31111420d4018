-- Whatever is played, the signals that have an argument stay: only characters are taken.
use Prim.Native.Nat.{ℕ, zero, suc}
use mathlib.Core.Path.{◌≡◌, refl, ◌∙◌}
use mathlib.Core.Bool.{Bool, true, false}
use mathlib.Core.List.{[], ◌∷◌}
use lib.Dec.{eqb}
use Rattle.meaning.specs.Body.{Assigns, Args, mark, Setting, assigning, choosing, Kind, macro, procedure, listed, Way, looped, shifted, entered, Body, done, vec, set', inner, supplied}
use Rattle.meaning.specs.Run.{shift_of, State, Played, put, puts, changed, follow, again, entering}
use Rattle.turns.specs.Few.{loop_few, playing_few, play_few}
use Rattle.pins.proofs.Puts.{supplied_taken}

-- the same signals have arguments
abbrev pub Same : State → State → Type 0
Same s s' = supplied s'.args ≡ supplied s.args

same_put : (x : ℕ × ℕ) (s : State) → Same s (put x s)
unfolding put
same_put x s = by (eqb x.1 mark) refl
  where
    by : (b : Bool) → eqb x.1 mark ≡ b → Same s (put x s)
    by true e = rw (e, put) (supplied_taken x.0 s.args)
    by false e = rw (e, put)

pub same_puts : (a : Assigns) (s : State) → Same s (puts a s)
unfolding puts
same_puts [] s = refl
same_puts (x ∷ a) s = same_puts a (put x s) ∙ same_put x s

pub same_changed : (x : Setting) (s : State) → Same s (changed x s)
unfolding changed
same_changed (assigning a) s = same_puts a s
same_changed (choosing k) s = refl

-- ---- plays

abbrev Keeps : (State → Played) → Type 0
Keeps f = (s : State) → Same s (f s).0

same_again : (n : ℕ) (f : State → Played) → Keeps f → Keeps (again n f)
unfolding again follow
same_again zero f h s = refl
same_again (suc n) f h s = same_again n f h (f s).0 ∙ h s

same_loop : (n k : ℕ) (f : ℕ → State → Played) → ((j : ℕ) → Keeps (f j)) → Keeps (loop_few n k f)
unfolding loop_few follow
same_loop zero k f h s = refl
same_loop (suc zero) k f h s = h k s
same_loop (suc (suc n)) zero f h s = h 0 s
same_loop (suc (suc n)) (suc k) f h s = h k _ ∙ h (suc k) s

same_entering : (kind : Kind) (a : Args) (f : State → Played) → Keeps (entering kind a f)
unfolding entering
same_entering macro a f s = refl
same_entering procedure a f s = refl
same_entering listed a f s = refl

pub same_playing : (k t : ℕ) (w : Way) (f : ℕ → State → Played) → ((j : ℕ) → Keeps (f j)) → Keeps (playing_few k t w f)
unfolding playing_few
same_playing k t (looped n) f h = same_loop n k f h
same_playing k t shifted f h = same_again t (f k) (h k)
same_playing k t (entered kind u a) f h = same_entering kind a (f k)

pub same_play : (k t : ℕ) (b : Body) → Keeps (play_few k t b)
unfolding play_few follow
same_play k t done s = refl
same_play k t (vec p a r) s = same_play k t r (puts a s) ∙ same_puts a s
same_play k t (set' x r) s = same_play k t r (changed x s) ∙ same_changed x s
same_play k t (inner w b r) s = same_play k t r _ ∙ same_playing k t w (λ j. play_few j (shift_of t w) b) (λ j. same_play j (shift_of t w) b) s
