-- Statements passed: each Loop in them gone through once leaves what all its turns leave.
use mathlib.Core.Path.{◌≡◌, refl, sym, ap, ◌∙◌}
use Prim.Native.Nat.{ℕ, zero, suc, ◌≤◌}
use Rattle.meaning.specs.Body.{Assigns, Args, macro, procedure, listed, Way, looped, shifted, entered, Body, done, vec, set', inner}
use Rattle.meaning.specs.Run.{State, Played, shift_of, puts, changed, follow, again, entering, playing, play}
use Rattle.meaning.proofs.Turns.{Plain, Good, IfLoop}
use Rattle.turns.specs.Few.{loop_few, playing_few, play_few}
use Rattle.turns.proofs.Decides.{few_left}
use Rattle.walks.specs.Statement.{played_in, begun}
use Rattle.walks.specs.Turns.{begins}
use Rattle.walks.specs.Passed.{times, passing, passed}

-- ---- with no second turn open, every Loop is gone through once

times_again : (t : ℕ) (f : State → State) (g : State → Played) → ((s : State) → f s ≡ (g s).0) → (s : State) → times t f s ≡ (again t g s).0
unfolding times again follow
times_again zero f g h s = refl
times_again (suc t) f g h s = ap (times t f) (h s) ∙ times_again t f g h (g s).0

passing_few : (t : ℕ) (w : Way) (f : State → State) (g : ℕ → State → Played) → ((s : State) → f s ≡ (g 0 s).0) → (s : State)
    → passing t w f s ≡ (playing_few 0 t w g s).0
unfolding passing playing_few loop_few entering begun
passing_few t (looped zero) f g h s = refl
passing_few t (looped (suc zero)) f g h s = h s
passing_few t (looped (suc (suc n))) f g h s = h s
passing_few t shifted f g h s = times_again t f (g 0) h s
passing_few t (entered macro u a) f g h s = ap (λ (y : State). record { pins = y.pins; table = y.table; args = s.args }) (h _)
passing_few t (entered procedure u a) f g h s = refl
passing_few t (entered listed u a) f g h s = refl

pub passed_few : (t : ℕ) (b : Body) (s : State) → passed t b s ≡ (play_few 0 t b s).0
unfolding passed play_few follow
passed_few t done s = refl
passed_few t (vec p a r) s = passed_few t r (puts a s)
passed_few t (set' x r) s = passed_few t r (changed x s)
passed_few t (inner w b r) s =
    ap (passed t r) (passing_few t w (passed (shift_of t w) b) (λ j. play_few j (shift_of t w) b) (passed_few (shift_of t w) b) s)
    ∙ passed_few t r _

-- ---- and so

-- THE LAW: what is left behind a body
pub passed_left : (t : ℕ) (b : Body) → Good b → (s : State) → passed t b s ≡ (play t b s).0
passed_left t b h s = passed_few t b s ∙ few_left t b h s 0

-- and behind one statement of it
pub passing_left : (t : ℕ) (w : Way) (b : Body) → IfLoop w (Plain b) → Good b → (s : State) → passing t w (passed (shift_of t w) b) s ≡ (played_in t w b s).0
unfolding passed play follow Good
passing_left t w b h g s = passed_left t (inner w b done) (h, g, tt) s

-- the same of what plays with no second turn open
pub few_in_left : (t : ℕ) (w : Way) (b : Body) → IfLoop w (Plain b) → Good b → (s : State)
    → (playing_few 0 t w (λ j. play_few j (shift_of t w) b) s).0 ≡ (played_in t w b s).0
unfolding play_few play follow Good
few_in_left t w b h g s = few_left t (inner w b done) (h, g, tt) s 0

-- ---- statement by statement

-- a Loop: once
pub loop_passed : (t n : ℕ) (b : Body) → 1 ≤ n → Plain b → Good b → (s : State) → passed t b s ≡ (played_in t (looped n) b s).0
unfolding passing shift_of
loop_passed t zero b h p g s = elim h [ ]
loop_passed t (suc n) b h p g s = passing_left t (looped (suc n)) b p g s

-- a Shift: its V, t times
pub shift_passed : (t p : ℕ) (a : Assigns) (s : State) → times t (puts a) s ≡ (played_in t shifted (vec p a done) s).0
unfolding passing passed shift_of Good
shift_passed t p a s = passing_left t shifted (vec p a done) tt tt s

-- a macro: its body, in place; the caller's arguments are as they were
pub macro_passed : (t u : ℕ) (a : Args) (b : Body) → Good b → (s : State)
    → record { pins = (passed u b (begun macro a s)).pins; table = (passed u b (begun macro a s)).table; args = s.args } ≡ (played_in t (entered macro u a) b s).0
unfolding passing shift_of
macro_passed t u a b g s = passing_left t (entered macro u a) b tt g s

-- a procedure: nothing
pub procedure_passed : (t u : ℕ) (a : Args) (b : Body) (s : State) → s ≡ (played_in t (entered procedure u a) b s).0
unfolding playing entering
procedure_passed t u a b s = refl

-- a listed pattern: nothing
pub listed_passed : (t u : ℕ) (a : Args) (b : Body) (s : State) → s ≡ (played_in t (entered listed u a) b s).0
unfolding playing entering
listed_passed t u a b s = refl

-- ---- so a Loop is entered behind its first turn with the state that passing its body leaves

pub begins_first : (t : ℕ) (b : Body) (s : State) → begins t b 0 s ≡ s
unfolding begins
begins_first t b s = refl

pub begins_later : (t : ℕ) (b : Body) → Good b → (j : ℕ) (s : State) → 1 ≤ j → begins t b j s ≡ passed t b s
unfolding begins
begins_later t b g zero s h = elim h [ ]
begins_later t b g (suc j) s h = sym (passed_left t b g s)
