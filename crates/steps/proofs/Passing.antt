-- A statement that is passed is played with no second turn open. Where no cycle of it fails none of those does, so that what is told is the state behind all its turns.
use Prim.Native.Nat.{ℕ}
use native.Mathlib.Omega.{arith}
use mathlib.Core.Path.{◌≡◌, refl, sym, ap, ◌∙◌, subst}
use mathlib.Core.Bool.{Bool, true, false}
use mathlib.Core.Option.{none, some}
use mathlib.Core.List.{append-nil}
use Rattle.tokens.specs.Tokens.{Toks}
use Rattle.meaning.specs.Timing.{Tables}
use Rattle.meaning.specs.Body.{Assigns, Args, Way, looped, shifted, entered, Body, done, vec}
use Rattle.meaning.specs.Run.{shift_of, State, Played as Play, follow, again, entering, play}
use Rattle.meaning.specs.Meaning.{first_failing}
use Rattle.meaning.specs.Statements.{Env}
use Rattle.meaning.proofs.Turns.{Plain, Good, IfLoop}
use Rattle.turns.specs.Few.{loop_few, playing_few, play_few}
use Rattle.turns.proofs.Decides.{few_decides, fewer_fail}
use Rattle.walks.specs.Statement.{played_in}
use Rattle.walks.proofs.Passing.{few_in_left}
use Rattle.heads.specs.Heads.{kind_of}
use Rattle.plays.specs.declared.Played.{Played}
use Rattle.plays.specs.Plays.{Ground, Arrays, Showing, Standing, Telling, Plays, Using}
use Rattle.steps.specs.Walks.{only}

-- ---- no cycle fails

pub few_sound : (tabs : Tables) (t : ℕ) (b : Body) (s : State) → Good b → first_failing tabs (play t b s).1 ≡ none → first_failing tabs (play_few 0 t b s).1 ≡ none
few_sound tabs t b s good sound = fewer_fail t b good s tabs 0 (fewer_fail t b good s tabs 1 ((few_decides t b good s tabs).1 ∙ sound))

module _ (t : ℕ) (w : Way) (b : Body) (s : State) where
  -- a statement alone plays as the statement
  pub only_cycles : (play t (only w b) s).1 ≡ (played_in t w b s).1
  unfolding play follow
  only_cycles = append-nil (played_in t w b s).1

  pub only_left : (play t (only w b) s).0 ≡ (played_in t w b s).0
  unfolding play follow
  only_left = refl

  few_only : (play_few 0 t (only w b) s).1 ≡ (playing_few 0 t w (λ j. play_few j (shift_of t w) b) s).1
  unfolding play_few follow
  few_only = append-nil (playing_few 0 t w (λ j. play_few j (shift_of t w) b) s).1

  module _ (tabs : Tables) where
    pub only_sound : first_failing tabs (play t (only w b) s).1 ≡ none → first_failing tabs (played_in t w b s).1 ≡ none
    only_sound h = ap (first_failing tabs) (sym only_cycles) ∙ h

    pub few_in_sound : IfLoop w (Plain b) → Good b → first_failing tabs (played_in t w b s).1 ≡ none
        → first_failing tabs (playing_few 0 t w (λ j. play_few j (shift_of t w) b) s).1 ≡ none
    unfolding Good
    few_in_sound loop good h =
        ap (first_failing tabs) (sym few_only) ∙ few_sound tabs t (only w b) s (loop, good, tt) (ap (first_failing tabs) only_cycles ∙ h)

-- ---- what is told of a statement that was passed

-- none of its cycles failed, and the state is that behind all its turns
pub record Passed (g : Ground) (level : ℕ) (y : Arrays) (r : Played) (p : Play) : Type 0 where
  pub sound : r.failed ≡ false
  pub shows : Showing g level r.table y p.0

module _ (g : Ground) (y : Arrays) (r : Played) {tabs : Tables} {level : ℕ} where
  told_sound : {p : Play} → first_failing tabs p.1 ≡ none → Telling g tabs level y r p → r.failed ≡ false
  told_sound {p} sound told = by r.failed refl
    where
      by : (f : Bool) → r.failed ≡ f → f ≡ false
      by true e = let z : some r.place ≡ none = sym (told.fails e) ∙ sound in let w : ◌≡◌ {A = ℕ} 0 1 = cc in absurd (omega arith)
      by false e = refl

  passed : (t : ℕ) (w : Way) (b : Body) (s : State) → IfLoop w (Plain b) → Good b → first_failing tabs (played_in t w b s).1 ≡ none
      → Telling g tabs level y r (playing_few 0 t w (λ j. play_few j (shift_of t w) b) s) → Passed g level y r (played_in t w b s)
  passed t w b s loop good sound told =
      let e = told_sound (few_in_sound t w b s tabs loop good sound) told in
      record { sound = e; shows = subst (λ (u : State). Showing g level r.table y u) (few_in_left t w b loop good s) (told.shows e) }

module _ {g : Ground} {E : Env} {level table : ℕ} {x y : Arrays} {us vs : Toks} {s : State} {r : Played} (t : ℕ) where
  -- a Loop
  pub loop_told : {ts : Toks} {more : ℕ} {b : Body} (n : ℕ) → Standing g ts more level table x E b us s → Plain b
      → first_failing E.tables (played_in t (looped n) b s).1 ≡ none → Plays g E.tables level y vs r (loop_few n 0 (λ j. play_few j t b) s)
      → Passed g level y r (played_in t (looped n) b s)
  unfolding playing_few shift_of
  loop_told {b = b} n st plain sound p = passed g y r t (looped n) b s plain st.fits.good sound p.told

  -- a Shift
  pub shift_told : {ts : Toks} {more p : ℕ} {a : Assigns} → Standing g ts more level table x E (vec p a done) us s
      → first_failing E.tables (played_in t shifted (vec p a done) s).1 ≡ none → Plays g E.tables level y vs r (again t (play_few 0 t (vec p a done)) s)
      → Passed g level y r (played_in t shifted (vec p a done) s)
  unfolding playing_few shift_of
  shift_told {p = p} {a = a} st sound q = passed g y r t shifted (vec p a done) s tt st.fits.good sound q.told

-- a body that is used
pub used_told : {g : Ground} {i more level table : ℕ} {x : Arrays} {E : Env} {b : Body} {us : Toks} {a : Args} {s : State} (y : Arrays) (r : Played) (t u : ℕ)
    → Using g i more level table x E b us a s → first_failing E.tables (played_in t (entered (kind_of i) u a) b s).1 ≡ none
    → Telling g E.tables level y r (entering (kind_of i) a (play_few 0 u b) s) → Passed g level y r (played_in t (entered (kind_of i) u a) b s)
unfolding playing_few shift_of
used_told {g} {i = i} {b = b} {a = a} {s = s} y r t u use' sound told = passed g y r t (entered (kind_of i) u a) b s tt use'.fits.good sound told
