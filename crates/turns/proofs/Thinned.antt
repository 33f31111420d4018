-- Every body shows a row of V's, and played with fewer turns that row thinned; both leave the same.
use mathlib.Core.Path.{◌≡◌, refl, sym, ap, ◌∙◌, subst}
use Prim.Native.Nat.{ℕ, zero, suc}
use mathlib.Core.Option.{Option, none, some, or_else}
use mathlib.Core.List.{List, [], ◌++◌, append-nil}
use lib.ListN.{replicate, length-replicate}
use Rattle.meaning.specs.Timing.{Tables}
use Rattle.meaning.specs.Body.{Args, Kind, macro, procedure, listed, Way, looped, shifted, entered, Body, done, vec, set', inner}
use Rattle.meaning.specs.Run.{shift_of, unassigned, State, Cycle, Played, follow, again, entering, playing, play}
use Rattle.meaning.specs.Meaning.{first_failing}
use Rattle.meaning.proofs.Turns.{later, Keeps, keeps, plain_twice, IfLoop, Plain, Good, copies, turns_repeat, fails-++, fails_copies}
use Rattle.turns.specs.Few.{loop_few, playing_few, play_few}
use Rattle.turns.proofs.Known.{Known, nothing, after, Met, behind}
use Rattle.turns.proofs.Thins.{Thins, thins_all, thins_then, second_few, thins_loop}
use Rattle.turns.proofs.Shows.{moves_same, moves_as, moving_puts, moving_changed, Shows, shows_none, shows_vec, shows_then, cleared, shows_macro, shows_procedure, shows_listed}

later_same : {A : Type 0} (x : Option A) → later x x ≡ x
unfolding later
later_same none = refl
later_same (some c) = refl

after_same : (e : Known) → after e e ≡ e
after_same e = λ i. record { pins = λ j. later_same (e.pins j) i; table = later_same e.table i }

module _ (n : ℕ) (tabs : Tables) where
  shows_as : {f : State → Played} (g : State → Played) {A B : Args} {e : Known} {l : List Met} → ((s : State) → g s ≡ f s) → Shows n tabs g A B e l
      → Shows n tabs f A B e l
  shows_as g q x = record {
    moves = moves_as n (λ s. (g s).0) (λ s a. ap (λ (y : Played). y.0) (q s)) x.moves;
    fails = λ s h. sym (ap (λ (y : Played). first_failing tabs y.1) (q s)) ∙ x.fails s h;
  }

  -- many turns show what two show
  shows_turns : (f : State → Played) → ((s : State) → (f (f s).0).0 ≡ (f s).0) → (m : ℕ) {A : Args} {e : Known} {l : List Met} → Shows n tabs f A A e l
      → Shows n tabs (again (suc (suc m)) f) A A e (l ++ behind e l)
  unfolding follow
  shows_turns f h m x = record {
    moves = moves_as n (λ s. (f s).0) (λ s a. sym (ap (λ (y : Played). y.0) (turns_repeat f h (suc m) s))) x.moves;
    fails = λ s w. ap (λ (y : Played). first_failing tabs y.1) (turns_repeat f h (suc m) s)
        ∙ fails-++ tabs (f s).1 (copies (suc m) (f (f s).0).1)
        ∙ ap (or_else (first_failing tabs (f s).1)) (fails_copies tabs m (f (f s).0).1)
        ∙ sym (fails-++ tabs (f s).1 (f (f s).0).1)
        ∙ (shows_then n tabs x x).fails s w;
  }

  shows_second : {g : ℕ → State → Played} (A : Args) (e : Known) (l : ℕ → List Met) (m : ℕ) → ((k : ℕ) → Shows n tabs (g k) A A e (l k))
      → (k : ℕ) → Shows n tabs (loop_few (suc (suc m)) k g) A A e (second_few e l k)
  unfolding loop_few second_few
  shows_second A e l m h zero = h 0
  shows_second {g} A e l m h (suc k) =
      subst (λ (x : Known). Shows n tabs (λ s. follow (g (suc k) s) (g k)) A A x (second_few e l (suc k))) (after_same e)
      (shows_then n tabs (h (suc k)) (h k))

  -- f with all turns, g with few: both leave the same, and what g shows is what f shows, thinned
  pub record Thinned (f : State → Played) (g : ℕ → State → Played) (A : Args) : Type 0 where
    pub left : Args
    pub leaves : Known
    pub all : List Met
    pub few : ℕ → List Met
    pub shows : Shows n tabs f A left leaves all
    pub shows_few : (k : ℕ) → Shows n tabs (g k) A left leaves (few k)
    pub thins : Thins n all few

  abbrev pub Thinning : (State → Played) → (ℕ → State → Played) → Type 0
  Thinning f g = (A : Args) → Thinned f g A

  -- what has no Loop
  thinning_all : {f : State → Played} {A B : Args} {e : Known} {l : List Met} → Shows n tabs f A B e l → Thinned f (λ k. f) A
  thinning_all {B} {e} {l} x = record { left = B; leaves = e; all = l; few = λ k. l; shows = x; shows_few = λ k. x; thins = thins_all n l }

  thinning_then : {f f' : State → Played} {g g' : ℕ → State → Played} → Thinning f g → Thinning f' g'
      → Thinning (λ s. follow (f s) f') (λ k s. follow (g k s) (g' k))
  thinning_then h h' A =
      let x = h A in
      let y = h' x.left in
      record {
        left = y.left;
        leaves = after x.leaves y.leaves;
        all = x.all ++ behind x.leaves y.all;
        few = λ k. x.few k ++ behind x.leaves (y.few k);
        shows = shows_then n tabs x.shows y.shows;
        shows_few = λ k. shows_then n tabs (x.shows_few k) (y.shows_few k);
        thins = thins_then n x.leaves x.thins y.thins;
      }

  thinning_again : (m : ℕ) {f : State → Played} {g : ℕ → State → Played} → Thinning f g → Thinning (again m f) (λ k. again m (g k))
  unfolding again
  thinning_again zero h = λ A. thinning_all (shows_none n tabs (moves_same n A))
  thinning_again (suc m) h = thinning_then h (thinning_again m h)

  module _ {f : State → Played} {g : ℕ → State → Played} (kept : Keeps (λ s. (f s).0)) (same : (s : State) → (f (f s).0).0 ≡ (f s).0) (h : Thinning f g) where
    left_kept : (A : Args) → (h A).left ≡ A
    left_kept A =
        let s : State = record { pins = replicate n unassigned; table = none; args = A } in
        sym ((h A).shows.moves.to s (record { args = refl; width = length-replicate n unassigned })).args ∙ kept s

    thinning_loop : (m : ℕ) → Thinning (again m f) (λ k. loop_few m k g)
    unfolding loop_few again follow
    thinning_loop zero = λ A. thinning_all (shows_none n tabs (moves_same n A))
    thinning_loop (suc zero) = λ A.
        let x = h A in
        record {
          left = x.left;
          leaves = x.leaves;
          all = x.all;
          few = x.few;
          shows = shows_as f (λ s. ap (λ (l : List Cycle). ((f s).0, l)) (sym (append-nil (f s).1))) x.shows;
          shows_few = x.shows_few;
          thins = x.thins;
        }
    thinning_loop (suc (suc m)) = λ A.
        let x = h A in
        let e = x.leaves in
        record {
          left = A;
          leaves = e;
          all = x.all ++ behind e x.all;
          few = second_few e x.few;
          shows = shows_turns f same m (subst (λ (B : Args). Shows n tabs f A B e x.all) (left_kept A) x.shows);
          shows_few = shows_second A e x.few m λ k. subst (λ (B : Args). Shows n tabs (g k) A B e (x.few k)) (left_kept A) (x.shows_few k);
          thins = thins_loop n e x.all x.few x.thins;
        }

  -- entered where e is known, and nothing is left
  thinned_apart : {f f' : State → Played} {g g' : ℕ → State → Played} {a A : Args} (e : Known) (x : Thinned f g a) → Shows n tabs f' A A nothing (behind e x.all)
      → ((k : ℕ) → Shows n tabs (g' k) A A nothing (behind e (x.few k))) → Thinned f' g' A
  thinned_apart {A} e x h k = record {
    left = A;
    leaves = nothing;
    all = behind e x.all;
    few = λ j. behind e (x.few j);
    shows = h;
    shows_few = k;
    thins = thins_then n e (thins_all n []) x.thins;
  }

  thinning_entered : {f : State → Played} {g : ℕ → State → Played} (kind : Kind) (a : Args) → Thinning f g
      → Thinning (entering kind a f) (λ k. entering kind a (g k))
  thinning_entered macro a h A =
      let x = h a in
      record {
        left = A;
        leaves = x.leaves;
        all = x.all;
        few = x.few;
        shows = shows_macro n tabs A x.shows;
        shows_few = λ k. shows_macro n tabs A (x.shows_few k);
        thins = x.thins;
      }
  thinning_entered procedure a h A =
      let x = h a in
      thinned_apart (cleared none) x (shows_procedure n tabs A x.shows) (λ k. shows_procedure n tabs A (x.shows_few k))
  thinning_entered listed a h A =
      let x = h a in
      thinned_apart (cleared (some none)) x (shows_listed n tabs A x.shows) (λ k. shows_listed n tabs A (x.shows_few k))

  thinning_playing : (t : ℕ) (w : Way) (b : Body) → IfLoop w (Plain b) → ((u : ℕ) → Thinning (play u b) (λ k. play_few k u b))
      → Thinning (playing t w (play (shift_of t w) b)) (λ k. playing_few k t w (λ j. play_few j (shift_of t w) b))
  unfolding playing playing_few shift_of
  thinning_playing t (looped m) b p h = thinning_loop (keeps t b p) (plain_twice t b p) (h t) m
  thinning_playing t shifted b p h = thinning_again t (h t)
  thinning_playing t (entered kind u a) b p h = thinning_entered kind a (h u)

  pub thinning : (b : Body) → Good b → (t : ℕ) → Thinning (play t b) (λ k. play_few k t b)
  unfolding Good play play_few follow
  thinning done h t = λ A. thinning_all (shows_none n tabs (moves_same n A))
  thinning (vec p a r) h t = thinning_then (λ A. thinning_all (shows_vec n tabs p (moving_puts n a A).2)) (thinning r h t)
  thinning (set' x r) h t = thinning_then (λ A. thinning_all (shows_none n tabs (moving_changed n x A).2)) (thinning r h t)
  thinning (inner w b r) h t = thinning_then (thinning_playing t w b h.0 (thinning b h.1)) (thinning r h.2 t)
