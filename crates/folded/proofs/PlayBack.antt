-- What the statements of a Pattern play: the rows that they were written for.
use Prim.Native.Nat.{ℕ, zero, suc, ◌≤◌}
use native.Mathlib.Omega.{arith}
use mathlib.Core.Path.{◌≡◌, refl, sym, ap, ap₂, ◌∙◌}
use mathlib.Core.Bool.{Bool, true, false, not, ◌&&◌, ◌||◌}
use mathlib.Core.Option.{Option, none, some}
use mathlib.Core.List.{List, [], ◌∷◌, ◌++◌, append_assoc}
use lib.Dec.{leb, eqb}
use lib.ListN.{length, set, replicate, length-append, length-replicate}
use borrow.Author.Tests.{leb-false, eqb-true}
use Rattle.meaning.specs.Body.{Assigns, Args, mark, listed, looped, entered, Body, done, vec, inner}
use Rattle.meaning.specs.Run.{State, Cycle, Played, unassigned, put, puts, changed, cycle_at, follow, again, bare, entering, playing, play, shift_of, start, cycles_of}
use Rattle.folded.specs.Flat.{Row, loses, Stretch, stretches, Line, chooses, repeats, valued, choosing, lines_from, lines_of}
use Rattle.folded.proofs.StatementsBack.{body_of}
use Rattle.folded.specs.Shapes.{concat, Begins, expand}
use Rattle.folded.proofs.Stretches.{All, all_front, all_back, begins_steady, self_loses, stretched_rows, Stepping, stretches_step, stretches_all}

-- ---- one row's values, put

set_there : (pre : List ℕ) (d c : ℕ) (l : List ℕ) → set (pre ++ d ∷ l) (length pre) c ≡ pre ++ c ∷ l
set_there [] d c l = refl
set_there (b ∷ pre) d c l = ap (λ (k : List ℕ). b ∷ k) (set_there pre d c l)

-- values without `#`
abbrev pub Clean : List ℕ → Type 0
Clean [] = Unit {0}
Clean (c ∷ cs) = (eqb c mark ≡ false) × Clean cs

state : List ℕ → Option ℕ → Args → State
state l t a = record { pins = l; table = t; args = a }

put_one : (pre : List ℕ) (d c : ℕ) (l : List ℕ) (t : Option ℕ) (a : Args) → eqb c mark ≡ false → put (length pre, c) (state (pre ++ d ∷ l) t a) ≡ state (pre ++ c ∷ l) t a
unfolding put state
put_one pre d c l t a e = rw (e, put) (ap (λ (k : List ℕ). state k t a) (set_there pre d c l))

-- every pin that has a value gets it, and the others have none to lose
puts_valued : (pre old new : List ℕ) (t : Option ℕ) (a : Args) → length old ≡ length new → loses old new ≡ false → Clean new
    → puts (valued (length pre) new) (state (pre ++ old) t a) ≡ state (pre ++ new) t a
unfolding valued puts loses
puts_valued pre [] [] t a l h k = refl
puts_valued pre [] (c ∷ new) t a l h k = absurd (omega arith)
puts_valued pre (d ∷ old) [] t a l h k = absurd (omega arith)
puts_valued pre (d ∷ old) (c ∷ new) t a l h k =
    by (eqb c unassigned) refl (eqb d unassigned) refl h λ n. moved (puts_valued (pre ++ c ∷ []) old new t a (omega arith) n k.1)
  where
    rest : Assigns
    rest = valued (suc (length pre)) new

    -- one pin further on
    moved : puts (valued (length (pre ++ c ∷ [])) new) (state ((pre ++ c ∷ []) ++ old) t a) ≡ state ((pre ++ c ∷ []) ++ new) t a
        → puts rest (state (pre ++ c ∷ old) t a) ≡ state (pre ++ c ∷ new) t a
    moved e =
        let m : length (pre ++ c ∷ []) ≡ suc (length pre) = length-append pre (c ∷ []) ∙ omega arith in
        rw (m, append_assoc pre (c ∷ []) old, append_assoc pre (c ∷ []) new) at e

    both : (e : Bool) → (not e && false || loses old new) ≡ false → loses old new ≡ false
    both true h = h
    both false h = h

    by : (b : Bool) → eqb c unassigned ≡ b → (e : Bool) → eqb d unassigned ≡ e → (not e && b || loses old new) ≡ false
        → (loses old new ≡ false → puts rest (state (pre ++ c ∷ old) t a) ≡ state (pre ++ c ∷ new) t a)
        → puts (elim b as (λ x. Assigns) [ true ↦ rest | false ↦ (length pre, c) ∷ rest ]) (state (pre ++ d ∷ old) t a) ≡ state (pre ++ c ∷ new) t a
    by true p true q h ih = let z : d ≡ c = eqb-true d unassigned q ∙ sym (eqb-true c unassigned p) in rw z (ih h)
    by true p false q h ih = absurd (let z : ◌≡◌ {A = ℕ} 0 1 = cc in omega arith)
    by false p e q h ih = ap (puts rest) (put_one pre d c old t a k.0) ∙ ih (both e h)

-- ---- one stretch, played

-- V's that leave all as it is: the same cycle again and again
same_again : (n : ℕ) (f : State → Played) (s : State) (c : Cycle) → f s ≡ (s, c ∷ []) → again n f s ≡ (s, replicate n c)
unfolding again follow
same_again zero f s c e = refl
same_again (suc n) f s c e = rw e (rw (same_again n f s c e))

first_again : (n : ℕ) (f : State → Played) (s t : State) (c : Cycle) → f s ≡ (t, c ∷ []) → f t ≡ (t, c ∷ []) → again (suc n) f s ≡ (t, replicate (suc n) c)
unfolding again follow
first_again n f s t c e g = rw e (rw (same_again n f t c g))

vector_played : (p : ℕ) (xs : Assigns) (s t : State) → puts xs s ≡ t → play 0 (vec p xs done) s ≡ (t, cycle_at p t ∷ [])
unfolding play follow
vector_played p xs s t e = ap (λ (u : State). (u, cycle_at p u ∷ [])) e

loop_played : (m : ℕ) (xs : Assigns) (r : Body) (s t : State) → puts xs s ≡ t → puts xs t ≡ t
    → (play 0 (inner (looped (suc m)) (vec 0 xs done) r) s).1 ≡ replicate (suc m) (cycle_at 0 t) ++ (play 0 r t).1
unfolding play playing shift_of follow
loop_played m xs r s t e g =
    ap (λ (x : Played). (follow x (play 0 r)).1) (first_again m (play 0 (vec 0 xs done)) s t (cycle_at 0 t) (vector_played 0 xs s t e) (vector_played 0 xs t t g))

row_played : (xs : Assigns) (r : Body) (s t : State) → puts xs s ≡ t → (play 0 (vec 0 xs r) s).1 ≡ cycle_at 0 t ∷ (play 0 r t).1
unfolding play follow
row_played xs r s t e = ap (λ (u : State). cycle_at 0 u ∷ (play 0 r u).1) e

stretch_played : (m : ℕ) (xs : Assigns) (ls : List Line) (s t : State) → puts xs s ≡ t → puts xs t ≡ t → 1 ≤ m
    → (play 0 (body_of (repeats m xs ∷ ls)) s).1 ≡ replicate m (cycle_at 0 t) ++ (play 0 (body_of ls) t).1
unfolding body_of
stretch_played zero xs ls s t e g h = absurd (omega arith)
stretch_played (suc m) xs ls s t e g h = by (leb 2 (suc m)) refl
  where
    by : (b : Bool) → leb 2 (suc m) ≡ b
        → (play 0 (elim b as (λ c. Body) [ true ↦ inner (looped (suc m)) (vec 0 xs done) (body_of ls) | false ↦ vec 0 xs (body_of ls) ]) s).1
        ≡ replicate (suc m) (cycle_at 0 t) ++ (play 0 (body_of ls) t).1
    by true q = loop_played m xs (body_of ls) s t e g
    by false q = let z : m ≡ 0 = omega (arith, leb-false 2 (suc m) q) in rw z (row_played xs (body_of ls) s t e)

-- ---- a Pattern

-- a row's cycle
unfoldable pub cycle_of : Row → Cycle
cycle_of x = record { at = 0; table = some x.table; pins = x.pins }

unfoldable pub cycles_for : List Row → List Cycle
cycles_for [] = []
cycles_for (x ∷ xs) = cycle_of x ∷ cycles_for xs

pub cycles-++ : (xs ys : List Row) → cycles_for (xs ++ ys) ≡ cycles_for xs ++ cycles_for ys
unfolding cycles_for
cycles-++ [] ys = refl
cycles-++ (x ∷ xs) ys = ap (λ (l : List Cycle). cycle_of x ∷ l) (cycles-++ xs ys)

cycles_same : (n : ℕ) (x : Row) → cycles_for (replicate n x) ≡ replicate n (cycle_of x)
unfolding cycles_for
cycles_same zero x = refl
cycles_same (suc n) x = ap (λ (l : List Cycle). cycle_of x ∷ l) (cycles_same n x)

-- a row over n signals, without `#`
pub record Fair (n : ℕ) (x : Row) : Type 0 where
  pub wide : length x.pins ≡ n
  pub clean : Clean x.pins

-- where a table was chosen or not, the next row's is in force
choosing_played : (before : Option ℕ) (k : ℕ) (ls : List Line) (pins : List ℕ) → (play 0 (body_of (choosing before k ls)) (state pins before [])).1 ≡ (play 0 (body_of ls) (state pins (some k) [])).1
unfolding choosing body_of play changed state
choosing_played none k ls pins = refl
choosing_played (some j) k ls pins = by (eqb j k) refl
  where
    by : (b : Bool) → eqb j k ≡ b
        → (play 0 (body_of (elim b as (λ c. List Line) [ true ↦ ls | false ↦ chooses k ∷ ls ])) (state pins (some j) [])).1 ≡ (play 0 (body_of ls) (state pins (some k) [])).1
    by true e = rw (eqb-true j k e)
    by false e = refl

stretches_played : (n : ℕ) (ys : List Stretch) (before : Option ℕ) (old : List ℕ) → length old ≡ n → Stepping old ys → All (λ y. Fair n y.0) ys
    → (play 0 (body_of (lines_from before ys)) (state old before [])).1 ≡ cycles_for (expand ys)
unfolding lines_from Stepping expand body_of play cycles_for cycle_at cycle_of state
stretches_played n [] before old l h f = refl
stretches_played n (y ∷ ys) before old l h f =
    let x = y.0 in
    let t = state x.pins (some x.table) [] in
    let xs = valued 0 x.pins in
    let as_wide : length old ≡ length x.pins = l ∙ sym f.0.wide in
    choosing_played before x.table (repeats y.1 xs ∷ lines_from (some x.table) ys) old
    ∙ stretch_played y.1 xs (lines_from (some x.table) ys) (state old (some x.table) []) t
    (puts_valued [] old x.pins (some x.table) [] as_wide h.1 f.0.clean) (puts_valued [] x.pins x.pins (some x.table) [] refl (self_loses x.pins) f.0.clean) h.0
    ∙ ap (λ (l : List Cycle). replicate y.1 (cycle_at 0 t) ++ l) (stretches_played n ys (some x.table) x.pins f.0.wide h.2 f.1)
    ∙ sym (cycles-++ (replicate y.1 x) (expand ys) ∙ ap (λ (l : List Cycle). l ++ cycles_for (expand ys)) (cycles_same y.1 x))

pattern_played : (n : ℕ) (p : List Row) → Begins p → All (Fair n) p → (play 0 (body_of (lines_from none (stretches p))) (state (replicate n unassigned) none [])).1 ≡ cycles_for p
pattern_played n p b f =
    stretches_played n (stretches p) none (replicate n unassigned) (length-replicate n unassigned) (stretches_step (replicate n unassigned) p (begins_steady n p b)) (stretches_all (Fair n) p f)
    ∙ ap cycles_for (stretched_rows p)

-- ---- the run

unfoldable pub run_back : List (List Line) → Body
run_back [] = done
run_back (p ∷ ps) = inner (entered listed 0 []) (body_of p) (run_back ps)

listed_played : (n : ℕ) (b r : Body) → cycles_of n (inner (entered listed 0 []) b r) ≡ (play 0 b (state (replicate n unassigned) none [])).1 ++ cycles_of n r
unfolding cycles_of play playing entering follow shift_of start bare state
listed_played n b r = ap (λ (k : ℕ). (play 0 b (state (replicate k unassigned) none [])).1 ++ (play 0 r (start n)).1) (length-replicate n unassigned)

-- THE LAW
pub run_played : (n : ℕ) (ps : List (List Row)) → All Begins ps → All (Fair n) (concat ps) → cycles_of n (run_back (lines_of ps)) ≡ cycles_for (concat ps)
unfolding run_back lines_of concat cycles_for cycles_of play
run_played n [] b f = refl
run_played n (p ∷ ps) b f =
    listed_played n (body_of (lines_from none (stretches p))) (run_back (lines_of ps))
    ∙ ap₂ (λ (a b : List Cycle). a ++ b) (pattern_played n p b.0 (all_front (Fair n) p (concat ps) f)) (run_played n ps b.1 (all_back (Fair n) p (concat ps) f))
    ∙ sym (cycles-++ p (concat ps))
