-- What is seen of a body, statement by statement. A V is shown where none are to pass; a statement with a body in it is passed where all its cycles lie before n, and entered where it holds
-- n.
use mathlib.Core.Path.{◌≡◌, refl, ap, ◌∙◌, subst}
use Prim.Native.Nat.{ℕ, zero, suc, ◌-◌, ◌≤◌, ◌<◌}
use native.Mathlib.Nat.{one-mul}
use native.Mathlib.Numerals.{unary_clauses}
use native.Mathlib.Omega.{arith}
use mathlib.Core.List.{List, [], ◌∷◌, ◌++◌}
use lib.ListN.{length}
use Rattle.meaning.specs.Body.{Assigns, Args, Setting, Kind, macro, procedure, listed, Way, entered, Body, done, vec, set', inner}
use Rattle.meaning.specs.Run.{State, Cycle, cycles, turns_of, shift_of, puts, changed, cycle_at, follow, entering, playing, play}
use Rattle.meaning.proofs.Rows.{length_play, length_playing}
use Rattle.walks.specs.Seen.{seen, Through}
use Rattle.walks.specs.Statement.{played_in, cycles_in, begun}
use Rattle.walks.proofs.Seen.{seen_past, seen_behind, seen_from, through_passed, through_one, through_both}

pub seen_done : (t n m : ℕ) (s : State) → seen n m (play t done s).1 ≡ []
unfolding play
seen_done t n m s = seen_past n m [] (omega arith)

-- ---- V, C, W

module _ (t p : ℕ) (a : Assigns) (r : Body) (s : State) where
  pub vec_shown : (m : ℕ) → 0 < m → seen 0 m (play t (vec p a r) s).1 ≡ cycle_at p (puts a s) ∷ seen 0 (m - 1) (play t r (puts a s)).1
  unfolding play follow
  vec_shown zero h = elim h [ ]
  vec_shown (suc m) h = simp unary_clauses

  pub vec_passed : (n m : ℕ) → 0 < n → seen n m (play t (vec p a r) s).1 ≡ seen (n - 1) m (play t r (puts a s)).1
  unfolding play follow
  vec_passed zero m h = elim h [ ]
  vec_passed (suc n) m h = simp unary_clauses

  module _ {m : ℕ} {cs : List Cycle} {n' m' : ℕ} where
    pub through_vec_shown : 0 < m → Through (play t r (puts a s)).1 0 (m - 1) cs n' m' → Through (play t (vec p a r) s).1 0 m (cycle_at p (puts a s) ∷ cs) n' m'
    unfolding play follow
    through_vec_shown h x = through_both (through_one (cycle_at p (puts a s)) m h) x

    pub through_vec_passed : {n : ℕ} → 0 < n → Through (play t r (puts a s)).1 (n - 1) m cs n' m' → Through (play t (vec p a r) s).1 n m cs n' m'
    unfolding play follow
    through_vec_passed {n} h x = through_both (through_passed (cycle_at p (puts a s) ∷ []) n m h) x

pub seen_set : (t : ℕ) (x : Setting) (r : Body) (n m : ℕ) (s : State) → seen n m (play t (set' x r) s).1 ≡ seen n m (play t r (changed x s)).1
unfolding play
seen_set t x r n m s = refl

-- ---- a statement with a body in it

pub length_in : (t : ℕ) (w : Way) (b : Body) (s : State) → length (played_in t w b s).1 ≡ cycles_in t w b
length_in t w b s = length_playing t w (cycles (shift_of t w) b) (play (shift_of t w) b) s (length_play (shift_of t w) b)

module _ (t : ℕ) (w : Way) (b r : Body) (s : State) where
  -- what comes behind it
  abbrev rest : List Cycle
  rest = (play t r (played_in t w b s).0).1

  -- all its cycles lie before n
  pub inner_passed : (n m : ℕ) → cycles_in t w b ≤ n → seen n m (play t (inner w b r) s).1 ≡ seen (n - cycles_in t w b) m (play t r (played_in t w b s).0).1
  unfolding play follow
  inner_passed n m h =
      seen_behind n m (played_in t w b s).1 rest (omega (arith, length_in t w b s))
      ∙ ap (λ (k : ℕ). seen (n - k) m rest) (length_in t w b s)

  -- it holds n
  pub inner_entered : (n m : ℕ) → n < cycles_in t w b
      → seen n m (play t (inner w b r) s).1 ≡ seen n m (played_in t w b s).1 ++ seen 0 (m - (cycles_in t w b - n)) (play t r (played_in t w b s).0).1
  unfolding play follow
  inner_entered n m h =
      seen_from n m (played_in t w b s).1 rest (omega (arith, length_in t w b s))
      ∙ ap (λ (k : ℕ). seen n m (played_in t w b s).1 ++ seen 0 (m - (k - n)) rest) (length_in t w b s)

  module _ {n m : ℕ} {cs : List Cycle} {n' m' : ℕ} where
    pub through_inner_passed : cycles_in t w b ≤ n → Through (play t r (played_in t w b s).0).1 (n - cycles_in t w b) m cs n' m'
        → Through (play t (inner w b r) s).1 n m cs n' m'
    unfolding play follow
    through_inner_passed h x =
        let e : n - cycles_in t w b ≡ n - length (played_in t w b s).1 = omega (arith, length_in t w b s) in
        through_both (through_passed (played_in t w b s).1 n m (omega (arith, length_in t w b s))) (subst (λ (k : ℕ). Through rest k m cs n' m') e x)

    pub through_inner : {n₁ m₁ : ℕ} {ds : List Cycle} → Through (played_in t w b s).1 n m cs n₁ m₁ → Through (play t r (played_in t w b s).0).1 n₁ m₁ ds n' m'
        → Through (play t (inner w b r) s).1 n m (cs ++ ds) n' m'
    unfolding play follow
    through_inner x y = through_both x y

-- a body entered shows what it shows from its own beginning on
pub entered_cycles : (t u : ℕ) (k : Kind) (a : Args) (b : Body) (s : State) → (played_in t (entered k u a) b s).1 ≡ (play u b (begun k a s)).1
unfolding playing entering shift_of begun
entered_cycles t u macro a b s = refl
entered_cycles t u procedure a b s = refl
entered_cycles t u listed a b s = refl

-- and has its body's cycles, once
pub entered_long : (t u : ℕ) (k : Kind) (a : Args) (b : Body) → cycles_in t (entered k u a) b ≡ cycles u b
unfolding turns_of shift_of
entered_long t u k a b = one-mul (cycles u b)
