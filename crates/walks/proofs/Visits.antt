-- Visits as a walk in single steps counts them: each step costs the size of the statement that it goes past or into, and a budget that is enough for all is enough for the next.
use mathlib.Core.Path.{◌≡◌, refl, ap, ◌∙◌, subst}
use Prim.Native.Nat.{ℕ, ◌+◌, ◌*◌, ◌-◌, ◌%◌, ◌≤◌, ◌<◌}
use native.Mathlib.Nat.{mod-one, mod-lt, mod-eq_of_lt, zero-add}
use native.Mathlib.Omega.{arith}
use mathlib.Core.Bool.{Bool, true, false}
use mathlib.Core.Option.{Option, none, some}
use mathlib.Core.List.{List}
use lib.Dec.{leb}
use borrow.Author.Tests.{le-leb, lt-leb, leb-true, leb-false}
use Rattle.meaning.specs.Body.{Assigns, Args, Setting, Kind, Way, looped, shifted, entered, Body, done, vec, set', inner}
use Rattle.meaning.specs.Run.{size, cycles, turns_of, shift_of, visits}
use Rattle.meaning.specs.Meaning.{given, Meaning, meaning}
use Rattle.meaning.proofs.Accepted.{visits_bounded}
use Rattle.walks.specs.Statement.{cycles_in}
use Rattle.walks.specs.Spent.{Stand, costs, onward, ahead, Walking}
use Rattle.walks.proofs.Bodies.{entered_long}
use Rattle.walks.proofs.Loops.{some_cycles}

-- ---- statement by statement

module _ (t : ℕ) where
  pub visits_vec_passed : (p : ℕ) (a : Assigns) (r : Body) (n : ℕ) → 0 < n → visits t (vec p a r) n ≡ 1 + visits t r (n - 1)
  unfolding visits
  visits_vec_passed p a r n h = rw (le-leb 1 n h, visits)

  -- the V that is looked for
  pub visits_vec_reached : (p : ℕ) (a : Assigns) (r : Body) → visits t (vec p a r) 0 ≡ 1
  unfolding visits
  visits_vec_reached p a r = refl

  pub visits_set : (x : Setting) (r : Body) (n : ℕ) → visits t (set' x r) n ≡ 1 + visits t r n
  unfolding visits
  visits_set x r n = refl

  module _ (w : Way) (b r : Body) (n : ℕ) where
    -- all its cycles lie before n
    pub visits_passed : cycles_in t w b ≤ n → visits t (inner w b r) n ≡ (1 + size b) + visits t r (n - cycles_in t w b)
    unfolding visits
    visits_passed h = rw (le-leb (cycles_in t w b) n h, visits)

    -- it holds n
    pub visits_into : n < cycles_in t w b → visits t (inner w b r) n ≡ (1 + size b) + visits (shift_of t w) b (n % cycles (shift_of t w) b)
    unfolding visits
    visits_into h = rw (lt-leb (cycles_in t w b) n h, visits)

  pub visits_loop : (k : ℕ) (b r : Body) (n : ℕ) → n < k * cycles t b → visits t (inner (looped k) b r) n ≡ (1 + size b) + visits t b (n % cycles t b)
  unfolding turns_of shift_of
  visits_loop k b r n h = visits_into (looped k) b r n h

  pub visits_entered : (k : Kind) (u : ℕ) (a : Args) (b r : Body) (n : ℕ) → n < cycles u b → visits t (inner (entered k u a) b r) n ≡ (1 + size b) + visits u b n
  unfolding shift_of
  visits_entered k u a b r n h =
      let l : n < cycles_in t (entered k u a) b = omega (arith, entered_long t u k a b) in
      visits_into (entered k u a) b r n l ∙ ap (λ (i : ℕ). (1 + size b) + visits u b i) (mod-eq_of_lt h)

  -- a Shift and its V, and that V looked for
  pub visits_shift : (p : ℕ) (a : Assigns) (r : Body) (n : ℕ) → n < t → visits t (inner shifted (vec p a done) r) n ≡ 3
  unfolding turns_of shift_of cycles size visits
  visits_shift p a r n h =
      let l : n < t * 1 = omega arith in
      visits_into shifted (vec p a done) r n l ∙ ap (λ (i : ℕ). 2 + visits t (vec p a done) i) (mod-one n)

-- past the end: all statements are passed
pub visits_past : (t : ℕ) (b : Body) (n : ℕ) → cycles t b ≤ n → visits t b n ≡ size b
unfolding size cycles visits
visits_past t done n h = refl
visits_past t (vec p a r) n h = visits_vec_passed t p a r n (omega arith) ∙ ap (λ (k : ℕ). 1 + k) (visits_past t r (n - 1) (omega arith))
visits_past t (set' x r) n h = visits_set t x r n ∙ ap (λ (k : ℕ). 1 + k) (visits_past t r n h)
visits_past t (inner w b r) n h =
    visits_passed t w b r n (omega arith) ∙ ap (λ (k : ℕ). (1 + size b) + k) (visits_past t r (n - cycles_in t w b) (omega arith))

-- ---- step by step

-- THE LAW: what a step costs, and the visits from where it leads
pub visits_step : (t : ℕ) (b : Body) (n : ℕ) → visits t b n ≡ costs b + ahead (onward t b n)
unfolding visits costs onward ahead
visits_step t done n = refl
visits_step t (vec p a r) n = by (leb 1 n)
  where
    by : (c : Bool) → elim c [ true ↦ 1 + visits t r (n - 1) | false ↦ 1 ]
        ≡ 1 + ahead (elim c [ true ↦ some (record { turns = t; body = r; left = n - 1 }) | false ↦ none ])
    by true = refl
    by false = refl
visits_step t (set' x r) n = refl
visits_step t (inner w b r) n = by (leb (cycles_in t w b) n)
  where
    by : (c : Bool)
        → elim c [
          | true ↦ (1 + size b) + visits t r (n - cycles_in t w b)
          | false ↦ (1 + size b) + visits (shift_of t w) b (n % cycles (shift_of t w) b)
        ]
        ≡ (1 + size b) + ahead (elim c [
          | true ↦ some (record { turns = t; body = r; left = n - cycles_in t w b })
          | false ↦ some (record { turns = shift_of t w; body = b; left = n % cycles (shift_of t w) b })
        ])
    by true = refl
    by false = refl

-- a step costs something
pub costs_some : (t : ℕ) (b : Body) (n : ℕ) (x : Stand) → onward t b n ≡ some x → 1 ≤ costs b
unfolding costs onward
costs_some t done n x e = let z : ◌≡◌ {A = ℕ} 0 1 = cc in absurd (omega arith)
costs_some t (vec p a r) n x e = omega arith
costs_some t (set' y r) n x e = omega arith
costs_some t (inner w b r) n x e = omega arith

-- where a body holds the cycle, the step does not leave it: what it leads to holds the cycle too
pub onward_holds : (t : ℕ) (b : Body) (n : ℕ) (x : Stand) → n < cycles t b → onward t b n ≡ some x → x.left < cycles x.turns x.body
unfolding onward cycles
onward_holds t done n x h e = absurd (omega arith)
onward_holds t (vec p a r) n x h e = by (leb 1 n) refl e
  where
    by : (c : Bool) → leb 1 n ≡ c → ◌≡◌ {A = Option Stand} (elim c [ true ↦ some (record { turns = t; body = r; left = n - 1 }) | false ↦ none ]) (some x)
        → x.left < cycles x.turns x.body
    by true g e =
        let y : record { turns = t; body = r; left = n - 1 } ≡ x = cc in
        subst (λ (x : Stand). x.left < cycles x.turns x.body) y (omega (arith, leb-true 1 n g))
    by false g e = let z : ◌≡◌ {A = ℕ} 0 1 = cc in absurd (omega arith)
onward_holds t (set' y r) n x h e =
    let y : record { turns = t; body = r; left = n } ≡ x = cc in
    subst (λ (x : Stand). x.left < cycles x.turns x.body) y h
onward_holds t (inner w b r) n x h e = by (leb (cycles_in t w b) n) refl e
  where
    by : (c : Bool) → leb (cycles_in t w b) n ≡ c
        → ◌≡◌ {A = Option Stand} (elim c [
          | true ↦ some (record { turns = t; body = r; left = n - cycles_in t w b })
          | false ↦ some (record { turns = shift_of t w; body = b; left = n % cycles (shift_of t w) b })
        ]) (some x)
        → x.left < cycles x.turns x.body
    by true g e =
        let y : record { turns = t; body = r; left = n - cycles_in t w b } ≡ x = cc in
        subst (λ (x : Stand). x.left < cycles x.turns x.body) y (omega (arith, leb-true (cycles_in t w b) n g))
    by false g e =
        let y : record { turns = shift_of t w; body = b; left = n % cycles (shift_of t w) b } ≡ x = cc in
        let i : n < turns_of t w * cycles (shift_of t w) b = leb-false (cycles_in t w b) n g in
        subst (λ (x : Stand). x.left < cycles x.turns x.body) y (mod-lt n (some_cycles (turns_of t w) (cycles (shift_of t w) b) n i))

-- ---- under a budget

-- THE BUDGET: ten times the run's size
pub walking_starts : (text : List ℕ) (m : Meaning) → meaning text ≡ given m → (first : ℕ) → Walking m.run first (10 * size m.run) 0 0 m.run first
walking_starts text m e first = record { sum = zero-add (visits 0 m.run first); enough = visits_bounded text m e first }

module _ {run : Body} {first budget spent t : ℕ} {b : Body} {n : ℕ} (x : Walking run first budget spent t b n) where
  -- a step that costs k: enough is left for it, and then for all that is ahead
  pub walking_by : (k : ℕ) {u : ℕ} {c : Body} {i : ℕ} → visits t b n ≡ k + visits u c i → (k ≤ budget - spent) × Walking run first budget (spent + k) u c i
  walking_by k e = (omega (arith, x.sum, x.enough), record { sum = omega (arith, x.sum); enough = x.enough })

  pub walking_affords : costs b ≤ budget - spent
  walking_affords = omega (arith, x.sum, x.enough, visits_step t b n)

  pub walking_on : (y : Stand) → onward t b n ≡ some y → Walking run first budget (spent + costs b) y.turns y.body y.left
  unfolding ahead
  walking_on y e = (walking_by (costs b) (visits_step t b n ∙ ap (λ (o : Option Stand). costs b + ahead o) e)).1

  -- where no step leads on, what was spent with it are the visits
  pub walking_ends : onward t b n ≡ none → spent + costs b ≡ visits 0 run first
  unfolding ahead
  walking_ends e = omega (arith, x.sum, visits_step t b n, ap ahead e)
