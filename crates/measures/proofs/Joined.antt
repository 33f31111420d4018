-- Statements behind statements: joining goes through every definition over bodies, and a loop that has read some statements adds the next.
use Prim.Native.Nat.{ℕ, ◌+◌, max}
use native.Mathlib.Omega.{arith}
use mathlib.Core.Path.{◌≡◌, refl, ap}
use Rattle.meaning.specs.Body.{Assigns, Setting, Way, Body, done, vec, set', inner, depth}
use Rattle.meaning.specs.Run.{size, cycles}
use Rattle.measures.specs.Measures.{joined}

pub joined_done : (a : Body) → joined a done ≡ a
unfolding joined
joined_done done = refl
joined_done (vec p x r) = ap (vec p x) (joined_done r)
joined_done (set' x r) = ap (set' x) (joined_done r)
joined_done (inner w b r) = ap (inner w b) (joined_done r)

pub joined_assoc : (a b c : Body) → joined (joined a b) c ≡ joined a (joined b c)
unfolding joined
joined_assoc done b c = refl
joined_assoc (vec p x r) b c = ap (vec p x) (joined_assoc r b c)
joined_assoc (set' x r) b c = ap (set' x) (joined_assoc r b c)
joined_assoc (inner w d r) b c = ap (inner w d) (joined_assoc r b c)

-- ---- the next statement, behind those so far

module _ (front rest : Body) where
  pub joined_vec : (p : ℕ) (a : Assigns) → joined (joined front (vec p a done)) rest ≡ joined front (vec p a rest)
  unfolding joined
  joined_vec p a = joined_assoc front (vec p a done) rest

  pub joined_set : (x : Setting) → joined (joined front (set' x done)) rest ≡ joined front (set' x rest)
  unfolding joined
  joined_set x = joined_assoc front (set' x done) rest

  pub joined_inner : (w : Way) (b : Body) → joined (joined front (inner w b done)) rest ≡ joined front (inner w b rest)
  unfolding joined
  joined_inner w b = joined_assoc front (inner w b done) rest

-- ---- measures

pub depth_joined : (a b : Body) → depth (joined a b) ≡ max (depth a) (depth b)
unfolding joined depth
depth_joined done b = omega arith
depth_joined (vec p x r) b = depth_joined r b
depth_joined (set' x r) b = depth_joined r b
depth_joined (inner w c r) b = omega (arith, depth_joined r b)

pub size_joined : (a b : Body) → size (joined a b) ≡ size a + size b
unfolding joined size
size_joined done b = omega arith
size_joined (vec p x r) b = omega (arith, size_joined r b)
size_joined (set' x r) b = omega (arith, size_joined r b)
size_joined (inner w c r) b = omega (arith, size_joined r b)

pub cycles_joined : (t : ℕ) (a b : Body) → cycles t (joined a b) ≡ cycles t a + cycles t b
unfolding joined cycles
cycles_joined t done b = omega arith
cycles_joined t (vec p x r) b = omega (arith, cycles_joined t r b)
cycles_joined t (set' x r) b = cycles_joined t r b
cycles_joined t (inner w c r) b = omega (arith, cycles_joined t r b)
