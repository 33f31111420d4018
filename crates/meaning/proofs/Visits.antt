-- Visits: a statement is gone past or entered once on each level, so that they are at most the size times one more than the depth.
use Prim.Native.Nat.{ℕ, suc, ◌+◌, ◌-◌, ◌*◌, ◌≤◌}
use mathlib.Core.Path.{◌≡◌}
use native.Mathlib.Nat.{add-mul, mul-suc, mul-le-mul_left, mul-le-mul, le-mul_of_pos_right, le_refl}
use native.Mathlib.Omega.{arith}
use mathlib.Core.Bool.{Bool, true, false}
use lib.Dec.{leb}
use Rattle.meaning.specs.Body.{Body, done, vec, set', inner, depth}
use Rattle.meaning.specs.Run.{size, cycles, turns_of, shift_of, visits}

-- a statement of size z gone past, then v visits in what follows, of size y
past : (z y v e d : ℕ) → v ≤ y * e → e ≤ d → 1 ≤ d → z + v ≤ (z + y) * d
past z y v e d h k o =
    let a : y * e ≤ y * d = mul-le-mul_left y k in
    let b : z ≤ z * d = le-mul_of_pos_right z o in
    rw add-mul (omega arith)

-- one of size z entered, with v visits in its body, of size y
into : (z y x v e d : ℕ) → v ≤ y * e → y ≤ z → suc e ≤ d → z + v ≤ (z + x) * d
into z y x v e d h k o =
    let a : y * e ≤ z * e = mul-le-mul k (le_refl e) in
    let b : z * suc e ≤ z * d = mul-le-mul_left z o in
    let c : z * suc e ≡ z * e + z = mul-suc z e in
    rw add-mul (omega arith)

vector : (c : Bool) (x v d : ℕ) → v ≤ x * suc d → elim c [ true ↦ 1 + v | false ↦ 1 ] ≤ (1 + x) * suc d
vector true x v d h = past 1 x v (suc d) (suc d) h (le_refl (suc d)) (omega arith)
vector false x v d h = into 1 0 x 0 0 (suc d) (omega arith) (omega arith) (omega arith)

-- a statement with a body in it: gone past or entered
node : (c : Bool) (z y x v w e f d : ℕ) → v ≤ x * e → w ≤ y * f → y ≤ z → e ≤ d → suc f ≤ d
    → elim c [ true ↦ z + v | false ↦ z + w ] ≤ (z + x) * d
node true z y x v w e f d hv hw k a b = past z x v e d hv a (omega arith)
node false z y x v w e f d hv hw k a b = into z y x w f d hw k b

pub visits_by_depth : (t : ℕ) (b : Body) (n : ℕ) → visits t b n ≤ size b * suc (depth b)
unfolding visits size depth
visits_by_depth t done n = omega arith
visits_by_depth t (vec p a r) n = vector (leb 1 n) (size r) _ (depth r) (visits_by_depth t r (n - 1))
visits_by_depth t (set' x r) n = past 1 (size r) _ _ _ (visits_by_depth t r n) (le_refl _) (omega arith)
visits_by_depth t (inner w b r) n =
    node (leb (turns_of t w * cycles (shift_of t w) b) n) (1 + size b) (size b) (size r) _ _ (suc (depth r)) (suc (depth b)) _
    (visits_by_depth t r _) (visits_by_depth (shift_of t w) b _) (omega arith) (omega arith) (omega arith)
