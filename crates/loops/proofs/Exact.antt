-- For callers: where a body keeps its bounds its measure is exact, and a plain body's cycles do not depend on a Shift.
use Prim.Native.Nat.{ℕ, ◌+◌, ◌*◌, ◌≤◌}
use native.Mathlib.Omega.{arith}
use mathlib.Core.Path.{◌≡◌, refl, sym, ap, ap₂, ◌∙◌}
use Rattle.meaning.specs.Bounds.{cycles_most}
use Rattle.meaning.specs.Body.{Way, looped, shifted, entered, Body, done, vec, set', inner}
use Rattle.meaning.specs.Run.{turns_of, shift_of, cycles}
use Rattle.meaning.proofs.Turns.{PlainWay, Plain}
use Rattle.measures.specs.Measures.{Measures}
use Rattle.measures.specs.declared.Measure.{Measure}
use Rattle.measures.proofs.Within.{cycles_within}

-- a body in a plain one plays alike whatever the turns of the Shift around it
plain_inside : (w : Way) (b : Body) → PlainWay w (Plain b) → (t : ℕ) → (Plain b → cycles t b ≡ cycles 0 b)
    → turns_of t w * cycles (shift_of t w) b ≡ turns_of 0 w * cycles (shift_of 0 w) b
unfolding turns_of shift_of
plain_inside (looped n) b h t k = ap (λ (c : ℕ). n * c) (k h)
plain_inside shifted b h t k = absurd h
plain_inside (entered m u a) b h t k = refl

pub plain_cycles : (b : Body) → Plain b → (t : ℕ) → cycles t b ≡ cycles 0 b
unfolding Plain cycles
plain_cycles done h t = refl
plain_cycles (vec p a r) h t = ap (λ (c : ℕ). 1 + c) (plain_cycles r h.1 t)
plain_cycles (set' x r) h t = plain_cycles r h.1 t
plain_cycles (inner w b r) h t = ap₂ ◌+◌ (plain_inside w b h.0 t (λ k. plain_cycles b k t)) (plain_cycles r h.1 t)

module _ {b : Body} {x : Measure} (m : Measures b x) where
  pub exact_cycles : (t : ℕ) → cycles t b ≤ cycles_most → x.cycles + t * x.shifts ≡ cycles t b
  exact_cycles t h = omega (arith, m.cycles_is t)

  pub plain_exact : Plain b → (t : ℕ) → cycles t b ≤ cycles_most → x.cycles ≡ cycles t b
  plain_exact p t h = let e = plain_cycles b p t in cycles_within m (omega arith) ∙ sym e
