-- The measure of a statement with a body in it, and of statements behind others, from the measures of their parts.
use Prim.Native.Nat.{ℕ, ◌+◌, ◌*◌, min, max}
use native.Mathlib.Omega.{arith}
use native.Mathlib.Nat.{add-zero, mul-zero, mul-add, mul_left_comm}
use mathlib.Core.Path.{◌≡◌, sym, ap, ◌∙◌}
use Rattle.meaning.specs.Body.{Args, Kind, looped, entered, Body, done, inner, depth}
use Rattle.meaning.specs.Run.{size, turns_of, shift_of, cycles}
use Rattle.measures.specs.Measures.{size_cap, cycles_cap, Measures, joined, Around}
use Rattle.measures.specs.declared.Measure.{Measure}
use Rattle.measures.proofs.Capped.{sum_alike, product_alike, capped_turns}
use Rattle.measures.proofs.Joined.{depth_joined, size_joined, cycles_joined}

module _ {b : Body} {x r : Measure} {cs ss : ℕ} (m : Measures b x) (w : Around x cs ss r) where
  -- each turn of a Loop plays the Shift of its body as often
  pub loop_measures : (n : ℕ) → cs ≡ min cycles_cap (n * x.cycles) → ss ≡ min cycles_cap (n * x.shifts) → Measures (inner (looped n) b done) r
  unfolding depth size cycles turns_of shift_of
  loop_measures n e f =
      record {
        depth_is = omega (arith, m.depth_is, w.depth_is);
        size_is = omega (arith, m.size_is, w.size_is);
        cycles_is = λ t.
            (rw (w.cycles_is ∙ e, w.shifts_is ∙ f) (capped_turns cycles_cap t (n * x.cycles) (n * x.shifts)))
            ∙ ap (min cycles_cap) (sym (mul-add n x.cycles (t * x.shifts) ∙ ap (λ (k : ℕ). n * x.cycles + k) (mul_left_comm n t x.shifts)))
            ∙ product_alike cycles_cap n (x.cycles + t * x.shifts) (cycles t b) (m.cycles_is t)
            ∙ ap (min cycles_cap) (sym (add-zero (n * cycles t b)));
      }

  pub use_measures : (k : Kind) (t : ℕ) (a : Args) → cs ≡ min cycles_cap (x.cycles + min cycles_cap (t * x.shifts)) → ss ≡ 0
      → Measures (inner (entered k t a) b done) r
  unfolding depth size cycles turns_of shift_of
  use_measures k t a e f =
      record {
        depth_is = omega (arith, m.depth_is, w.depth_is);
        size_is = omega (arith, m.size_is, w.size_is);
        cycles_is = λ u. omega (arith, ap (λ (k : ℕ). u * k) (w.shifts_is ∙ f), mul-zero u, w.cycles_is, m.cycles_is t);
      }

pub joined_measures : {a b : Body} {x y r : Measure} → Measures a x → Measures b y → r.depth ≡ max x.depth y.depth
    → r.size ≡ min size_cap (x.size + y.size) → r.cycles ≡ min cycles_cap (x.cycles + y.cycles) → r.shifts ≡ min cycles_cap (x.shifts + y.shifts)
    → Measures (joined a b) r
joined_measures {a} {b} {x} {y} m n d s e f =
    record {
      depth_is = omega (arith, m.depth_is, n.depth_is, depth_joined a b);
      size_is = omega (arith, m.size_is, n.size_is, size_joined a b);
      cycles_is = λ t.
          let apart : x.cycles + y.cycles + t * (x.shifts + y.shifts) ≡ (x.cycles + t * x.shifts) + (y.cycles + t * y.shifts) =
          omega (arith, mul-add t x.shifts y.shifts) in
          (rw (e, f) (capped_turns cycles_cap t (x.cycles + y.cycles) (x.shifts + y.shifts)))
          ∙ ap (min cycles_cap) apart
          ∙ sum_alike cycles_cap (x.cycles + t * x.shifts) (cycles t a) (y.cycles + t * y.shifts) (cycles t b) (m.cycles_is t) (n.cycles_is t)
          ∙ ap (min cycles_cap) (sym (cycles_joined t a b));
    }
