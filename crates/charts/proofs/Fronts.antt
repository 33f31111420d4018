-- Numbers over the front of a buffer, whose rest stays: one store a turn, and all of them.
use Prim.Native.Nat.{ℕ, ◌+◌, ◌≤◌, ◌<◌}
use native.Mathlib.Omega.{arith}
use native.Mathlib.Numerals.{add-one}
use mathlib.Core.Path.{◌≡◌, refl, sym, ap, ◌∙◌}
use mathlib.Core.List.{List, [], ◌∷◌, ◌++◌}
use lib.ListN.{length, get_or, take, drop, set}
use lib.Seq.{take-suc, length-take-le}
use Rattle.data.specs.Filled.{over}
use Rattle.data.proofs.Over.{over_set, over_fits}

-- the first i of some numbers stand there
pub record Fronted (xs before : List ℕ) (i : ℕ) (buffer : List ℕ) : Type 0 where
  pub is : buffer ≡ over (take i xs) before

module _ {xs before : List ℕ} where
  pub fronted_none : Fronted xs before 0 before
  unfolding over
  fronted_none = record { is = refl }

  module _ {i : ℕ} {buffer : List ℕ} (f : Fronted xs before i buffer) where
    pub fronted_more : i < length xs → Fronted xs before (i + 1) (set buffer i (get_or xs i 0))
    fronted_more h =
        let l : length (take i xs) ≡ i = length-take-le i xs (omega arith) in
        let t : take (i + 1) xs ≡ take i xs ++ get_or xs i 0 ∷ [] = rw add-one (take-suc xs i 0 h) in
        record { is = rw (f.is, t) (ap (λ (k : ℕ). set (over (take i xs) before) k (get_or xs i 0)) (sym l) ∙ over_set (take i xs) before (get_or xs i 0)) }

    pub fronted_all : (n : ℕ) → i ≡ n → n ≤ length xs → n ≤ length before → buffer ≡ take n xs ++ drop n before
    fronted_all n e h k =
        let l : length (take n xs) ≡ n = length-take-le n xs h in
        f.is ∙ ap (λ (m : ℕ). over (take m xs) before) e ∙ over_fits (take n xs) before (omega (arith, l)) ∙ ap (λ (m : ℕ). take n xs ++ drop m before) l
