-- A word said several times: some times and then others, one time more, and how many characters that are.
use Prim.Native.Nat.{ℕ, zero, suc, ◌+◌, ◌*◌}
use native.Mathlib.Omega.{arith}
use native.Mathlib.Nat.{zero-add, suc-add, zero-mul, suc-mul}
use mathlib.Core.Path.{◌≡◌, refl, sym, ap, ◌∙◌}
use mathlib.Core.List.{List, [], ◌∷◌, ◌++◌, append_assoc, append-nil}
use lib.ListN.{length, replicate, length-append}
use Rattle.meaning.specs.Data.{stretched}

pub stretched_one : (w : List ℕ) → stretched 1 w ≡ w
unfolding stretched
stretched_one w = append-nil w

pub stretched_parts : (i j : ℕ) (w : List ℕ) → stretched (i + j) w ≡ stretched i w ++ stretched j w
unfolding stretched
stretched_parts zero j w = rw zero-add
stretched_parts (suc i) j w =
    rw suc-add (ap (λ (l : List ℕ). w ++ l) (stretched_parts i j w) ∙ sym (append_assoc w (stretched i w) (stretched j w)))

pub stretched_more : (n : ℕ) (w : List ℕ) → stretched n w ++ w ≡ stretched (n + 1) w
stretched_more n w = sym (stretched_parts n 1 w ∙ ap (λ (l : List ℕ). stretched n w ++ l) (stretched_one w))

pub length_stretched : (n : ℕ) (w : List ℕ) → length (stretched n w) ≡ n * length w
unfolding stretched
length_stretched zero w = sym (zero-mul (length w))
length_stretched (suc n) w = length-append w (stretched n w) ∙ (omega (arith, length_stretched n w, suc-mul n (length w)))

-- before them or behind
pub stretched_turn : (n : ℕ) (w : List ℕ) → w ++ stretched n w ≡ stretched n w ++ w
unfolding stretched
stretched_turn zero w = append-nil w
stretched_turn (suc n) w = ap (λ (l : List ℕ). w ++ l) (stretched_turn n w) ∙ sym (append_assoc w (stretched n w) w)

-- nothing, however often
pub stretched_empty : (n : ℕ) → stretched n [] ≡ []
unfolding stretched
stretched_empty zero = refl
stretched_empty (suc n) = stretched_empty n

-- one character
pub stretched_single : (n x : ℕ) → stretched n (x ∷ []) ≡ replicate n x
unfolding stretched
stretched_single zero x = refl
stretched_single (suc n) x = ap (λ (l : List ℕ). x ∷ l) (stretched_single n x)
