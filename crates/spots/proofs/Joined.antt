-- Events of times and letters in two arrays: those up to a number, one more, and all that were read.
use Prim.Native.Nat.{ℕ, ◌+◌, ◌<◌}
use native.Mathlib.Omega.{arith}
use native.Mathlib.Numerals.{add-one}
use mathlib.Core.Path.{◌≡◌, refl, ap, ap₂, ◌∙◌}
use mathlib.Core.List.{List, [], ◌∷◌, ◌++◌}
use lib.ListN.{length, get_or, take, length-take}
use lib.Seq.{take-suc}
use Rattle.meaning.specs.Timing.{Event}
use Rattle.meaning.specs.Bounds.{entry_most}
use Rattle.meaning.specs.Services.{letters_of}
use Rattle.waves.specs.Waves.{counts_of, Reads}
use Rattle.waves.proofs.Fronts.{times_front, letters_front}

unfoldable pub joined : List ℕ → List ℕ → List Event
joined [] ls = []
joined (t ∷ ts) [] = []
joined (t ∷ ts) (l ∷ ls) = record { time = t; letter = l } ∷ joined ts ls

joined_all : (es : List Event) → joined (counts_of es) (letters_of es) ≡ es
unfolding joined counts_of letters_of
joined_all [] = refl
joined_all (e ∷ es) = ap (λ (l : List Event). e ∷ l) (joined_all es)

joined_more : (ts ls : List ℕ) (t l : ℕ) → length ts ≡ length ls → joined (ts ++ t ∷ []) (ls ++ l ∷ []) ≡ joined ts ls ++ record { time = t; letter = l } ∷ []
unfolding joined
joined_more [] [] t l h = refl
joined_more [] (y ∷ ls) t l h = absurd (omega arith)
joined_more (x ∷ ts) [] t l h = absurd (omega arith)
joined_more (x ∷ ts) (y ∷ ls) t l h = ap (λ (k : List Event). record { time = x; letter = y } ∷ k) (joined_more ts ls t l (omega arith))

pub joined_next : (ts ls : List ℕ) (i : ℕ) → i < length ts → i < length ls
    → joined (take (i + 1) ts) (take (i + 1) ls) ≡ joined (take i ts) (take i ls) ++ record { time = get_or ts i 0; letter = get_or ls i 0 } ∷ []
joined_next ts ls i h k =
    ap₂ joined (ap (λ (n : ℕ). take n ts) (add-one i) ∙ take-suc ts i 0 h) (ap (λ (n : ℕ). take n ls) (add-one i) ∙ take-suc ls i 0 k)
    ∙ joined_more (take i ts) (take i ls) (get_or ts i 0) (get_or ls i 0) (omega (arith, length-take i ts, length-take i ls))

pub joined_read : {n : ℕ} {es : List Event} {ts₀ ts ls₀ ls : List ℕ} → Reads es n ts₀ ts ls₀ ls → length ts₀ ≡ entry_most → length ls₀ ≡ entry_most → joined (take n ts) (take n ls) ≡ es
joined_read {es = es} x h k = ap₂ joined (times_front x h) (letters_front x k) ∙ joined_all es
