-- A word as bytes of the text from a place up to an end: its first byte and the others, and what is left of it behind some.
use Prim.Native.Nat.{ℕ, zero, suc, ◌+◌, ◌-◌, ◌≤◌, ◌<◌}
use native.Mathlib.Omega.{arith}
use mathlib.Core.Path.{◌≡◌, sym, ap, ◌∙◌}
use mathlib.Core.List.{List, [], ◌∷◌, ◌++◌}
use lib.Seq.{take-nil, drop-append-add, drop-drop, length-take-le}
use lib.ListN.{length, get_or, take, drop, length-drop}
use Rattle.words.specs.Cursor.{span}
use Rattle.words.proofs.Words.{cut}

pub span_length : (text : List ℕ) (at end : ℕ) → end ≤ length text → length (span text at end) ≡ end - at
span_length text at end h = length-take-le (end - at) (drop at text) (omega (arith, length-drop at text))

pub span_cut : (text : List ℕ) (at end : ℕ) → at < end → end ≤ length text → span text at end ≡ get_or text at 0 ∷ span text (at + 1) end
span_cut text at end h k =
    let e : end - at ≡ suc (end - (at + 1)) = omega arith in
    rw (e, cut text at (omega arith))

drop_take : (m k : ℕ) (l : List ℕ) → m ≤ k → drop m (take k l) ≡ take (k - m) (drop m l)
drop_take zero k l h = let e : k - 0 ≡ k = omega arith in ap (λ (n : ℕ). take n l) (sym e)
drop_take (suc m) zero l h = absurd (omega arith)
drop_take (suc m) (suc k) [] h = sym (take-nil (suc k - suc m))
drop_take (suc m) (suc k) (x ∷ l) h = let e : suc k - suc m ≡ k - m = omega arith in rw e (drop_take m k l (omega arith))

pub span_drop : (text : List ℕ) (at end n : ℕ) → at + n ≤ end → drop n (span text at end) ≡ span text (at + n) end
span_drop text at end n h =
    let e : end - at - n ≡ end - (at + n) = omega arith in
    drop_take n (end - at) (drop at text) (omega arith) ∙ (rw (e, drop-drop n at text))

-- behind all of some, and n more
pub drop_past : (l r : List ℕ) (k n : ℕ) → length l ≡ k → drop (k + n) (l ++ r) ≡ drop n r
drop_past l r k n e = ap (λ (m : ℕ). drop (m + n) (l ++ r)) (sym e) ∙ drop-append-add l r n
