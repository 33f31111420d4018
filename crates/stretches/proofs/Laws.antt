-- Rows by their bytes: pins that lose a value, names by their numbers, and rows one behind the other in a buffer.
use Prim.Native.Nat.{ℕ, zero, suc, ◌+◌, ◌*◌, ◌-◌, ◌≤◌, ◌<◌}
use native.Mathlib.Omega.{arith}
use native.Mathlib.Numerals.{add-one}
use mathlib.Core.Path.{◌≡◌, refl, sym, ap, ap₂, ◌∙◌}
use mathlib.Core.Bool.{Bool, true, false, not, ◌&&◌, ◌||◌}
use mathlib.Core.List.{List, [], ◌∷◌, ◌++◌}
use lib.Dec.{eqb}
use lib.ListN.{length, get_or, take, drop, length-drop}
use lib.Seq.{length-take-le}
use Rattle.std.specs.List.{list_any, zip}
use Rattle.tokens.specs.Written.{same}
use Rattle.meaning.specs.Meaning.{firsts}
use Rattle.meaning.specs.Run.{unassigned}
use Rattle.words.specs.Table.{name_of, names_from}
use Rattle.folded.specs.Flat.{same_row, loses}
use Rattle.folded.specs.Layout.{name_at}
use Rattle.folded.specs.Same.{words_of}
use Rattle.stretches.specs.Rows.{row_in, rows_in, words_in}

-- ---- pins that lose their value

-- as a test of the pairs
pub loses_any : (old new : List ℕ) → list_any (λ (p : ℕ × ℕ). not (eqb p.0 unassigned) && eqb p.1 unassigned) (zip old new) ≡ loses old new
unfolding loses
loses_any [] new = refl
loses_any (c ∷ cs) [] = refl
loses_any (c ∷ cs) (d ∷ ds) = ap (λ (b : Bool). not (eqb c unassigned) && eqb d unassigned || b) (loses_any cs ds)

neither : (b : Bool) → (not b && b) ≡ false
neither true = refl
neither false = refl

-- no row loses a value against itself
pub same_by : (n : ℕ) (old new : List ℕ) {a b : ℕ} {s : Bool} → a ≡ get_or old n 0 - 48 → b ≡ get_or new n 0 - 48 → s ≡ same (take n old) (take n new) → (eqb a b && s) ≡ same_row (row_in n old) (row_in n new)
unfolding same_row
same_by n old new e f g = rw (e, f, g)

-- ---- names by their numbers

words_from : (text places : List ℕ) (i k s : ℕ) → s < k → name_at (words_of (firsts (names_from text places i k))) s ≡ (name_of text places (i + s)).word
unfolding words_of firsts names_from
words_from text places i zero s h = absurd (omega arith)
words_from text places i (suc k) zero h = let e : i + 0 ≡ i = omega arith in rw e
words_from text places i (suc k) (suc s) h = let e : i + suc s ≡ suc i + s = omega arith in words_from text places (suc i) k s (omega arith) ∙ ap (λ (n : ℕ). (name_of text places n).word) (sym e)

pub word_is : (text places : List ℕ) (n s : ℕ) → s < n → name_at (words_in text places n) s ≡ (name_of text places s).word
word_is text places n s h = let e : 0 + s ≡ s = omega arith in words_from text places 0 n s h ∙ ap (λ (n : ℕ). (name_of text places n).word) e

words_long : (text places : List ℕ) (i k : ℕ) → length (words_of (firsts (names_from text places i k))) ≡ k
unfolding words_of firsts names_from
words_long text places i zero = refl
words_long text places i (suc k) = ap suc (words_long text places (suc i) k)

past_end : (l : List (List ℕ)) (s : ℕ) → length l ≤ s → get_or l s [] ≡ []
past_end [] s h = refl
past_end (x ∷ l) zero h = absurd (omega arith)
past_end (x ∷ l) (suc s) h = past_end l s (omega arith)

-- there is none from the last on
pub word_none : (text places : List ℕ) (n s : ℕ) → n ≤ s → name_at (words_in text places n) s ≡ []
word_none text places n s h = past_end (words_in text places n) s (omega (arith, words_long text places 0 n))

-- ---- rows in a buffer

-- as the code lends it
pub part_is : (a w : ℕ) (buffer : List ℕ) → take ((a + w) - a) (drop a buffer) ≡ take w (drop a buffer)
part_is a w buffer = let e : (a + w) - a ≡ w = omega arith in rw e

pub part_long : (a w : ℕ) (buffer : List ℕ) → a + w ≤ length buffer → length (take ((a + w) - a) (drop a buffer)) ≡ w
part_long a w buffer h = ap length (part_is a w buffer) ∙ length-take-le w (drop a buffer) (omega (arith, length-drop a buffer))

pub row_next : (n : ℕ) (buffer : List ℕ) (r count : ℕ) → r < count → rows_in n buffer r (count - r) ≡ row_in n (take (n + 2) (drop (r * (n + 2)) buffer)) ∷ rows_in n buffer (r + 1) (count - (r + 1))
unfolding rows_in
row_next n buffer r count h =
    let e : count - r ≡ suc (count - (r + 1)) = omega arith in
    ap (rows_in n buffer r) e ∙ rw (add-one r)

pub rows_end : (n : ℕ) (buffer : List ℕ) (r count : ℕ) → count ≤ r → rows_in n buffer r (count - r) ≡ []
unfolding rows_in
rows_end n buffer r count h = let e : count - r ≡ 0 = omega arith in rw e

pub rows_long : (n : ℕ) (buffer : List ℕ) (r k : ℕ) → length (rows_in n buffer r k) ≡ k
unfolding rows_in
rows_long n buffer r zero = refl
rows_long n buffer r (suc k) = ap suc (rows_long n buffer (suc r) k)

-- a row that is kept in hand
pub row_kept : (n : ℕ) (row rest : List ℕ) → length row ≡ n + 2 → row_in n (row ++ rest) ≡ row_in n row
row_kept n row rest h = ap₂ (λ (k : ℕ) (l : List ℕ). record { table = k - 48; pins = l }) (digit n row (omega arith)) (front n row (omega arith))
  where
    digit : (n : ℕ) (row : List ℕ) → n < length row → get_or (row ++ rest) n 0 ≡ get_or row n 0
    digit n [] h = absurd (omega arith)
    digit zero (b ∷ row) h = refl
    digit (suc n) (b ∷ row) h = digit n row (omega arith)

    front : (n : ℕ) (row : List ℕ) → n ≤ length row → take n (row ++ rest) ≡ take n row
    front zero row h = refl
    front (suc n) [] h = absurd (omega arith)
    front (suc n) (b ∷ row) h = ap (λ (l : List ℕ). b ∷ l) (front n row (omega arith))
