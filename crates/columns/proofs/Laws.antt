-- What a position says: the line is 1 and the LFs before the place, the column 1 and the bytes since the last of them; and going on joins.
use Prim.Native.Nat.{ℕ, suc, ◌+◌, ◌*◌, ◌-◌, ◌<◌, ◌≤◌, ◌^◌, min}
use native.Mathlib.Omega.{arith}
use native.Mathlib.Numerals.{add-one}
use mathlib.Core.Path.{◌≡◌, refl, sym, ap, ◌∙◌}
use mathlib.Core.Bool.{Bool, true, false}
use mathlib.Core.List.{List, [], ◌∷◌, ◌++◌}
use lib.Dec.{eqb}
use lib.ListN.{length, get_or, take, drop, drop_of_length-le, length-take}
use lib.Seq.{drop-cons, take_all, take-add}
use borrow.Author.Tests.{eq-eqb, ne_eqb}
use Rattle.columns.specs.declared.Position.{Position}
use Rattle.columns.specs.Columns.{lf, start, past, onward, position, number_most, capped}

-- ---- one byte

pub past_lf : (at : Position) (b : ℕ) → b ≡ lf → past at b ≡ record { line = at.line + 1; column = 1 }
unfolding past
past_lf at b e = rw (eq-eqb b lf e, past)

pub past_other : (at : Position) (b : ℕ) → (b ≡ lf → ⊥) → past at b ≡ record { line = at.line; column = at.column + 1 }
unfolding past
past_other at b ne = rw (ne_eqb b lf ne, past)

-- ---- some bytes

-- going on byte by byte
pub onward_one : (at : Position) (bytes : List ℕ) (i : ℕ) → i < length bytes → onward at (drop i bytes) ≡ onward (past at (get_or bytes i 0)) (drop (i + 1) bytes)
unfolding onward
onward_one at bytes i h = rw (add-one, drop-cons bytes i 0 h)

pub onward_over : (at : Position) (bytes : List ℕ) (i : ℕ) → length bytes ≤ i → onward at (drop i bytes) ≡ at
unfolding onward
onward_over at bytes i h = rw (drop_of_length-le bytes h)

-- going on over two parts is going on over both
pub onward_joins : (at : Position) (xs ys : List ℕ) → onward at (xs ++ ys) ≡ onward (onward at xs) ys
unfolding onward
onward_joins at [] ys = refl
onward_joins at (x ∷ xs) ys = onward_joins (past at x) xs ys

-- MOVING ON: the position n bytes further is got from the position of the place and the n bytes between
pub moves_on : (text : List ℕ) (p n : ℕ) → position text (p + n) ≡ onward (position text p) (take n (drop p text))
unfolding position
moves_on text p n = ap (onward start) (take-add p n text) ∙ onward_joins start (take p text) (take n (drop p text))

-- from the text's start over the bytes before the place, or over all of them
pub from_start : (text : List ℕ) (p : ℕ) (q : Position) → q ≡ start → onward q (take p text) ≡ position text p
unfolding position
from_start text p q e = ap (λ (s : Position). onward s (take p text)) e

pub from_start_over : (text : List ℕ) (p : ℕ) (q : Position) → q ≡ start → length text ≤ p → onward q text ≡ position text p
from_start_over text p q e h = ap (onward q) (sym (take_all p text h)) ∙ from_start text p q e

-- ---- up to the largest number

-- numbers that a machine keeps
pub record Kept (at : Position) : Type 0 where
  pub line : at.line ≤ number_most
  pub column : at.column ≤ number_most

pub position_same : {p q : Position} → p.line ≡ q.line → p.column ≡ q.column → p ≡ q
position_same e f i = record { line = e i; column = f i }

pub capped_kept : (at : Position) → Kept at → at ≡ capped at
unfolding capped
capped_kept at k = position_same (omega (arith, k.line)) (omega (arith, k.column))

pub keeps_capped : (at : Position) → Kept (capped at)
unfolding capped
keeps_capped at = record { line = omega arith; column = omega arith }

-- one byte more, of what was kept and of all of it
past_capped : (at : Position) (b : ℕ) → capped (past (capped at) b) ≡ capped (past at b)
unfolding past capped
past_capped at b = by (eqb b lf)
  where
    by : (t : Bool)
        → capped (elim t [ true ↦ record { line = (capped at).line + 1; column = 1 } | false ↦ record { line = (capped at).line; column = (capped at).column + 1 } ])
        ≡ capped (elim t [ true ↦ record { line = at.line + 1; column = 1 } | false ↦ record { line = at.line; column = at.column + 1 } ])
    by true = position_same (omega arith) refl
    by false = position_same (omega arith) (omega arith)

pub onward_capped : (at : Position) (xs : List ℕ) → capped (onward (capped at) xs) ≡ capped (onward at xs)
unfolding onward
onward_capped at [] = sym (capped_kept (capped at) (keeps_capped at))
onward_capped at (x ∷ xs) =
    sym (onward_capped (past (capped at) x) xs) ∙ ap (λ q. capped (onward q xs)) (past_capped at x) ∙ onward_capped (past at x) xs

-- one byte more, in the code's words
pub capped_lf : (at : Position) (b n : ℕ) → b ≡ lf → n ≡ min (at.line + 1) number_most → record { line = n; column = 1 } ≡ capped (past at b)
unfolding capped
capped_lf at b n e f = position_same f refl ∙ ap capped (sym (past_lf at b e))

pub capped_other : (at : Position) (b n : ℕ) → (b ≡ lf → ⊥) → at.line ≤ number_most → n ≡ min (at.column + 1) number_most
    → record { line = at.line; column = n } ≡ capped (past at b)
unfolding capped
capped_other at b n ne k f = position_same {q = capped (record { line = at.line; column = at.column + 1 })} (omega (arith, k)) f ∙ ap capped (sym (past_other at b ne))

-- ---- lines

-- how many LFs there are
unfoldable pub breaks : List ℕ → ℕ
breaks [] = 0
breaks (b ∷ bs) = elim (eqb b lf) [ true ↦ suc (breaks bs) | false ↦ breaks bs ]

onward_lines : (at : Position) (xs : List ℕ) → (onward at xs).line ≡ at.line + breaks xs
unfolding onward past breaks
onward_lines at [] = omega arith
onward_lines at (x ∷ xs) = by (eqb x lf) (λ q. onward_lines q xs)
  where
    by : (t : Bool) → ((q : Position) → (onward q xs).line ≡ q.line + breaks xs)
        → (onward (elim t [ true ↦ record { line = at.line + 1; column = 1 } | false ↦ record { line = at.line; column = at.column + 1 } ]) xs).line
        ≡ at.line + elim t [ true ↦ suc (breaks xs) | false ↦ breaks xs ]
    by true others = omega (arith, others record { line = at.line + 1; column = 1 })
    by false others = others record { line = at.line; column = at.column + 1 }

-- THE LINE: 1, and the LFs among the bytes before the place
pub line_is : (text : List ℕ) (p : ℕ) → (position text p).line ≡ 1 + breaks (take p text)
unfolding position
line_is text p = onward_lines start (take p text)

-- ---- columns

onward_columns : (at : Position) (xs : List ℕ) → breaks xs ≡ 0 → (onward at xs).column ≡ at.column + length xs
unfolding onward past breaks
onward_columns at [] e = omega arith
onward_columns at (x ∷ xs) e = by (eqb x lf) (λ q. onward_columns q xs) e
  where
    by : (t : Bool) → ((q : Position) → breaks xs ≡ 0 → (onward q xs).column ≡ q.column + length xs) → ◌≡◌ {A = ℕ} (elim t [ true ↦ suc (breaks xs) | false ↦ breaks xs ]) 0
        → (onward (elim t [ true ↦ record { line = at.line + 1; column = 1 } | false ↦ record { line = at.line; column = at.column + 1 } ]) xs).column
        ≡ at.column + suc (length xs)
    by true others f = absurd (omega (arith, f))
    by false others f = omega (arith, others record { line = at.line; column = at.column + 1 } f)

-- THE COLUMN where an LF stands before the place: 1, and the bytes behind the last of them
pub column_is : (text : List ℕ) (p : ℕ) (before after : List ℕ) → take p text ≡ before ++ lf ∷ after → breaks after ≡ 0
    → (position text p).column ≡ 1 + length after
unfolding position onward past
column_is text p before after e none =
    ap (λ (xs : List ℕ). (onward start xs).column) e ∙ ap (λ (q : Position). q.column) (onward_joins start before (lf ∷ after))
    ∙ onward_columns (record { line = (onward start before).line + 1; column = 1 }) after none

-- and in the first line: 1, and the bytes since the text's start
pub column_of_first_line : (text : List ℕ) (p : ℕ) → breaks (take p text) ≡ 0 → (position text p).column ≡ 1 + length (take p text)
unfolding position
column_of_first_line text p none = onward_columns start (take p text) none

-- ---- no position of a text is too large

onward_kept : (at : Position) (xs : List ℕ) (n : ℕ) → at.line + length xs ≤ n → at.column + length xs ≤ n → 1 + length xs ≤ n → ((onward at xs).line ≤ n) × ((onward at xs).column ≤ n)
unfolding onward past
onward_kept at [] n l c o = (omega (arith, l), omega (arith, c))
onward_kept at (x ∷ xs) n l c o = by (eqb x lf) (λ q. onward_kept q xs n)
  where
    by : (t : Bool) → ((q : Position) → q.line + length xs ≤ n → q.column + length xs ≤ n → 1 + length xs ≤ n → ((onward q xs).line ≤ n) × ((onward q xs).column ≤ n))
        → ((onward (elim t [ true ↦ record { line = at.line + 1; column = 1 } | false ↦ record { line = at.line; column = at.column + 1 } ]) xs).line ≤ n)
        × ((onward (elim t [ true ↦ record { line = at.line + 1; column = 1 } | false ↦ record { line = at.line; column = at.column + 1 } ]) xs).column ≤ n)
    by true others = others record { line = at.line + 1; column = 1 } (omega (arith, l)) (omega (arith, o)) (omega (arith, o))
    by false others = others record { line = at.line; column = at.column + 1 } (omega (arith, l)) (omega (arith, c)) (omega (arith, o))

pub position_kept : (text : List ℕ) (p : ℕ) → length text * 1 < 2 ^ 63 → Kept (position text p)
unfolding position
position_kept text p short =
    let k = onward_kept start (take p text) number_most (omega (arith, short, length-take p text)) (omega (arith, short, length-take p text)) (omega (arith, short, length-take p text)) in
    record { line = k.0; column = k.1 }

-- THE POSITION OF A LATER PLACE, from that of an earlier one and the bytes between
pub later_is : (text : List ℕ) (from to : ℕ) → from ≤ to → length text * 1 < 2 ^ 63
    → capped (onward (position text from) (take (to - from) (drop from text))) ≡ position text to
later_is text from to h short =
    let there : from + (to - from) ≡ to = omega arith in
    ap capped (sym (moves_on text from (to - from)) ∙ ap (position text) there) ∙ sym (capped_kept (position text to) (position_kept text to short))
