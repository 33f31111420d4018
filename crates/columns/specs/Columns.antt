-- The line and the column of a place (document 02, wish 6): a line begins behind each LF and at the text's start; both are counted from 1, columns in bytes.
use Rattle.std.specs.Prelude.{ℕ, ◌+◌, min, true, false, List, [], ◌∷◌, eqb, take}
use Rattle.columns.specs.declared.Position.{Position}

abbrev pub lf : ℕ
lf = 10

-- where a text starts
abbrev pub start : Position
start = record { line = 1; column = 1 }

-- behind one more byte
unfoldable pub past : Position → ℕ → Position
past at b = elim (eqb b lf) [ true ↦ record { line = at.line + 1; column = 1 } | false ↦ record { line = at.line; column = at.column + 1 } ]

-- behind some more bytes
unfoldable pub onward : Position → List ℕ → Position
onward at [] = at
onward at (b ∷ bs) = onward (past at b) bs

-- THE POSITION of a place: what stands behind the bytes before it; past the text's end that of its length
unfoldable pub position : List ℕ → ℕ → Position
position text place = onward start (take place text)

-- ---- for whoever goes on from a line and a column of their own

abbrev pub number_most : ℕ
number_most = 18_446_744_073_709_551_615

-- what a machine keeps of it: no position of a text is as large
unfoldable pub capped : Position → Position
capped at = record { line = min at.line number_most; column = min at.column number_most }
