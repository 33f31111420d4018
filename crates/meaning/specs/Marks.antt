-- What the mark has no part in (request 10): each byte of some rows, and none where a pin is unassigned, for which the mark stands.
use Rattle.std.specs.Prelude.{ℕ, true, false, List, [], ◌∷◌, ◌++◌, eqb}
use Rattle.std.proofs.Math.Option.{Option, none, some}
use Rattle.meaning.specs.Run.{Cycle, unassigned}
use Rattle.meaning.specs.Services.{digit_of}

unfoldable pub pin_byte : ℕ → Option ℕ
pin_byte c = elim (eqb c unassigned) [ true ↦ none | false ↦ some c ]

unfoldable pub pin_bytes : List ℕ → List (Option ℕ)
pin_bytes [] = []
pin_bytes (c ∷ cs) = pin_byte c ∷ pin_bytes cs

unfoldable pub rows_bytes : List Cycle → List (Option ℕ)
rows_bytes [] = []
rows_bytes (c ∷ cs) = (pin_bytes c.pins ++ some (digit_of c.table) ∷ some 10 ∷ []) ++ rows_bytes cs
