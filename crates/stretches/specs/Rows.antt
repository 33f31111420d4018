-- Rows as a window writes them where the mark is 0, which is what an unassigned pin holds: each pin's character, the table's digit, LF.
use Rattle.std.specs.Prelude.{ℕ, zero, suc, ◌+◌, ◌*◌, ◌-◌, true, false, List, [], ◌∷◌, ◌++◌, eqb, get_or, take, drop}
use Rattle.meaning.specs.Run.{unassigned}
use Rattle.meaning.specs.Meaning.{firsts}
use Rattle.words.specs.Table.{names}
use Rattle.folded.specs.Flat.{Row}
use Rattle.folded.specs.Same.{words_of}
use Rattle.stretches.specs.declared.Names.{Names}

-- the row of some bytes, over n signals
abbrev pub row_in : ℕ → List ℕ → Row
row_in n bytes = record { table = get_or bytes n 0 - 48; pins = take n bytes }

-- so many of those that stand one behind the other in a buffer, from number r on
unfoldable pub rows_in : ℕ → List ℕ → ℕ → ℕ → List Row
rows_in n buffer r zero = []
rows_in n buffer r (suc k) = row_in n (take (n + 2) (drop (r * (n + 2)) buffer)) ∷ rows_in n buffer (suc r) k

-- the words of the first so many names of a table
abbrev pub words_in : List ℕ → List ℕ → ℕ → List (List ℕ)
words_in text places count = words_of (firsts (names text places count))

-- those of a text's signals, and of its tables
abbrev pub signal_words : Names → List (List ℕ)
signal_words n = words_in n.text.now n.places.now n.signals

abbrev pub table_words : Names → List (List ℕ)
table_words n = words_in n.text.now n.tplaces.now n.tables

-- NAME=CHARACTER; of a pin that has a value
unfoldable pub value_bytes : List ℕ → ℕ → List ℕ
value_bytes name c = elim (eqb c unassigned) [ true ↦ [] | false ↦ name ++ 61 ∷ c ∷ 59 ∷ [] ]
