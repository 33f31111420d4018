-- The book of all declared bodies: macros, procedures, the burst and the patterns. In front each one's name, by its place and end in the text; behind
-- the names five numbers each: where the body begins, and its measure.
use Rattle.std.specs.Prelude.{ℕ, suc, ◌+◌, ◌*◌, ◌<◌, ◌≡◌, List, [], ◌∷◌, length, get_or}
use Rattle.tokens.specs.Tokens.{Tok, toks}
use Rattle.meaning.specs.Bounds.{bodies_most, patterns_most}
use Rattle.meaning.specs.Statements.{Decl, Decls}
use Rattle.words.specs.Table.{name_of}
use Rattle.words.specs.declared.Cursor.{Cursor}
use Rattle.measures.specs.Measures.{Measures}
use Rattle.measures.specs.Uses.{row_length, row_at, Uses}
use Rattle.measures.specs.declared.Measure.{Measure}

-- macros come first, then procedures, the burst, and the patterns
abbrev pub first_procedure : ℕ
first_procedure = bodies_most

abbrev pub bodies : ℕ
bodies = bodies_most * 2

abbrev pub burst : ℕ
burst = bodies

abbrev pub first_pattern : ℕ
first_pattern = suc bodies

abbrev pub entries : ℕ
entries = suc bodies + patterns_most

-- numbers of an entry, behind the names
abbrev pub numbers : ℕ
numbers = 5

abbrev pub numbers_at : ℕ → ℕ
numbers_at i = entries * 2 + i * numbers

abbrev pub book_length : ℕ
book_length = entries * (2 + numbers)

abbrev pub rows_length : ℕ
rows_length = bodies * row_length

-- where the body of number i begins
abbrev pub start_at : List ℕ → ℕ → ℕ
start_at book i = get_or book (numbers_at i) 0

abbrev pub measure_at : List ℕ → ℕ → Measure
measure_at book i = record {
  depth = get_or book (numbers_at i + 1) 0;
  size = get_or book (numbers_at i + 2) 0;
  cycles = get_or book (numbers_at i + 3) 0;
  shifts = get_or book (numbers_at i + 4) 0;
}

-- the book has a declared body at number i
pub record Entry (text book : List ℕ) (i : ℕ) (x : Tok × Decl) : Type 0 where
  pub named : name_of text book i ≡ x.0
  pub from : x.1.from ≡ toks text (start_at book i)
  pub measured : Measures x.1.body (measure_at book i)

-- and some, from number i on; P says more of each
unfoldable pub Listed : (ℕ → Tok × Decl → Type 0) → ℕ → Decls → Type 0
Listed P i [] = Unit {0}
Listed P i (x ∷ xs) = P i x × Listed P (suc i) xs

-- a macro or procedure has its row too
pub record Used (text book rows : List ℕ) (i : ℕ) (x : Tok × Decl) : Type 0 where
  pub entry : Entry text book i x
  pub uses : Uses x.1.body (row_at rows i)

-- an entry was written: the others are as they were
pub record Kept (before : List ℕ) (i : ℕ) (c : Cursor) (start : ℕ) (x : Measure) (behind : List ℕ) : Type 0 where
  pub long : length behind ≡ length before
  pub name_at : (get_or behind (i * 2) 0 ≡ c.at) × (get_or behind (i * 2 + 1) 0 ≡ c.end)
  pub start_is : start_at behind i ≡ start
  pub measure_is : measure_at behind i ≡ x
  pub other_names : (j : ℕ) → j < entries → (j ≡ i → ⊥) → (get_or behind (j * 2) 0 ≡ get_or before (j * 2) 0) × (get_or behind (j * 2 + 1) 0 ≡ get_or before (j * 2 + 1) 0)
  pub others : (j : ℕ) → j < entries → (j ≡ i → ⊥) → (start_at behind j ≡ start_at before j) × (measure_at behind j ≡ measure_at before j)

-- a row was written
pub record KeptRow (before : List ℕ) (i : ℕ) (row behind : List ℕ) : Type 0 where
  pub long : length behind ≡ length before
  pub here : row_at behind i ≡ row
  pub others : (j : ℕ) → (j ≡ i → ⊥) → row_at behind j ≡ row_at before j
