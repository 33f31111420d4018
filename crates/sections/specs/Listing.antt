-- A text's listing (document 01, "One text and its listing").
use Rattle.std.specs.Prelude.{ℕ, suc, ◌+◌, ◌*◌, ◌≤◌, ◌≡◌, true, false, List, [], ◌∷◌, ◌++◌, length, drop, leb}
use Prim.Native.String.{String}
use Rattle.tokens.specs.Written.{bytes}
use Rattle.tokens.specs.Tokens.{Tok}
use Rattle.meaning.specs.Bounds.{name_most, signals_most}
use Rattle.meaning.specs.Run.{cycles, cycles_of}
use Rattle.meaning.specs.Meaning.{given, refused, firsts, Meaning, meaning}
use Rattle.meaning.specs.Services.{dot, rows, row_width}
use Rattle.walks.specs.Seen.{seen}
use Rattle.columns.specs.Columns.{position}
use Rattle.pages.specs.Pages.{decimal, Puts}
use Rattle.sections.specs.declared.Page.{Page}

-- above so many cycles the rows are not listed
abbrev pub listed_most : ℕ
listed_most = 1_000_000

-- ---- what is written

abbrev pub ended : List ℕ → List ℕ
ended xs = xs ++ 10 ∷ []

-- a section's first line: its word and its count
unfoldable pub counted_of : List ℕ → ℕ → List ℕ
counted_of word n = ended (word ++ 32 ∷ decimal n)

abbrev pub counted : String → ℕ → List ℕ
counted word n = counted_of (bytes word) n

-- a line for each name
unfoldable pub lines : List Tok → List ℕ
lines [] = []
lines (t ∷ ts) = ended t.word ++ lines ts

-- of so many cycles: how many rows are listed, and what stands for them where they are not
unfoldable pub listed_of : ℕ → ℕ
listed_of n = elim (leb n listed_most) [ true ↦ n | false ↦ 0 ]

unfoldable pub not_listed : ℕ → List ℕ
not_listed n = elim (leb n listed_most) [ true ↦ [] | false ↦ ended (bytes "NOT LISTED") ]

-- all but the rows
unfoldable pub sections_of : (signals tables : List Tok) → (s t c : ℕ) → List ℕ
sections_of signals tables s t c = (counted "SIGNALS" s ++ lines signals) ++ (counted "TABLES" t ++ lines tables) ++ counted "CYCLES" c ++ not_listed c

unfoldable pub front : Meaning → List ℕ
front m = sections_of m.signals (firsts m.tables) (length m.signals) (length m.tables) (cycles 0 m.run)

abbrev pub rows_listed : Meaning → ℕ
rows_listed m = listed_of (cycles 0 m.run)

-- LINE l COLUMN c, of a place in the text
unfoldable pub position_line : List ℕ → ℕ → List ℕ
position_line text p = ended (bytes " LINE " ++ decimal (position text p).line ++ bytes " COLUMN " ++ decimal (position text p).column)

-- REFUSED n AT p LINE l COLUMN c
unfoldable pub refusal : List ℕ → ℕ → ℕ → List ℕ
refusal text n p = (bytes "REFUSED " ++ decimal n ++ bytes " AT " ++ decimal p) ++ position_line text p

-- THE LISTING: filed ones have the dot
unfoldable pub listing : List ℕ → List ℕ
listing text =
    elim (meaning text) [
      | given m ↦ front m ++ rows dot (seen 0 (rows_listed m) (cycles_of (length m.signals) m.run))
      | refused n p ↦ refusal text n p
    ]

-- ---- page by page

-- and behind a section's word: a blank, digits and LF
abbrev pub count_most : ℕ
count_most = 22

-- what is written of a position, with digits and LF; and of a refusal with its position
abbrev pub position_most : ℕ
position_most = 55

abbrev pub refusal_most : ℕ
refusal_most = 107

-- a name and LF
abbrev pub line_most : ℕ
line_most = suc name_most

-- what stands for the rows, and LF
abbrev pub unlisted_most : ℕ
unlisted_most = 11

-- a page has room for the front, whatever the text: a line for each signal, and for all else 1,024 bytes
abbrev pub front_most : ℕ
front_most = 1_024 + signals_most * line_most

-- names are short
unfoldable pub Short : List Tok → Type 0
Short [] = Unit {0}
Short (t ∷ ts) = (length t.word ≤ name_most) × Short ts

-- the first page of an accepted text with n bytes: its rows are still to come
abbrev pub first_of : (signals cycles n : ℕ) → Page
first_of signals cycles n = record { room = true; length = n; first = 0; left = listed_of cycles; width = row_width signals }

-- a page that none follows
abbrev pub last_of : ℕ → Page
last_of n = record { room = true; length = n; first = 0; left = 0; width = 0 }

-- the bytes xs are at the page's front, its rest stays
pub record Fronts (xs before : List ℕ) (n : ℕ) (after : List ℕ) : Type 0 where
  pub length_is : n ≡ length xs
  pub page_is : after ≡ xs ++ drop (length xs) before

-- the bytes xs, so many at most, were put at a place of the page
pub record Adds (before : List ℕ) (at : ℕ) (xs : List ℕ) (most r : ℕ) (after : List ℕ) : Type 0 where
  pub puts : Puts before at xs r after
  pub within : r ≤ at + most
