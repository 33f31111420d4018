-- One pattern edited, the others the same (request 14): where a Pattern block stands in a text, and what each listed pattern gives.
use Rattle.std.specs.Prelude.{ℕ, zero, suc, ◌+◌, ◌≡◌, true, false, List, [], ◌∷◌, ◌++◌, length}
use Rattle.std.proofs.Math.Option.{none, some}
use Rattle.tokens.specs.Written.{bytes, same}
use Rattle.tokens.specs.Tokens.{Tok, Toks, stop, tok, toks}
use Rattle.meaning.specs.Reader.{Res, ok, refuse, is_word}
use Rattle.meaning.specs.Names.{find}
use Rattle.meaning.specs.Body.{Body}
use Rattle.meaning.specs.Statements.{Decls}
use Rattle.meaning.specs.Document.{Read, document}
use Rattle.meaning.specs.Run.{cycles, cycles_of, alone}
use Rattle.meaning.specs.Services.{rows}

-- ---- a Pattern block in a text

-- the tokens behind the first k
unfoldable pub from_token : ℕ → Toks → Toks
from_token zero ts = ts
from_token (suc k) (stop n p) = stop n p
from_token (suc k) (tok t ts) = from_token k ts

-- behind a `{`, the tokens from the `}` on that matches it, where d more are open
unfoldable pub from_brace : ℕ → Toks → Toks
from_brace d (stop n p) = stop n p
from_brace d (tok t ts) =
    elim (same t.word (bytes "{")) [
      | true ↦ from_brace (suc d) ts
      | false ↦ elim (same t.word (bytes "}")) [
        | true ↦ elim d [ zero ↦ tok t ts | suc e ↦ from_brace e ts ]
        | false ↦ from_brace d ts
      ]
    ]

-- `Pattern NAME { .. }` in a text: its first byte stands at p, and its last before q
pub record PatternBlock (text : List ℕ) (p q : ℕ) (name : List ℕ) : Type 0 where
  -- behind some tokens stand the word Pattern, the name and `{`
  pub before : ℕ
  pub word : Tok
  pub named : Tok
  pub brace : Tok
  pub inside : Toks
  pub opens : from_token before (toks text 0) ≡ tok word (tok named (tok brace inside))
  pub is_pattern : word.word ≡ bytes "Pattern"
  pub is_named : named.word ≡ name
  pub is_word_lem : is_word name ≡ true
  pub is_brace : brace.word ≡ bytes "{"
  -- and it ends with the `}` that matches
  pub last : Tok
  pub behind : Toks
  pub closes : from_brace 0 inside ≡ tok last behind
  pub first : word.at ≡ p
  pub end : last.at + 1 ≡ q

-- ---- what each listed pattern gives

-- its name, how many cycles it has, and their rows with some mark
pub record ListedRows : Type 0 where
  pub name : List ℕ
  pub cycles : ℕ
  pub rows : List ℕ

unfoldable pub rows_of : ℕ → ℕ → List ℕ → Body → ListedRows
rows_of mark n w b = record { name = w; cycles = cycles 0 (alone b); rows = rows mark (cycles_of n (alone b)) }

-- the listed names one by one, over n signals
unfoldable pub listed_in : ℕ → ℕ → Decls → List Tok → List ListedRows
listed_in mark n ps [] = []
listed_in mark n ps (t ∷ l) = elim (find ps t.word) [ none ↦ [] | some d ↦ rows_of mark n t.word d.body ∷ listed_in mark n ps l ]

unfoldable pub listed_of : ℕ → Res Read → List ListedRows
listed_of mark (ok d ts) = listed_in mark (length d.signals) d.patterns d.listed
listed_of mark (refuse n p) = []

unfoldable pub listed_patterns : ℕ → List ℕ → List ListedRows
listed_patterns mark text = listed_of mark (document (toks text 0))

-- ---- the same but for one name: number by number the same name is listed, and under any other the same rows, as many

unfoldable pub OthersSame : List ℕ → List ListedRows → List ListedRows → Type 0
OthersSame name [] [] = Unit {0}
OthersSame name [] (y ∷ ys) = ⊥
OthersSame name (x ∷ xs) [] = ⊥
OthersSame name (x ∷ xs) (y ∷ ys) =
    (x.name ≡ y.name) × ((x.name ≡ name → ⊥) → (x.cycles ≡ y.cycles) × (x.rows ≡ y.rows)) × OthersSame name xs ys

-- ---- all of them together

unfoldable pub joined_rows : List ListedRows → List ℕ
joined_rows [] = []
joined_rows (x ∷ xs) = x.rows ++ joined_rows xs

unfoldable pub joined_cycles : List ListedRows → ℕ
joined_cycles [] = 0
joined_cycles (x ∷ xs) = x.cycles + joined_cycles xs
