-- A text's index (request 7): a line for each listed pattern, then the tables; and which listed pattern holds a cycle.
use Rattle.std.specs.Prelude.{ℕ, suc, ◌+◌, Bool, true, false, ◌&&◌, List, [], ◌∷◌, ◌++◌, length, get_or, drop, leb, ltb, eqb}
use Rattle.std.proofs.Math.Option.{Option, none, some}
use Rattle.tokens.specs.Written.{same}
use Rattle.tokens.specs.Tokens.{Tok, Toks, stop, tok, toks}
use Rattle.meaning.specs.Refusals.{no_room}
use Rattle.meaning.specs.Reader.{Res, ok, refuse}
use Rattle.meaning.specs.Names.{find}
use Rattle.meaning.specs.Body.{Body}
use Rattle.meaning.specs.Statements.{Decls}
use Rattle.meaning.specs.Document.{Read, document}
use Rattle.meaning.specs.Run.{cycles, alone}
use Rattle.meaning.specs.Meaning.{Answer, given, refused, answering, firsts, Meaning, meaning}
use Rattle.pages.specs.Pages.{decimal}
use Rattle.sections.specs.Listing.{ended, counted, lines}

-- 21: the bytes are not what a rebuild writes
abbrev pub not_the_index : ℕ
not_the_index = 21

-- ---- the Pattern keywords

-- does the next token stand at p
unfoldable pub stands_at : ℕ → Toks → Bool
stands_at p (stop n q) = false
stands_at p (tok t ts) = eqb t.at p

-- the place of the token whose next one stands at p, and the tokens from that next one on
unfoldable pub keyword_before : Toks → ℕ → ℕ × Toks
keyword_before (stop n q) p = (0, stop n q)
keyword_before (tok t ts) p = elim (stands_at p ts) [ true ↦ (t.at, ts) | false ↦ keyword_before ts p ]

-- the keywords of patterns, each by its name: the names stand in the text one behind the other
unfoldable pub keywords : Toks → List Tok → List ℕ
keywords ts [] = []
keywords ts (t ∷ l) = let x = keyword_before ts t.at in x.0 ∷ keywords x.1 l

-- ---- the listed patterns

-- a declared pattern: its body, and the byte place of its keyword
pub record Block : Type 0 where
  pub body : Body
  pub keyword : ℕ

unfoldable pub blocks : Decls → List ℕ → List (Tok × Block)
blocks [] ks = []
blocks (x ∷ xs) ks = (x.0, record { body = x.1.body; keyword = get_or ks 0 0 }) ∷ blocks xs (drop 1 ks)

-- a listed pattern: name, first cycle in the run, cycle count, byte place of its keyword
pub record Line : Type 0 where
  pub name : List ℕ
  pub first : ℕ
  pub count : ℕ
  pub keyword : ℕ

unfoldable pub line_of : ℕ → List ℕ → Block → Line
line_of n w b = record { name = w; first = n; count = cycles 0 (alone b.body); keyword = b.keyword }

-- the listed names one by one, the first of them from cycle n on
unfoldable pub lines_from : ℕ → List (Tok × Block) → List Tok → List Line
lines_from n bs [] = []
lines_from n bs (t ∷ l) =
    elim (find bs t.word) [
      | none ↦ []
      | some b ↦ let x = line_of n t.word b in x ∷ lines_from (n + x.count) bs l
    ]

unfoldable pub lines_of : Toks → Res Read → List Line
lines_of ts (ok d us) = lines_from 0 (blocks d.patterns (keywords ts (firsts d.patterns))) d.listed
lines_of ts (refuse n p) = []

pub record Index : Type 0 where
  pub patterns : List Line
  pub tables : List Tok

unfoldable pub index_of : List ℕ → Meaning → Index
index_of text m = record { patterns = lines_of (toks text 0) (document (toks text 0)); tables = firsts m.tables }

-- ---- its bytes

unfoldable pub line_written : Line → List ℕ
line_written x = ended (x.name ++ 32 ∷ decimal x.first ++ 32 ∷ decimal x.count ++ 32 ∷ decimal x.keyword)

unfoldable pub lines_written : List Line → List ℕ
lines_written [] = []
lines_written (x ∷ xs) = line_written x ++ lines_written xs

unfoldable pub written : Index → List ℕ
written x = (counted "PATTERNS" (length x.patterns) ++ lines_written x.patterns) ++ counted "TABLES" (length x.tables) ++ lines x.tables

-- ---- the pattern that holds a cycle: first <= n < first + count; its number in the list, from k on

unfoldable pub holder : ℕ → ℕ → List Line → Option ℕ
holder n k [] = none
holder n k (x ∷ xs) = elim (leb x.first n && ltb n (x.first + x.count)) [ true ↦ some k | false ↦ holder n (suc k) xs ]

-- ---- the services

-- Index: how many bytes it has, and the buffer with them at its front
pub record Rebuilt : Type 0 where
  pub size : ℕ
  pub buffer : List ℕ

unfoldable pub rebuilt_in : List ℕ → List ℕ → Answer Rebuilt
rebuilt_in bytes buffer =
    elim (leb (length bytes) (length buffer)) [
      | false ↦ refused no_room 0
      | true ↦ given (record { size = length bytes; buffer = bytes ++ drop (length bytes) buffer })
    ]

unfoldable pub index : List ℕ → List ℕ → Answer Rebuilt
index text buffer = answering (meaning text) λ m. rebuilt_in (written (index_of text m)) buffer

-- an index is taken only if it is byte for byte what a rebuild writes
unfoldable pub taken_as : List ℕ → Index → Answer Index
taken_as bytes x = elim (same (written x) bytes) [ true ↦ given x | false ↦ refused not_the_index 0 ]

unfoldable pub taken : List ℕ → List ℕ → Answer Index
taken text bytes = answering (meaning text) λ m. taken_as bytes (index_of text m)

-- Belongs: it is taken, or refused
unfoldable pub belongs : List ℕ → List ℕ → Answer (Unit {0})
belongs text bytes = answering (taken text bytes) λ x. given tt

-- Holds: the number of the listed pattern that holds a cycle; past the end no pattern
unfoldable pub holds : List ℕ → List ℕ → ℕ → Answer (Option ℕ)
holds text bytes n = answering (taken text bytes) λ x. given (holder n 0 x.patterns)
