-- Saving hurt reels (request 13): what the check refuses in a Pattern block, or in the list of patterns, is overwritten with spaces, until the text is accepted
-- or beyond help.
use Rattle.std.specs.Prelude.{ℕ, zero, suc, ◌+◌, Bool, true, false, not, ◌&&◌, ◌||◌, List, [], ◌∷◌, ◌++◌, length, drop, leb, ltb, eqb}
use Rattle.std.proofs.Math.Option.{Option, none, some}
use Rattle.tokens.specs.Written.{bytes, same, cases}
use Rattle.tokens.specs.Bytes.{between}
use Rattle.tokens.specs.Refusals.{not_here}
use Rattle.tokens.specs.Tokens.{Tok, Toks, stop, tok, toks}
use Rattle.meaning.specs.Refusals.{too_deep, not_defined, not_playable, no_room, across_edge}
use Rattle.meaning.specs.Meaning.{Answer, given, refused, answering, Meaning, meaning}

-- bytes of a text: the first, and the one behind the last
pub record Span : Type 0 where
  pub first : ℕ
  pub behind : ℕ

-- ---- the Pattern blocks, from the left, not overlapping

-- whole: a brace matches its first one
pub record Block : Type 0 where
  pub span : Span
  pub whole : Bool

-- what a token does
pub data Turn : Type 0 where
  -- so many braces are open behind it, and a block has begun at a place, or none has
  on : ℕ → Option ℕ → Turn
  -- a block ends with it
  ends : Span → Turn

-- a `}` before the place q: it matches the brace that was opened last, and outside all braces it matches nothing
unfoldable pub closing : ℕ → Option ℕ → ℕ → Turn
closing zero o q = on zero o
closing (suc d) none q = on d none
closing (suc zero) (some a) q = ends (record { first = a; behind = q })
closing (suc (suc d)) (some a) q = on (suc d) (some a)

-- the word Pattern at p: a block begins there outside all braces, unless one has begun
unfoldable pub beginning : ℕ → Option ℕ → ℕ → Turn
beginning zero none p = on zero (some p)
beginning zero (some a) p = on zero (some a)
beginning (suc d) o p = on (suc d) o

-- where d braces are open, and a block has begun or none has
unfoldable pub turn : ℕ → Option ℕ → Tok → Turn
turn d o t =
    cases (
    (same t.word (bytes "{"), on (suc d) o)
    ∷ (same t.word (bytes "}"), closing d o (t.at + 1))
    ∷ (same t.word (bytes "Pattern"), beginning d o t.at)
    ∷ []) (on d o)

unfoldable pub following : Turn → (ℕ → Option ℕ → List Block) → List Block
following (on d o) rest = rest d o
following (ends s) rest = record { span = s; whole = true } ∷ rest 0 none

-- without a brace that matches, a block goes to the text's end e
unfoldable pub blocks_from : ℕ → ℕ → Option ℕ → Toks → List Block
blocks_from e d none (stop n p) = []
blocks_from e d (some a) (stop n p) = record { span = record { first = a; behind = e }; whole = false } ∷ []
blocks_from e d o (tok t ts) = following (turn d o t) (λ d o. blocks_from e d o ts)

unfoldable pub blocks : List ℕ → List Block
blocks text = blocks_from (length text) 0 none (toks text 0)

-- a place in a block; the text's length belongs to a last one without matching brace
unfoldable pub in_block : ℕ → Block → Bool
in_block p b = leb b.span.first p && (ltb p b.span.behind || not b.whole && eqb p b.span.behind)

-- the block that a place lies in
unfoldable pub block_at : ℕ → List Block → Option Span
block_at p [] = none
block_at p (b ∷ bs) = elim (in_block p b) [ true ↦ some b.span | false ↦ block_at p bs ]

-- ---- an entry of the list of patterns, from its name to its `;`

-- behind the first `;`
unfoldable pub semicolon : Toks → Option ℕ
semicolon (stop n p) = none
semicolon (tok t ts) = elim (same t.word (bytes ";")) [ true ↦ some (t.at + 1) | false ↦ semicolon ts ]

unfoldable pub up_to : ℕ → Option ℕ → Option Span
up_to a none = none
up_to a (some q) = some (record { first = a; behind = q })

-- the name stands first
unfoldable pub entry : Toks → Option Span
entry (stop n p) = none
entry (tok t ts) = up_to t.at (semicolon ts)

-- ---- what a refusal overwrites, if anything

-- 4 to 14, 17 and 25 are those of a block
unfoldable pub of_block : ℕ → Bool
of_block n = (between not_here too_deep n || eqb n not_playable) || eqb n across_edge

unfoldable pub hurt : List ℕ → ℕ → ℕ → Option Span
hurt text n p =
    elim (of_block n) [
      | true ↦ block_at p (blocks text)
      | false ↦ elim (eqb n not_defined) [ true ↦ entry (toks text p) | false ↦ none ]
    ]

-- every byte from place a up to the one before e is a space, and all others stay
unfoldable pub spaced : ℕ → ℕ → List ℕ → List ℕ
spaced a e [] = []
spaced a zero (b ∷ s) = b ∷ s
spaced zero (suc e) (b ∷ s) = 32 ∷ spaced zero e s
spaced (suc a) (suc e) (b ∷ s) = b ∷ spaced a e s

unfoldable pub overwritten : Span → List ℕ → List ℕ
overwritten s text = spaced s.first s.behind text

-- ---- again and again

-- what the check makes of a text
pub data Verdict : Type 0 where
  accepted : Verdict
  hurt_in : Span → Verdict
  beyond_help : ℕ → ℕ → Verdict

unfoldable pub helped : ℕ → ℕ → Option Span → Verdict
helped n p none = beyond_help n p
helped n p (some s) = hurt_in s

unfoldable pub judged_as : List ℕ → Answer Meaning → Verdict
judged_as text (given m) = accepted
judged_as text (refused n p) = helped n p (hurt text n p)

unfoldable pub verdict : List ℕ → Verdict
verdict text = judged_as text (meaning text)

-- a saved text, and what was overwritten, in order of overwriting
pub record Saved : Type 0 where
  pub text : List ℕ
  pub spans : List Span

unfoldable pub first : Span → Saved → Saved
first s x = record { text = x.text; spans = s ∷ x.spans }

-- each turn makes a space of a byte that was none, so that as many turns as there are bytes are enough
unfoldable pub saving_f : ℕ → List ℕ → Answer Saved
saving_f zero text = refused not_here 0
saving_f (suc k) text =
    elim (verdict text) [
      | accepted ↦ given (record { text = text; spans = [] })
      | hurt_in s ↦ answering (saving_f k (overwritten s text)) λ x. given (first s x)
      | beyond_help n p ↦ refused n p
    ]

unfoldable pub saving : List ℕ → Answer Saved
saving text = saving_f (suc (length text)) text

-- ---- the service: the text where it stands, and two numbers for each span

unfoldable pub numbers_of : List Span → List ℕ
numbers_of [] = []
numbers_of (s ∷ l) = s.first ∷ s.behind ∷ numbers_of l

-- how many spans there are, the text, and the list of spans with their numbers at its front
pub record Restored : Type 0 where
  pub count : ℕ
  pub text : List ℕ
  pub spans : List ℕ

unfoldable pub restored : List ℕ → Saved → Answer Restored
restored spans x =
    let ns = numbers_of x.spans in
    elim (leb (length ns) (length spans)) [
      | false ↦ refused no_room 0
      | true ↦ given (record { count = length x.spans; text = x.text; spans = ns ++ drop (length ns) spans })
    ]

unfoldable pub save : List ℕ → List ℕ → Answer Restored
save text spans = answering (saving text) (restored spans)
