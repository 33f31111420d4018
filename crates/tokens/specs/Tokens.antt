-- Bytes to tokens, and the faults 1, 2 and 3 (document 01, "Bytes and tokens").
use Rattle.std.specs.Prelude.{ℕ, suc, Bool, true, false, ◌&&◌, List, [], ◌∷◌, length, drop, leb, eqb}
use Rattle.std.proofs.Math.Option.{Option, none, some}
use Rattle.tokens.specs.Written.{starts, cases}
use Rattle.tokens.specs.Bytes.{allowed, blank, wordy}
use Rattle.tokens.specs.Refusals.{text_most, too_long, bad_byte, open_comment, not_here}

-- a token: its place in the whole text and its bytes
pub record Tok : Type 0 where
  pub at : ℕ
  pub word : List ℕ

-- The tokens from some place on. They stop with a number and a place: 4 and the text's length where the text ends, or the
-- fault that reading meets, 2 or 3.
pub data Toks : Type 0 where
  stop : ℕ → ℕ → Toks
  tok : Tok → Toks → Toks

-- where reading stands: outside comments (`inword`: in a word that has been given); in `//`; at the `*` of a `/*`, or behind it,
-- opened at the place; at the `/` of a `*/`
pub data Mode : Type 0 where
  plain inword line closing : Mode
  opened block : ℕ → Mode

-- what a byte does: reading goes on in a mode; or a token begins here, and reading goes on; or it is not allowed
pub data Act : Type 0 where
  go : Mode → Act
  token : List ℕ → Mode → Act
  bad : Act

-- the longest run of word bytes at the front
unfoldable pub run : List ℕ → List ℕ
run [] = []
run (b ∷ s) = elim (wordy b) [ true ↦ b ∷ run s | false ↦ [] ]

-- outside comments, the byte b at place p with s behind it; w: does it stand right behind a word's byte
unfoldable pub outside : Bool → ℕ → ℕ → List ℕ → Act
outside w p b s =
    cases (
    (wordy b && w, go inword)
    ∷ (wordy b, token (b ∷ run s) inword)
    ∷ (blank b, go plain)
    ∷ (eqb b 47 && starts 47 s, go line)
    ∷ (eqb b 47 && starts 42 s, go (opened p))
    ∷ []) (token (b ∷ []) plain)

-- an allowed byte in each mode: only LF ends `//`, and `*/` is looked for behind the two bytes that open
unfoldable pub in_mode : Mode → ℕ → ℕ → List ℕ → Act
in_mode plain p b s = outside false p b s
in_mode inword p b s = outside true p b s
in_mode line p b s = cases ((eqb b 10, go plain) ∷ []) (go line)
in_mode (opened q) p b s = go (block q)
in_mode (block q) p b s = cases ((eqb b 42 && starts 47 s, go closing) ∷ []) (go (block q))
in_mode closing p b s = go plain

unfoldable pub act : Mode → ℕ → ℕ → List ℕ → Act
act m p b s = cases ((allowed b, in_mode m p b s) ∷ []) bad

-- where the text ends, at place p
unfoldable pub ended : Mode → ℕ → Toks
ended plain p = stop not_here p
ended inword p = stop not_here p
ended line p = stop not_here p
ended closing p = stop not_here p
ended (opened q) p = stop open_comment q
ended (block q) p = stop open_comment q

-- `on`: the tokens behind the byte at place p, by mode
unfoldable pub done : Act → ℕ → (Mode → Toks) → Toks
done (go m) p on = on m
done (token w m) p on = tok (record { at = p; word = w }) (on m)
done bad p on = stop bad_byte p

unfoldable pub lex : Mode → ℕ → List ℕ → Toks
lex m p [] = ended m p
lex m p (b ∷ s) = done (act m p b s) p (λ m'. lex m' (suc p) s)

-- the tokens of a text from a place on, as if reading began there
unfoldable pub toks : List ℕ → ℕ → Toks
toks text at = lex plain at (drop at text)

-- how many tokens there are
unfoldable pub left : Toks → ℕ
left (stop n p) = 0
left (tok t ts) = suc (left ts)

-- ---- the service: the next token from a place

pub data Next : Type 0 where
  found : ℕ → ℕ → Next
  nothing : Next
  refused : ℕ → ℕ → Next

unfoldable pub first : Toks → Next
first (tok t ts) = found t.at (length t.word)
first (stop n p) = elim (eqb n not_here) [ true ↦ nothing | false ↦ refused n p ]

unfoldable pub next_token : List ℕ → ℕ → Next
next_token text at = elim (leb (length text) text_most) [ true ↦ first (toks text at) | false ↦ refused too_long 0 ]

-- ---- what is wrong with a whole text as bytes: number and place

unfoldable pub fault_in : Toks → Option (ℕ × ℕ)
fault_in (tok t ts) = fault_in ts
fault_in (stop n p) = elim (eqb n not_here) [ true ↦ none | false ↦ some (n, p) ]

unfoldable pub fault_of : List ℕ → Option (ℕ × ℕ)
fault_of text = elim (leb (length text) text_most) [ true ↦ fault_in (toks text 0) | false ↦ some (too_long, 0) ]
