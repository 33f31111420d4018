-- What a reader sees, where it stands once it has passed what is next, and what it answers when it passes again and again.
use Rattle.std.specs.Prelude.{ℕ, zero, suc, ◌+◌, ◌-◌, List, [], ◌∷◌, length, take, drop, Option, Some, None, Result, Ok, Err}
use Rattle.std.specs.Borrow.{Bor}
use Rattle.tokens.specs.Tokens.{Toks, stop, tok, Next, found, nothing, refused, first, next_token}
use Rattle.columns.specs.Columns.{onward, position, capped}
use Rattle.columns.specs.declared.Position.{Position}
use Rattle.tokens.specs.declared.Refusal.{Refusal}
use Rattle.reader.specs.declared.Reader.{Reader}
use Rattle.reader.specs.declared.Seen.{Seen}

-- ---- lines and columns

-- the position of the place p, for a reader that stands before it with the position q: only the bytes between are gone over
abbrev pub later : List ℕ → ℕ → Position → ℕ → Position
later text at q p = capped (onward q (take (p - at) (drop at text)))

-- an answer, in which a token has its line and its column
unfoldable pub seen_in : List ℕ → ℕ → Position → Next → Result (Option Seen) Refusal
seen_in text at q (found p l) = Ok (Some (record { token = record { at = p; length = l }; position = later text at q p }))
seen_in text at q nothing = Ok None
seen_in text at q (refused n p) = Err (record { no = n; place = p })

abbrev pub seen : List ℕ → ℕ → Position → Result (Option Seen) Refusal
seen text at q = seen_in text at q (next_token text at)

-- the reader of a text at a place: there it is the position
abbrev pub standing : Bor (List ℕ) → ℕ → Reader
standing text at = record { text = text; at = at; position = position text.now at }

-- what such a reader sees: each token with the line and the column of its place
unfoldable pub placed : List ℕ → Next → Result (Option Seen) Refusal
placed text (found p l) = Ok (Some (record { token = record { at = p; length = l }; position = position text p }))
placed text nothing = Ok None
placed text (refused n p) = Err (record { no = n; place = p })

-- ---- passing

-- behind the token; where there is none, or a refusal, at the place itself
unfoldable pub behind : Next → ℕ → ℕ
behind (found p l) at = p + l
behind nothing at = at
behind (refused n p) at = at

abbrev pub behind_next : List ℕ → ℕ → ℕ
behind_next text at = behind (next_token text at) at

unfoldable pub position_behind : List ℕ → ℕ → Position → Next → Position
position_behind text at q (found p l) = later text at q (p + l)
position_behind text at q nothing = q
position_behind text at q (refused n p) = q

-- the reader behind what is next
abbrev pub passed_by : Reader → Next → Reader
passed_by r x = record { text = r.text; at = behind x r.at; position = position_behind r.text.now r.at r.position x }

abbrev pub passed : Reader → Reader
passed r = passed_by r (next_token r.text.now r.at)

-- the answers of n passes, one after the other, from a place on
unfoldable pub passes : ℕ → List ℕ → ℕ → List Next
passes zero text at = []
passes (suc n) text at = next_token text at ∷ passes n text (behind_next text at)

-- the tokens of a stream, each as it is answered
unfoldable pub answers : Toks → List Next
answers (stop n p) = []
answers (tok t ts) = found t.at (length t.word) ∷ answers ts

-- the answer behind the last of them: none, or a refusal
unfoldable pub ending : Toks → Next
ending (stop n p) = first (stop n p)
ending (tok t ts) = ending ts
