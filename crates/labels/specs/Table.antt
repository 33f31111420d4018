-- The table of labels that the code keeps: where each stands in the text, and chains of those whose words have the same hash.
use Rattle.std.specs.Prelude.{ℕ, zero, suc, ◌+◌, ◌*◌, ◌%◌, ◌<◌, ◌≤◌, ◌≡◌, Bool, true, false, List, [], ◌∷◌, ◌++◌, eqb, length, get_or, Option as Maybe, Some, None, Result, Ok, Err}
use Rattle.std.proofs.Math.Option.{Option, none, some}
use Rattle.tokens.specs.Written.{same}
use Rattle.tokens.specs.Tokens.{Tok, toks}
use Rattle.words.specs.Cursor.{span}
use Rattle.meaning.specs.Labels.{Here, begins, due, within, labelled, labels, used_by, repeated, used_twice}

-- each label has a word before it, so that there are at most half as many as bytes
abbrev pub labels_most : ℕ
labels_most = 32_768

abbrev pub hashes : ℕ
hashes = 4096

-- ---- words

-- of a label: its place and that of its last byte, two numbers below 65,536
abbrev pub word_of : List ℕ → List ℕ → ℕ → List ℕ
word_of text places k = span text (get_or places (k * 2) 0) (get_or places (k * 2 + 1) 0 + 1)

-- of the first n labels, the latest first
unfoldable pub words_of : List ℕ → List ℕ → ℕ → List (List ℕ)
words_of text places zero = []
words_of text places (suc n) = word_of text places n ∷ words_of text places n

-- the number of the latest that is w
unfoldable pub number_of : List (List ℕ) → List ℕ → Option ℕ
number_of [] w = none
number_of (v ∷ vs) w = elim (same v w) [ true ↦ some (length vs) | false ↦ number_of vs w ]

-- ---- chains

unfoldable pub hash_from : ℕ → List ℕ → ℕ
hash_from h [] = h
hash_from h (b ∷ s) = hash_from ((h * 31 + b) % hashes) s

abbrev pub hashed : List ℕ → ℕ
hashed w = hash_from 0 w

-- 1 and the number of the latest whose word has the hash h; 0 where none has
unfoldable pub latest : ℕ → List (List ℕ) → ℕ
latest h [] = 0
latest h (v ∷ vs) = elim (eqb (hashed v) h) [ true ↦ suc (length vs) | false ↦ latest h vs ]

-- THE INVARIANT of the table: `heads` has the latest label of each hash, and `nexts` for each label the latest before it with the same hash
pub record Held (text places heads nexts : List ℕ) (count : ℕ) : Type 0 where
  pub places_long : length places ≡ 2 * labels_most
  pub heads_long : length heads ≡ hashes
  pub nexts_long : length nexts ≡ labels_most
  pub few : count ≤ labels_most
  pub newest : (h : ℕ) → h < hashes → get_or heads h 0 ≡ latest h (words_of text places count)
  pub older : (k : ℕ) → k < count → get_or nexts k 0 ≡ latest (hashed (word_of text places k)) (words_of text places k)

-- THE PROMISE of one label more, from a place to an end
pub record Added (text : List ℕ) (at end : ℕ) (places : List ℕ) (count : ℕ) (places' heads' nexts' : List ℕ) : Type 0 where
  pub held : Held text places' heads' nexts' (count + 1)
  pub words : words_of text places' (count + 1) ≡ span text at end ∷ words_of text places count

-- ---- the pass over the tokens

-- what the code's number says of a token
abbrev pub here_by : Bool → Bool → Here
here_by true d = begins
here_by false true = due
here_by false false = within

abbrev pub here_of : ℕ → Here
here_of n = here_by (eqb n 1) (eqb n 2)

-- is a label due, as a number
abbrev pub dues : Here → ℕ
dues begins = 0
dues due = 1
dues within = 0

-- the words that are used: those of the labels, and the burst's name
abbrev pub used : List ℕ → List ℕ → List ℕ → ℕ → List (List ℕ)
used text burst places count = words_of text places count ++ burst ∷ []

-- behind a token t that is no label that is used already: a table that has it too if it is a label
pub record Notes (text burst : List ℕ) (h : Here) (t : Tok) (places : List ℕ) (count : ℕ) (places' heads' nexts' : List ℕ) (count' : ℕ) : Type 0 where
  pub on : (l : List Tok) → repeated (used text burst places count) (labelled h t l) ≡ repeated (used text burst places' count') l
  pub words : (l : List Tok) → used_by (words_of text places count) (labelled h t l) ≡ used_by (words_of text places' count') l
  pub held : Held text places' heads' nexts' count'
  pub few : count' ≤ count + dues h

-- THE PROMISE for one token t: it is a label that is used already, or reading goes on with a table of so many labels
abbrev pub Noted : List ℕ → List ℕ → Here → Tok → List ℕ → ℕ → List ℕ → List ℕ → List ℕ → Maybe ℕ → Type 0
Noted text burst h t places count places' heads' nexts' None = (l : List Tok) → repeated (used text burst places count) (labelled h t l) ≡ some t.at
Noted text burst h t places count places' heads' nexts' (Some count') = Notes text burst h t places count places' heads' nexts' count'

-- no label is used twice, and the table has all labels
pub record Gathers (text : List ℕ) (from : ℕ) (burst places heads nexts : List ℕ) (count : ℕ) : Type 0 where
  pub once : used_twice burst (toks text from) ≡ none
  pub held : Held text places heads nexts count
  pub words : words_of text places count ≡ used_by [] (labels (toks text from))

-- THE PROMISE of the whole pass: the first label that is used already, if there is one, at its place; where there is none, the table has all labels
abbrev pub Gathered : List ℕ → ℕ → List ℕ → List ℕ → List ℕ → List ℕ → Result ℕ ℕ → Type 0
Gathered text from burst places heads nexts (Ok count) = Gathers text from burst places heads nexts count
Gathered text from burst places heads nexts (Err p) = used_twice burst (toks text from) ≡ some p
