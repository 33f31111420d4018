-- DATA, and what it is given to: assignments and arguments (document 01, "Statements", "Shift").
use Rattle.std.specs.Prelude.{ℕ, zero, suc, Bool, true, false, not, ◌||◌, List, [], ◌∷◌, ◌++◌, length, leb, eqb}
use Rattle.std.proofs.Math.Option.{Option, none, some}
use Rattle.tokens.specs.Refusals.{not_here}
use Rattle.tokens.specs.Tokens.{Tok}
use Rattle.meaning.specs.Refusals.{bad_data, bad_argument}
use Rattle.meaning.specs.Bounds.{repeat_most, argument_most}
use Rattle.meaning.specs.Lists.{meets, inside}
use Rattle.meaning.specs.Reader.{Reader, refuse, ◌>>=◌, ◌>>◌, give, refuse_if, any, due, one_of, choose, is_word, word, until, closed}
use Rattle.meaning.specs.Names.{old_name, number, within}
use Rattle.meaning.specs.Signals.{Names}
use Rattle.meaning.specs.Timing.{all_chars}
use Rattle.meaning.specs.Body.{Assigns, Args, mark, Body, outside, shifting, supplied}

-- the characters of a word
unfoldable pub chars_of : Tok → Reader (List ℕ)
chars_of t = do
  refuse_if (not (all_chars t.word)) bad_data t.at
  give t.word

-- all the characters, n times
unfoldable pub stretched : ℕ → List ℕ → List ℕ
stretched zero cs = []
stretched (suc n) cs = cs ++ stretched n cs

-- behind `\`: a word of `r` and a number
unfoldable pub repeat_of : List ℕ → Option (List ℕ)
repeat_of [] = none
repeat_of (c ∷ s) = elim (eqb c 114) [ true ↦ some s | false ↦ none ]

unfoldable pub times : Tok → Option (List ℕ) → Reader ℕ
times t none ts = refuse not_here t.at
times t (some s) ts = within 1 repeat_most (number s) t.at ts

-- then the word that is repeated
unfoldable pub repeated : Reader (List ℕ)
repeated = do
  t ← any
  n ← times t (repeat_of t.word)
  u ← word
  cs ← chars_of u
  give (stretched n cs)

-- a word, `#` where it may stand (m), or a repeat
unfoldable pub piece : Bool → Tok → Reader (List ℕ)
piece m t ts =
    elim (is_word t.word) [
      | true ↦ chars_of t ts
      | false ↦ one_of (
          ("#", λ p. do refuse_if (not m) bad_argument p; give (mark ∷ []))
          ∷ ("\\", λ p. repeated)
          ∷ []) t ts
    ]

-- a piece behind the characters cs
unfoldable pub part : Bool → List ℕ → Reader (List ℕ)
part m cs = do
  t ← any
  ds ← piece m t
  give (cs ++ ds)

-- DATA and its `;`: the characters, and the `;`'s place
unfoldable pub data_read : Bool → Reader (List ℕ × ℕ)
data_read m = closed ";" (part m) []

-- ---- assignments in V and C

unfoldable pub paired : List ℕ → List ℕ → Assigns
paired [] cs = []
paired (s ∷ ss) [] = []
paired (s ∷ ss) (c ∷ cs) = (s, c) ∷ paired ss cs

unfoldable pub assigned : Assigns → List ℕ
assigned [] = []
assigned (x ∷ xs) = x.0 ∷ assigned xs

-- `NAME = DATA;` behind other assignments of the statement
unfoldable pub assign : Names → Bool → Assigns → Reader Assigns
assign ns m xs = do
  x ← old_name ns
  refuse_if (meets x.1 (assigned xs)) bad_data x.0.at
  due "="
  d ← data_read m
  refuse_if (not (eqb (length d.0) (length x.1))) bad_data d.1
  give (xs ++ paired x.1 d.0)

unfoldable pub assigns : Names → Bool → Reader Assigns
assigns ns m = do
  due "{"
  until "}" (assign ns m) []

-- ---- arguments of a body

unfoldable pub is_one : List ℕ → Bool
is_one ss = eqb (length ss) 1

unfoldable pub arg_for : List ℕ → List ℕ → Args
arg_for [] cs = []
arg_for (s ∷ ss) cs = (s, cs) ∷ arg_for ss cs

-- `NAME = DATA;` behind other arguments
unfoldable pub argument : Names → Body → Args → Reader Args
argument ns b xs = do
  x ← old_name ns
  refuse_if (meets x.1 (supplied xs)) bad_data x.0.at
  refuse_if (not (is_one x.1) || not (inside x.1 (outside b ++ shifting b))) bad_argument x.0.at
  due "="
  d ← data_read false
  refuse_if (leb (suc argument_most) (length d.0)) bad_data d.1
  give (xs ++ arg_for x.1 d.0)

-- what follows a used name: `;`, or arguments in braces; with the place of the statement's last token
unfoldable pub arguments : Names → Body → Reader (Args × ℕ)
arguments ns b =
    choose (
    (";", λ p. give ([], p))
    ∷ ("{", λ p. closed "}" (argument ns b) [])
    ∷ [])
