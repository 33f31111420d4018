-- The code's answers, case by case, as the definitions' answers: document 01's numbers and values.
use Rattle.std.specs.Prelude.{ℕ, ◌<◌, ◌≡◌, List, true, false, length, get_or, Option as Maybe, Some, None, Result, Ok, Err}
use Rattle.std.proofs.Common.{ControlFlow, Continue, Break}
use Rattle.std.proofs.Math.Option.{Option, none, some}
use Rattle.tokens.specs.Bytes.{allowed, blank}
use Rattle.tokens.specs.Tokens.{Toks, toks, Next, found, nothing, refused, first}
use Rattle.tokens.specs.declared.Token.{Token}
use Rattle.tokens.specs.declared.Refusal.{Refusal}

-- the code's `Step` and `Lead`
abbrev pub Step : Type 0
Step = Result (Maybe Token) Refusal

abbrev pub Lead : Type 0
Lead = ControlFlow Step ℕ

abbrev pub next_of : Step → Next
next_of (Ok (Some t)) = found t.at t.length
next_of (Ok None) = nothing
next_of (Err r) = refused r.no r.place

abbrev pub fault_told : Result Unit Refusal → Option (ℕ × ℕ)
fault_told (Ok u) = none
fault_told (Err r) = some (r.no, r.place)

-- the next token, where reading is led on to a place or to an answer
abbrev pub led_to : List ℕ → Lead → Next
led_to text (Continue i) = first (toks text i)
led_to text (Break s) = next_of s

-- on is further on
abbrev pub Ahead : ℕ → Lead → Type 0
Ahead at (Continue i) = at < i
Ahead at (Break s) = Unit {0}

-- at the place `at` stands the byte b, which is allowed and no blank, and no `/`: a token begins there
pub record TokenAt (text : List ℕ) (at b : ℕ) : Type 0 where
  pub inside : at < length text
  pub byte : b ≡ get_or text at 0
  pub good : allowed b ≡ true
  pub mark : blank b ≡ false
  pub alone : b ≡ 47 → ⊥

-- from the place `at`, where the tokens ts stand, reading is led to r
pub record Leads (text : List ℕ) (at : ℕ) (ts : Toks) (r : Lead) : Type 0 where
  pub led : first ts ≡ led_to text r
  pub ahead : Ahead at r
