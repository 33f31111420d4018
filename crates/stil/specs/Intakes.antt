-- The intake (request 3) for callers in C: what it answered last is a state of lent numbers. A call decodes them, does what the intake does, and encodes the answer.
use Rattle.std.specs.Prelude.{ℕ, ◌+◌, ◌*◌, ◌%◌, ◌<◌, ◌≡◌, true, false, List, [], ◌∷◌, length, get_or, eqb, leb, Ok, Err}
use Rattle.tokens.specs.Written.{cases}
use Rattle.intake.specs.declared.Stage.TheVariants.{Open, Closed}
use Rattle.intake.specs.Intake.{raw_most, Progress, open_at, refused_with, closed_at, chunked, closed}
use Rattle.meaning.specs.Refusals.{no_room}
use Rattle.meaning.specs.Meaning.{Answer, given, refused}
use Rattle.texts.specs.Told.{packed_refusal}
use Rattle.verdicts.specs.Buffers.{afterwards}
use Rattle.stil.specs.Interface.{fronted}

-- ---- the state

-- the numbers that tell it; what stands behind them stays
abbrev pub state_least : ℕ
state_least = 6

-- the first of them; any other counts as refused
abbrev pub is_open : ℕ
is_open = 0

abbrev pub is_refused : ℕ
is_refused = 1

abbrev pub is_closed : ℕ
is_closed = 2

-- run, mode and a refusal's number are bytes: a number that fits none is taken modulo 256
abbrev pub byte_of : ℕ → ℕ
byte_of n = n % 256

-- open: taken, stored, run, mode, opening; refused: number, place; closed: length
unfoldable pub progress_is : (kind a b c d e : ℕ) → Progress
progress_is kind a b c d e =
    cases (
    (eqb kind is_open, open_at (record { taken = a; stored = b; run = byte_of c; mode = byte_of d; opening = e }))
    ∷ (eqb kind is_closed, closed_at a)
    ∷ []) (refused_with (byte_of a) b)

abbrev pub progress_of : List ℕ → Progress
progress_of s = progress_is (get_or s 0 0) (get_or s 1 0) (get_or s 2 0) (get_or s 3 0) (get_or s 4 0) (get_or s 5 0)

-- the same numbers again; one that has no meaning is 0
unfoldable pub numbers_of : Progress → List ℕ
numbers_of (Ok (Open x)) = is_open ∷ x.taken ∷ x.stored ∷ x.run ∷ x.mode ∷ x.opening ∷ []
numbers_of (Err r) = is_refused ∷ r.no ∷ r.place ∷ 0 ∷ 0 ∷ 0 ∷ []
numbers_of (Ok (Closed n)) = is_closed ∷ n ∷ 0 ∷ 0 ∷ 0 ∷ 0 ∷ []

-- at the front of a state
abbrev pub encoded : Progress → List ℕ → List ℕ
encoded p state = fronted (numbers_of p) state

-- what the code can hold: its bytes are bytes
unfoldable pub Fits : Progress → Type 0
Fits (Ok (Open x)) = (x.run < 256) × (x.mode < 256)
Fits (Err r) = r.no < 256
Fits (Ok (Closed n)) = Unit {0}

-- ---- a call

-- 19 where a state has less than its numbers
unfoldable pub called_in : (Progress → List ℕ → Progress × List ℕ) → (state store : List ℕ) → Answer (Progress × List ℕ)
called_in call state store = elim (leb state_least (length state)) [ true ↦ given (call (progress_of state) store) | false ↦ refused no_room 0 ]

-- a refusal as one number: 32 times its place in the raw text and its number. Only a state that no call gave has a place past the longest raw text; it is not told
abbrev pub raw_refusal : ℕ → ℕ → ℕ
raw_refusal n p = elim (leb p raw_most) [ true ↦ p * 32 + n | false ↦ n ]

-- the returned number: 0 where the intake is open or closed, else the refusal
unfoldable pub told_by : Progress → ℕ
told_by (Ok (Open x)) = 0
told_by (Err r) = raw_refusal r.no r.place
told_by (Ok (Closed n)) = 0

unfoldable pub told_in : Answer (Progress × List ℕ) → ℕ
told_in (given x) = told_by x.0
told_in (refused n p) = packed_refusal n p

-- an answer p told: the number r, and the state behind
pub record Tells (p : Progress) (state : List ℕ) (r : ℕ) (state' : List ℕ) : Type 0 where
  pub number : r ≡ told_by p
  pub state_is : state' ≡ encoded p state

-- THE PROMISE of a call: the number r, the whole state and the whole store behind
pub record Carries (call : Progress → List ℕ → Progress × List ℕ) (state store : List ℕ) (r : ℕ) (state' store' : List ℕ) : Type 0 where
  pub number : r ≡ told_in (called_in call state store)
  pub state_is : state' ≡ afterwards (λ x. encoded x.0 state) (called_in call state store) state
  pub store_is : store' ≡ afterwards (λ x. x.1) (called_in call state store) store

-- ---- calls one after the other, each lent the state and the store as the last one left them

unfoldable pub calls_in : List ℕ → List (List ℕ) → List ℕ → List ℕ × List ℕ
calls_in state [] store = (state, store)
calls_in state (c ∷ cs) store = let x = chunked (progress_of state) c store in calls_in (encoded x.0 state) cs x.1

-- and the close
unfoldable pub intake_in : List ℕ → List (List ℕ) → List ℕ → List ℕ × List ℕ
intake_in state cs store =
    let x = calls_in state cs store in
    let y = closed (progress_of x.0) x.1 in
    (encoded y.0 x.0, y.1)
