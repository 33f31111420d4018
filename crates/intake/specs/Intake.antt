-- The intake (request 3), byte by byte: what each byte of the raw text adds to the store, and what is refused.
use Rattle.std.specs.Prelude.{ℕ, suc, ◌+◌, min, Bool, true, false, not, ◌&&◌, ◌||◌, List, [], ◌∷◌, ◌++◌, length, take, drop, eqb, leb, ltb, Result, Ok, Err}
use Rattle.tokens.specs.Written.{cases}
use Rattle.tokens.specs.Bytes.{allowed, blank}
use Rattle.tokens.specs.Refusals.{text_most, too_long, bad_byte, open_comment}
use Rattle.intake.specs.declared.Intake.{Intake}
use Rattle.tokens.specs.declared.Refusal.{Refusal}
use Rattle.intake.specs.declared.Stage.{Stage}
use Rattle.intake.specs.declared.Stage.TheVariants.{Open, Closed}

-- ---- bounds and the refusal

abbrev pub raw_most : ℕ
raw_most = 1_048_576

-- the store lacks room
abbrev pub no_store : ℕ
no_store = 20

-- of a store the first 65,536 bytes at most are filled
unfoldable pub room_of : List ℕ → ℕ
room_of store = min text_most (length store)

-- ---- where the intake stands; any other number stands for outside comments

abbrev pub is_plain : ℕ
is_plain = 0

-- behind a `/` that might open a comment
abbrev pub is_slash : ℕ
is_slash = 1

abbrev pub is_line : ℕ
is_line = 2

abbrev pub is_block : ℕ
is_block = 3

-- in a `/*`, behind a `*` that might close it
abbrev pub is_star : ℕ
is_star = 4

-- ---- runs

-- a run's mark with one more byte of it, which is not stored yet; 0 is none
unfoldable pub mark_with : ℕ → ℕ → ℕ
mark_with run b = elim (eqb b 10 || eqb run 10) [ true ↦ 10 | false ↦ 32 ]

unfoldable pub waiting : ℕ → List ℕ
waiting run = elim (eqb run 0) [ true ↦ [] | false ↦ run ∷ [] ]

-- ---- one byte

-- what it adds to the store, and where the intake stands behind it
pub record Step : Type 0 where
  pub intake : Intake
  pub adds : List ℕ

unfoldable pub stepped : Intake → List ℕ → (run mode opening : ℕ) → Step
stepped x adds run mode opening = record {
  intake = record { taken = suc x.taken; stored = x.stored + length adds; run = run; mode = mode; opening = opening };
  adds = adds;
}

unfoldable pub outside : Intake → ℕ → Step
outside x b =
    cases (
    (eqb b 47, stepped x [] x.run is_slash x.taken)
    ∷ (blank b, stepped x [] (mark_with x.run b) is_plain 0)
    ∷ []) (stepped x (waiting x.run ++ b ∷ []) 0 is_plain 0)

unfoldable pub behind_slash : Intake → ℕ → Step
behind_slash x b =
    cases (
    (eqb b 47, stepped x [] (mark_with x.run b) is_line 0)
    ∷ (eqb b 42, stepped x [] (mark_with x.run b) is_block x.opening)
    ∷ (blank b, stepped x (waiting x.run ++ 47 ∷ []) (mark_with 0 b) is_plain 0)
    ∷ []) (stepped x (waiting x.run ++ 47 ∷ b ∷ []) 0 is_plain 0)

unfoldable pub in_line : Intake → ℕ → Step
in_line x b = stepped x [] (mark_with x.run b) (cases ((eqb b 10, is_plain) ∷ []) is_line) 0

unfoldable pub in_block : Intake → ℕ → Step
in_block x b = stepped x [] (mark_with x.run b) (cases ((eqb b 42, is_star) ∷ []) is_block) x.opening

unfoldable pub behind_star : Intake → ℕ → Step
behind_star x b = cases ((eqb b 47, stepped x [] (mark_with x.run b) is_plain 0) ∷ []) (in_block x b)

unfoldable pub step : Intake → ℕ → Step
step x b =
    cases (
    (eqb x.mode is_slash, behind_slash x b)
    ∷ (eqb x.mode is_line, in_line x b)
    ∷ (eqb x.mode is_block, in_block x b)
    ∷ (eqb x.mode is_star, behind_star x b)
    ∷ []) (outside x b)

-- does a store with so much room lack room for n bytes more behind those stored? Never for none
unfoldable pub lacks : (room stored n : ℕ) → Bool
lacks room stored n = not (eqb n 0) && ltb room (stored + n)

-- the refusal of a byte that adds n bytes, 0 for none: past the limit, not allowed, no room for what it adds
unfoldable pub refusal_of : (room : ℕ) → Intake → (b n : ℕ) → ℕ
refusal_of room x b n =
    cases (
    (leb raw_most x.taken, too_long)
    ∷ (not (allowed b), bad_byte)
    ∷ (lacks room x.stored n, no_store)
    ∷ []) 0

unfoldable pub refusal : ℕ → Intake → ℕ → ℕ
refusal room x b = refusal_of room x b (length (step x b).adds)

-- ---- some bytes

-- all that they add, and where the intake stands; or the first refusal, at its byte's place
pub data Taken : Type 0 where
  on : Intake → List ℕ → Taken
  refused : ℕ → ℕ → Taken

unfoldable pub behind : List ℕ → Taken → Taken
behind adds (on x more) = on x (adds ++ more)
behind adds (refused n p) = refused n p

unfoldable pub takes : ℕ → Intake → List ℕ → Taken
takes room x [] = on x []
takes room x (b ∷ s) =
    elim (eqb (refusal room x b) 0) [
      | true ↦ behind (step x b).adds (takes room (step x b).intake s)
      | false ↦ refused (refusal room x b) x.taken
    ]

-- ---- the calls: each is a function of what the last one answered, of the bytes and of the store

-- the code's `Progress`, and what it can be
abbrev pub Progress : Type 0
Progress = Result Stage Refusal

abbrev pub open_at : Intake → Progress
open_at x = Ok (Open x)

abbrev pub refused_with : ℕ → ℕ → Progress
refused_with n p = Err (record { no = n; place = p })

abbrev pub closed_at : ℕ → Progress
closed_at n = Ok (Closed n)

-- what the close answered
abbrev pub ended : Result ℕ Refusal → Progress
ended (Ok n) = closed_at n
ended (Err r) = Err r

-- the bytes xs at a place; the rest stays
unfoldable pub written : List ℕ → ℕ → List ℕ → List ℕ
written store at xs = take at store ++ (xs ++ drop (at + length xs) store)

unfoldable pub after_taking : List ℕ → ℕ → Taken → Progress × List ℕ
after_taking store at (on x adds) = (open_at x, written store at adds)
after_taking store at (refused n p) = (refused_with n p, store)

-- THE PROMISE of a chunk: where the intake is refused or closed, the same answer again, and nothing is written
unfoldable pub chunked : Progress → List ℕ → List ℕ → Progress × List ℕ
chunked (Ok (Open x)) chunk store = after_taking store x.stored (takes (room_of store) x chunk)
chunked (Err r) chunk store = (Err r, store)
chunked (Ok (Closed n)) chunk store = (closed_at n, store)

-- what still waits at the close
unfoldable pub last_bytes : Intake → List ℕ
last_bytes x = waiting x.run ++ elim (eqb x.mode is_slash) [ true ↦ 47 ∷ [] | false ↦ [] ]

unfoldable pub closing : ℕ → Intake → Taken
closing room x =
    cases (
    (eqb x.mode is_block || eqb x.mode is_star, refused open_comment x.opening)
    ∷ (lacks room x.stored (length (last_bytes x)), refused no_store x.taken)
    ∷ []) (on x (last_bytes x))

unfoldable pub after_closing : List ℕ → ℕ → Taken → Progress × List ℕ
after_closing store at (on x adds) = (closed_at (at + length adds), written store at adds)
after_closing store at (refused n p) = (refused_with n p, store)

-- THE PROMISE of the close
unfoldable pub closed : Progress → List ℕ → Progress × List ℕ
closed (Ok (Open x)) store = after_closing store x.stored (closing (room_of store) x)
closed (Err r) store = (Err r, store)
closed (Ok (Closed n)) store = (closed_at n, store)

-- where every intake begins
abbrev pub begun : Progress
begun = open_at (record { taken = 0; stored = 0; run = 0; mode = is_plain; opening = 0 })
