-- Samples, computed from the definitions: what some raw texts in chunks answer, and the store then.
use Prim.Native.Nat.{ℕ}
use mathlib.Core.Path.{◌≡◌, refl}
use mathlib.Core.List.{List, [], ◌∷◌, ◌++◌, map}
use lib.ListN.{replicate}
use Rattle.tokens.specs.Written.{bytes, starts, cases}
use Rattle.tokens.specs.Bytes.{between, blank, allowed}
use Rattle.intake.specs.declared.Intake.{Intake}
use Rattle.intake.specs.Intake.{Progress, open_at, refused_with, closed_at, room_of, mark_with, waiting, stepped, outside, behind_slash, in_line, in_block, behind_star, step, lacks, refusal_of, refusal, behind, takes, written, after_taking, chunked, last_bytes, closing, after_closing, closed}
use Rattle.intake.specs.Calls.{calls, intake}

-- so many zeros
abbrev empty : ℕ → List ℕ
empty n = replicate n 0

-- chunks, a store, the answer, and the store then
texts : List (List (List ℕ) × List ℕ × Progress × List ℕ)
texts =
    ([], empty 2, closed_at 0, empty 2)
    ∷ ([] ∷ [] ∷ [], [], closed_at 0, [])
    ∷ (bytes "  " ∷ [], empty 2, closed_at 1, bytes " " ++ empty 1)
    ∷ (bytes "a/b" ∷ [], empty 3, closed_at 3, bytes "a/b")
    ∷ ((bytes "a//x" ++ 10 ∷ bytes "b") ∷ [], empty 4, closed_at 3, 97 ∷ 10 ∷ 98 ∷ 0 ∷ [])
    ∷ (bytes "/*/" ∷ [], empty 3, refused_with 3 0, empty 3)
    ∷ (bytes "/**/" ∷ [], empty 3, closed_at 1, bytes " " ++ empty 2)
    ∷ (bytes "/***/a" ∷ [], empty 3, closed_at 2, bytes " a" ++ empty 1)
    -- a `/` at the close, alone and behind a run
    ∷ (bytes "a/" ∷ [], empty 3, closed_at 2, bytes "a/" ++ empty 1)
    ∷ (bytes "a  /" ∷ [], empty 3, closed_at 3, bytes "a /")
    ∷ (bytes "a/ /b" ∷ [], empty 5, closed_at 5, bytes "a/ /b")
    -- the mark, the `/` and the byte come together
    ∷ (bytes "a /b" ∷ [], empty 3, refused_with 20 3, empty 3)
    ∷ (bytes "a /b" ∷ [], empty 4, closed_at 4, bytes "a /b")
    ∷ (bytes "a /" ∷ bytes "b" ∷ [], empty 3, refused_with 20 3, bytes "a" ++ empty 2)
    -- no room at the close: the place is the raw length
    ∷ (bytes "a//" ∷ [], empty 1, refused_with 20 3, bytes "a")
    -- comments that are cut where they open and close
    ∷ (bytes "x/" ∷ bytes "*y*/z" ∷ [], empty 3, closed_at 3, bytes "x z")
    ∷ (bytes "x/*y*" ∷ bytes "/z" ∷ [], empty 3, closed_at 3, bytes "x z")
    ∷ (bytes "x/*y*" ∷ [] ∷ bytes "*/" ∷ bytes "z" ∷ [], empty 3, closed_at 3, bytes "x z")
    -- a run whose LF stands in a comment
    ∷ ((bytes "a /*" ++ 10 ∷ bytes "*/ b") ∷ [], empty 3, closed_at 3, 97 ∷ 10 ∷ 98 ∷ [])
    -- 2 is looked at before 20, and 3 before 20
    ∷ ((127 ∷ []) ∷ [], [], refused_with 2 0, [])
    ∷ (bytes " /*" ∷ [], [], refused_with 3 1, [])
    -- behind a refusal nothing is written
    ∷ (bytes "a" ∷ (98 ∷ 127 ∷ []) ∷ bytes "c" ∷ [], empty 3, refused_with 2 2, bytes "a" ++ empty 2)
    ∷ []

texts_taken : map (λ (s : List (List ℕ) × List ℕ × Progress × List ℕ). intake s.0 s.1) texts
    ≡ map (λ (s : List (List ℕ) × List ℕ × Progress × List ℕ). (s.2, s.3)) texts
unfolding texts bytes starts cases between blank allowed room_of mark_with waiting stepped outside behind_slash in_line in_block behind_star step lacks refusal_of refusal behind takes written after_taking chunked last_bytes closing after_closing closed calls intake
texts_taken = refl

-- in a `//`: the last byte within the limit, and the byte past it
taken : ℕ → Intake
taken n = record { taken = n; stored = 0; run = 32; mode = 2; opening = 0 }

limit_met : (chunked (open_at (taken 1_048_575)) (bytes "a") [] ≡ (open_at (taken 1_048_576), []))
    × (chunked (open_at (taken 1_048_575)) (bytes "ab") [] ≡ (refused_with 1 1_048_576, []))
unfolding taken bytes cases between blank allowed room_of mark_with waiting stepped in_line step lacks refusal_of refusal behind takes written after_taking chunked
limit_met = (refl, refl)
