-- Samples, computed from the definitions: the next token at some places, and the fault of some texts.
use Prim.Native.Nat.{ℕ}
use mathlib.Core.Path.{◌≡◌, refl}
use mathlib.Core.Option.{Option, none, some}
use mathlib.Core.List.{List, [], ◌∷◌, ◌++◌, map}
use Rattle.tokens.specs.Written.{bytes, starts, cases}
use Rattle.tokens.specs.Bytes.{between, blank, allowed, digit, letter, wordy}
use Rattle.tokens.specs.Tokens.{run, outside, in_mode, act, ended, done, lex, toks, Next, found, nothing, refused, first, next_token, fault_in, fault_of}

-- a text, a place, and the next token from there
nexts : List (List ℕ × ℕ × Next)
nexts =
    (bytes "w_1.5;", 0, found 0 5)
    ∷ (bytes "L/H", 1, found 1 1)
    ∷ (bytes "D//U", 0, found 0 1)
    ∷ (bytes "D//U", 1, nothing)
    ∷ (bytes "'//'", 1, nothing)
    ∷ (bytes "//a" ++ 13 ∷ bytes "b" ++ 10 ∷ bytes "x", 0, found 6 1)
    ∷ (bytes "/*/", 0, refused 3 0)
    ∷ (bytes "/**/x", 0, found 4 1)
    -- a word that a byte that is not allowed ends, and that byte itself
    ∷ (bytes "w.1" ++ 127 ∷ [], 0, found 0 3)
    ∷ (bytes "w.1" ++ 127 ∷ [], 3, refused 2 3)
    -- a byte that is not allowed, in a comment that is not closed
    ∷ (bytes "/* " ++ 200 ∷ [], 0, refused 2 3)
    -- from inside a word, from the `*` of a `/*`, from past the end
    ∷ (bytes "Signals", 3, found 3 4)
    ∷ (bytes "/*x*/", 1, found 1 1)
    ∷ (bytes "ab", 9, nothing)
    ∷ []

nexts_read : map (λ (s : List ℕ × ℕ × Next). next_token s.0 s.1) nexts ≡ map (λ (s : List ℕ × ℕ × Next). s.2) nexts
unfolding nexts bytes starts cases between blank allowed digit letter wordy run outside in_mode act ended done lex toks first next_token
nexts_read = refl

-- a text, and its fault
faults : List (List ℕ × Option (ℕ × ℕ))
faults =
    ([], none)
    ∷ (bytes "STIL 1.0; // end", none)
    ∷ (bytes "a /*/ b */ c", none)
    ∷ (bytes "a /* b */ /* c", some (3, 10))
    ∷ (bytes "a /* b" ++ 11 ∷ bytes " c", some (2, 6))
    ∷ (bytes "ab" ++ 127 ∷ bytes " /*", some (2, 2))
    ∷ []

faults_found : map (λ (s : List ℕ × Option (ℕ × ℕ)). fault_of s.0) faults ≡ map (λ (s : List ℕ × Option (ℕ × ℕ)). s.1) faults
unfolding faults bytes starts cases between blank allowed digit letter wordy run outside in_mode act ended done lex toks fault_in fault_of
faults_found = refl
