-- Samples at the edges, of tokens alone: the definitions compute how many cycles come before a reference.
use Prim.Native.Nat.{ℕ}
use Prim.Native.String.{String}
use mathlib.Core.Path.{◌≡◌, refl}
use mathlib.Core.Option.{Option, none, some}
use mathlib.Core.List.{[]}
use Rattle.tokens.specs.Written.{bytes}
use Rattle.tokens.specs.Tokens.{toks}
use Rattle.meaning.specs.Open.{everything}
use Rattle.meaning.specs.Body.{assigning, looped, Body, done, vec, set', inner}
use Rattle.meaning.specs.Statements.{for_patterns}
use Rattle.held.proofs.Parts.{first_env}
use Rattle.references.specs.References
use Rattle.references.specs.References.{past}

unfoldable opened : Unit {0}
unfolding everything References.behind References.behind_head References.behind_body References.next_at References.name_at References.referred References.past_by References.past
opened = tt

-- an empty V, C or X, and others behind it
abbrev pub v : Body → Body
v = vec 0 []

abbrev pub s : Body → Body
s = set' (assigning [])

-- in the pattern p with these statements, of which the body is b
abbrev pub before : String → Body → String → Option ℕ
before text b w = past (for_patterns (first_env [] [])) (toks (bytes text) 0) b (bytes "p") (bytes w)

-- the pattern itself, and a name that is no X; behind a V; in a Loop's first turn, also of a Loop in a Loop; behind all turns; C is no X; the first of two
pub edges : (before "V { } X a; }" (v (s done)) "p" ≡ some 0)
    × (before "V { } X a; }" (v (s done)) "b" ≡ none)
    × (before "V { } X a; }" (v (s done)) "a" ≡ some 1)
    × (before "X a; }" (s done) "a" ≡ some 0)
    × (before "V { } Loop 3 { V { } Loop 2 { V { } X a; } } }" (v (inner (looped 3) (v (inner (looped 2) (v (s done)) done)) done)) "a" ≡ some 3)
    × (before "V { } Loop 3 { V { } Loop 2 { V { } } } X a; }" (v (inner (looped 3) (v (inner (looped 2) (v done) done)) (s done))) "a" ≡ some 10)
    × (before "C { } }" (s done) "{" ≡ none)
    × (before "V { } X a; V { } X b; X a; }" (v (s (v (s (s done))))) "a" ≡ some 1)
    × (before "V { } X a; V { } X b; X a; }" (v (s (v (s (s done))))) "b" ≡ some 2)
unfolding opened
edges = (refl, refl, refl, refl, refl, refl, refl, refl, refl)
