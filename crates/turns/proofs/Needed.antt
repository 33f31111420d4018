-- Two second turns are needed: a V that only in the second turn of two Loops meets both the character that the inner one sets at its end
-- and the table that the outer one chooses at its end.
use mathlib.Core.Path.{◌≡◌, refl}
use mathlib.Core.Option.{none, some}
use mathlib.Core.List.{[], ◌∷◌}
use Rattle.meaning.specs.Timing.{Wave, Tables}
use Rattle.meaning.specs.Body.{assigning, choosing, looped, Body, done, vec, set', inner}
use Rattle.meaning.specs.Run.{start, play}
use Rattle.meaning.specs.Meaning.{first_failing}
use Rattle.meaning.specs.Open.{everything}
use Rattle.turns.specs.Few.{loop_few, playing_few, play_few}

-- W first; Loop 2 { C { s = 0; } Loop 2 { V { } C { s = 1; } } W second; }
pub nested : Body
nested =
    let within : Body = vec 7 [] (set' (assigning ((0, 49) ∷ [])) done) in
    let around : Body = set' (assigning ((0, 48) ∷ [])) (inner (looped 2) within (set' (choosing 1) done)) in
    set' (choosing 0) (inner (looped 2) around done)

-- the first table has both characters, the second only 0
pub tables : Tables
tables =
    let zero : Wave = record { signal = 0; char = 48; events = [] } in
    let one : Wave = record { signal = 0; char = 49; events = [] } in
    (record { at = 0; word = [] }, record { period = 1; waves = zero ∷ one ∷ [] })
    ∷ (record { at = 0; word = [] }, record { period = 1; waves = zero ∷ [] })
    ∷ []

pub one_misses : (first_failing tables (play 0 nested (start 1)).1 ≡ some 7) × (first_failing tables (play_few 1 0 nested (start 1)).1 ≡ none)
unfolding everything loop_few playing_few play_few nested tables
one_misses = (refl, refl)
