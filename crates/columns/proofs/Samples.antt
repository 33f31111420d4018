-- A sample, computed from the definition: only LF begins a line, and stands itself in the line that it ends.
use mathlib.Core.Path.{◌≡◌, refl}
use mathlib.Core.List.{[], ◌∷◌}
use Rattle.columns.specs.Columns.{past, onward, position}

-- A CR LF B LF, and past its end
positions :
    (position (65 ∷ 13 ∷ 10 ∷ 66 ∷ 10 ∷ []) 0 ≡ record { line = 1; column = 1 })
    × (position (65 ∷ 13 ∷ 10 ∷ 66 ∷ 10 ∷ []) 2 ≡ record { line = 1; column = 3 })
    × (position (65 ∷ 13 ∷ 10 ∷ 66 ∷ 10 ∷ []) 3 ≡ record { line = 2; column = 1 })
    × (position (65 ∷ 13 ∷ 10 ∷ 66 ∷ 10 ∷ []) 4 ≡ record { line = 2; column = 2 })
    × (position (65 ∷ 13 ∷ 10 ∷ 66 ∷ 10 ∷ []) 5 ≡ record { line = 3; column = 1 })
    × (position (65 ∷ 13 ∷ 10 ∷ 66 ∷ 10 ∷ []) 9 ≡ record { line = 3; column = 1 })
unfolding past onward position
positions = (refl, refl, refl, refl, refl, refl)
