-- A body with at most three turns of each Loop in it; a Shift plays all of its turns.
use Rattle.std.specs.Prelude.{ℕ, min}
use Rattle.meaning.specs.Body.{Way, looped, shifted, entered, Body, done, vec, set', inner}

abbrev pub turns_most : ℕ
turns_most = 3

unfoldable pub few_turns : Way → Way
few_turns (looped n) = looped (min n turns_most)
few_turns shifted = shifted
few_turns (entered k t a) = entered k t a

unfoldable pub in_three : Body → Body
in_three done = done
in_three (vec p a r) = vec p a (in_three r)
in_three (set' x r) = set' x (in_three r)
in_three (inner w b r) = inner (few_turns w) (in_three b) (in_three r)
