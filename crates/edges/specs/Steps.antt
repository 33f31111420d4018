-- How many statements are gone through where two turns of each Loop are played, and of a third turn no more than one play with every Loop once: it ends with
-- its first cycle.
use Rattle.std.specs.Prelude.{ℕ, zero, suc, ◌+◌, ◌*◌}
use Rattle.meaning.specs.Body.{Way, looped, shifted, entered, Body, done, vec, set', inner}
use Rattle.meaning.specs.Run.{shift_of}
use Rattle.turns.specs.Steps.{steps}

-- in a Loop of n turns, of which each takes g at most, and one up to its first cycle h
unfoldable pub loop_pairs : ℕ → ℕ → ℕ → ℕ
loop_pairs zero g h = 0
loop_pairs (suc zero) g h = g
loop_pairs (suc (suc zero)) g h = g + g
loop_pairs (suc (suc (suc n))) g h = (g + g) + h

unfoldable pub in_pairs : ℕ → Way → ℕ → ℕ → ℕ
in_pairs t (looped n) g h = loop_pairs n g h
in_pairs t shifted g h = t * g
in_pairs t (entered kind u a) g h = g

unfoldable pub pair_steps : ℕ → Body → ℕ
pair_steps t done = 0
pair_steps t (vec p a r) = 1 + pair_steps t r
pair_steps t (set' x r) = 1 + pair_steps t r
pair_steps t (inner w b r) = (1 + in_pairs t w (pair_steps (shift_of t w) b) (steps 0 (shift_of t w) b)) + pair_steps t r

-- so many times as much as with every Loop once, in a body d deep
unfoldable pub worth : ℕ → ℕ
worth zero = 1
worth (suc d) = (worth d + worth d) + 1
