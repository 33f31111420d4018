-- How many statements are gone through where at most k second turns of Loops are open at once; each turn of a Shift counts.
use Rattle.std.specs.Prelude.{ℕ, zero, suc, ◌+◌, ◌*◌}
use Rattle.meaning.specs.Body.{Way, looped, shifted, entered, Body, done, vec, set', inner}
use Rattle.meaning.specs.Run.{shift_of}

-- in a Loop of n turns, whose body takes g so many at most open in it
unfoldable pub loop_steps : ℕ → ℕ → (ℕ → ℕ) → ℕ
loop_steps zero k g = 0
loop_steps (suc zero) k g = g k
loop_steps (suc (suc n)) zero g = g 0
loop_steps (suc (suc n)) (suc k) g = g (suc k) + g k

unfoldable pub in_steps : ℕ → ℕ → Way → (ℕ → ℕ) → ℕ
in_steps k t (looped n) g = loop_steps n k g
in_steps k t shifted g = t * g k
in_steps k t (entered kind u a) g = g k

-- with k zero every Loop is played once
unfoldable pub steps : ℕ → ℕ → Body → ℕ
steps k t done = 0
steps k t (vec p a r) = 1 + steps k t r
steps k t (set' x r) = 1 + steps k t r
steps k t (inner w b r) = (1 + in_steps k t w λ j. steps j (shift_of t w) b) + steps k t r

-- how many choices of at most k out of d there are
unfoldable pub choices : ℕ → ℕ → ℕ
choices d zero = 1
choices zero (suc k) = 1
choices (suc d) (suc k) = choices d (suc k) + choices d k
