-- Which turns of Loops the check plays: the first of each, and the second where at most k second turns are open at once.
use Rattle.std.specs.Prelude.{ℕ, zero, suc, [], ◌∷◌}
use Rattle.meaning.specs.Body.{Way, looped, shifted, entered, Body, done, vec, set', inner}
use Rattle.meaning.specs.Run.{shift_of, State, Played, puts, changed, cycle_at, follow, again, entering}

-- a Loop of n turns, whose body g plays with so many second turns open in it at most
unfoldable pub loop_few : ℕ → ℕ → (ℕ → State → Played) → State → Played
loop_few zero k g s = (s, [])
loop_few (suc zero) k g s = g k s
loop_few (suc (suc n)) zero g s = g 0 s
loop_few (suc (suc n)) (suc k) g s = follow (g (suc k) s) (g k)

unfoldable pub playing_few : ℕ → ℕ → Way → (ℕ → State → Played) → State → Played
playing_few k t (looped n) g s = loop_few n k g s
playing_few k t shifted g s = again t (g k) s
playing_few k t (entered kind u a) g s = entering kind a (g k) s

unfoldable pub play_few : ℕ → ℕ → Body → State → Played
play_few k t done s = (s, [])
play_few k t (vec p a r) s = let s' = puts a s in follow (s', cycle_at p s' ∷ []) (play_few k t r)
play_few k t (set' x r) s = play_few k t r (changed x s)
play_few k t (inner w b r) s = follow (playing_few k t w (λ j. play_few j (shift_of t w) b) s) (play_few k t r)

-- of a cycle's cells at most two decide whether it can be played: a signal's character, and the table
abbrev pub open_most : ℕ
open_most = 2
