-- What the code keeps of a body: its depth, its size and its cycles, each up to one above its bound.
use Rattle.std.specs.Prelude.{ℕ, suc, ◌+◌, ◌*◌, min, ◌≡◌}
use Rattle.meaning.specs.Bounds.{depth_most, size_most, cycles_most}
use Rattle.meaning.specs.Body.{Body, done, vec, set', inner, depth}
use Rattle.meaning.specs.Run.{size, cycles}
use Rattle.measures.specs.declared.Measure.{Measure}

-- one above the bounds
abbrev pub depth_cap : ℕ
depth_cap = suc depth_most

abbrev pub size_cap : ℕ
size_cap = suc size_most

abbrev pub cycles_cap : ℕ
cycles_cap = suc cycles_most

-- the numbers of a body: its cycles with t turns of its Shift are `cycles` and t times `shifts`
pub record Measures (b : Body) (x : Measure) : Type 0 where
  pub depth_is : x.depth ≡ min depth_cap (depth b)
  pub size_is : x.size ≡ min size_cap (size b)
  pub cycles_is : (t : ℕ) → min cycles_cap (x.cycles + t * x.shifts) ≡ min cycles_cap (cycles t b)

-- the statements of one body, and behind them those of another
unfoldable pub joined : Body → Body → Body
joined done b = b
joined (vec p a r) b = vec p a (joined r b)
joined (set' x r) b = set' x (joined r b)
joined (inner w c r) b = inner w c (joined r b)

-- the numbers of a statement with a body of measure x in it
pub record Around (x : Measure) (cycles shifts : ℕ) (r : Measure) : Type 0 where
  pub depth_is : r.depth ≡ min depth_cap (x.depth + 1)
  pub size_is : r.size ≡ min size_cap (x.size + 1)
  pub cycles_is : r.cycles ≡ cycles
  pub shifts_is : r.shifts ≡ shifts
