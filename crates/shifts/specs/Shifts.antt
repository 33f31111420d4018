-- What is promised of a Shift's turns from the one that has the cycle looked for on: the characters of those before it are passed.
use Rattle.std.specs.Prelude.{ℕ, ◌≡◌, false, List}
use Rattle.meaning.specs.Body.{Assigns}
use Rattle.meaning.specs.Run.{State, again}
use Rattle.measures.specs.Uses.{Given}
use Rattle.pins.specs.Shown.{Shows, Playable, vector}
use Rattle.rows.specs.declared.Walk.{Walk}
use Rattle.rows.specs.Went.{over, Went}

-- THE PROMISE: t turns of the V with these assignments, the cycle looked for among them, were gone through
pub record Shifting (text given : List ℕ) (signals level table t : ℕ) (values values' feeds feeds' : List ℕ) (w w' : Walk) (before after : List ℕ) : Type 0 where
  pub went : (a : Assigns) (s : State) (p : ℕ) → Given a given → Playable signals a s.args → Shows text signals values table feeds level s
      → Went signals (again t (vector p a) s).1 1 w w' before after
  pub shows : (a : Assigns) (s : State) (p : ℕ) → Given a given → Playable signals a s.args → Shows text signals values table feeds level s
      → over w' ≡ false → Shows text signals values' table feeds' level (again t (vector p a) s).0
