-- How often the pattern that a report names is listed, as the code has it.
use Rattle.std.specs.Prelude.{ℕ, ◌+◌, ◌≤◌, ◌≡◌, Bool, true, false, List, [], ◌∷◌}
use Rattle.std.proofs.Math.Option.{some}
use Rattle.meaning.specs.Bounds.{cycles_most}
use Rattle.meaning.specs.Names.{find}
use Rattle.meaning.specs.Run.{cycles}
use Rattle.meaning.specs.Statements.{Decl, Decls}
use Rattle.index.specs.Index.{Line}
use Rattle.fails.specs.declared.Times.{Times}

-- THE PROMISE for one listed pattern more: another one changes nothing
pub record More (t : Times) (here : Bool) (first count : ℕ) (r : Times) : Type 0 where
  pub other : here ≡ false → r ≡ t
  pub first_is : here ≡ true → r.first ≡ first
  pub cycles_are : here ≡ true → r.cycles ≡ count
  pub once : here ≡ true → t.times ≡ 0 → r.times ≡ 1
  pub again : here ≡ true → (t.times ≡ 0 → ⊥) → r.times ≡ 2

-- there is one line, that of the pattern w, which is among those of the text
pub record One (ps : Decls) (w : List ℕ) (xs : List Line) (r : Times) : Type 0 where
  pub line : Line
  pub is : xs ≡ line ∷ []
  pub first_is : line.first ≡ r.first
  pub count_is : line.count ≡ r.cycles
  pub decl : Decl
  pub found : find ps w ≡ some decl
  pub cycles_are : cycles 0 decl.body ≡ r.cycles
  pub fits : r.first + r.cycles ≤ cycles_most

-- there are more
pub record Several (xs : List Line) : Type 0 where
  pub line : Line
  pub next : Line
  pub more : List Line
  pub are : xs ≡ line ∷ next ∷ more

-- THE PROMISE: there is no line of this name, one, or more of them
pub record Often (ps : Decls) (w : List ℕ) (xs : List Line) (r : Times) : Type 0 where
  pub never : r.times ≡ 0 → xs ≡ []
  pub once : r.times ≡ 1 → One ps w xs r
  pub again : (r.times ≡ 0 → ⊥) → (r.times ≡ 1 → ⊥) → Several xs
