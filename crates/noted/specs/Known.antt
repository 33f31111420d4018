-- What is declared, with all its bodies noted.
use Rattle.std.specs.Prelude.{ℕ, List}
use Rattle.meaning.specs.Statements.{Decls, Env}
use Rattle.held.specs.Held.{All}
use Rattle.noted.specs.Noted.{Noted}

abbrev pub AllNoted : ℕ → List ℕ → Decls → Type 0
AllNoted tables used ds = All (λ x. Noted tables used x.1.body) ds

pub record Knows (tables : ℕ) (used : List ℕ) (e : Env) : Type 0 where
  pub macros : AllNoted tables used e.macros
  pub procs : AllNoted tables used e.procs
