use Prim.Native.Nat.{◌*◌}
use mathlib.Core.Path.{◌≡◌}
use lib.ListN.{length, drop}
use Rattle.meaning.specs.Statements.{Decls}
use Rattle.measures.specs.Book.{first_pattern, Entry, Listed}
use Rattle.bursts.specs.Listed.{listed_in}
use Rattle.texts.proofs.Runs.{list_from, Running}
use Rattle.texts.proofs.run_of.Given as goal

abbrev pub invariant-loop-k : goal.invariant-loop-k
invariant-loop-k l =
    (l.names ≡ drop (first_pattern * 2) l.book)
    × ((ps : Decls) → Listed (Entry l.text l.book) first_pattern ps → length ps ≡ l.patterns
    → Running ps (listed_in l.text l.list l.listed) (list_from l.text l.list l.listed l.k) l.measure)
