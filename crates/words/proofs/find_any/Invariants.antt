use mathlib.Core.Path.{◌≡◌}
use Rattle.meaning.specs.Names
use Rattle.words.specs.Table.{names}
use Rattle.words.proofs.Tables.{found_from}
use Rattle.words.proofs.find_any.Given as goal

abbrev pub invariant-loop-i : goal.invariant-loop-i
invariant-loop-i l = Names.find (names l.text l.places l.count) l.w ≡ found_from l.text l.places l.w l.count l.i
