use Prim.Native.Nat.{ℕ, ◌*◌}
use mathlib.Core.Path.{◌≡◌}
use mathlib.Core.Bool.{true, not}
use mathlib.Core.List.{List}
use lib.ListN.{length}
use Rattle.tokens.specs.Tokens.{Tok}
use Rattle.meaning.specs.Bounds.{signals_most}
use Rattle.meaning.specs.Reader.{while}
use Rattle.meaning.specs.Statements.{Decls, Env}
use Rattle.meaning.specs.Document.{over, pattern}
use Rattle.words.specs.Cursor.{alive}
use Rattle.words.proofs.Loops.{room}
use Rattle.timing.proofs.Making.{Looping}
use Rattle.measures.specs.Uses.{row_length}
use Rattle.noted.specs.Noted.{Grows}
use Rattle.texts.specs.Patterns.{Patterned}
use Rattle.texts.proofs.patterns.Given as goal

abbrev pub invariant-loop-cursor : goal.invariant-loop-cursor
invariant-loop-cursor l =
    ((u : List ℕ) (e : Env) (b : Tok) (ps : Decls) → (alive l.initial.cursor ≡ true → Patterned l.text l.places l.lists l.tplaces l.initial.book l.rows l.known l.initial.count e b u l.initial.used ps)
    → Looping l.text l.initial.cursor (while (λ ts. not (over ts)) (pattern e b) ps) (λ ts. not (over ts)) (pattern e b) l.cursor
    (Patterned l.text l.places l.lists l.tplaces l.book l.rows l.known l.count e b u l.used))
    × (length l.row ≡ row_length)
    × (length l.args ≡ signals_most * 2)
    × (length l.book ≡ length l.initial.book)
    × Grows l.initial.used l.used

abbrev pub decreases-loop-cursor : goal.decreases-loop-cursor
decreases-loop-cursor l = room l.text l.cursor
