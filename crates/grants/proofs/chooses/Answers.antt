-- The name's number is its pattern's, and that begins where the book says.
use Prim.Native.Nat.{◌*◌}
use native.Mathlib.Omega.{arith}
use mathlib.Core.Path.{sym, ◌∙◌}
use mathlib.Core.Bool.{true≢false}
use Rattle.tokens.specs.Written.{bytes}
use Rattle.words.proofs.Words.{rest}
use Rattle.measures.specs.Book.{first_pattern}
use Rattle.grants.proofs.Chosen.{listed_first}
use Rattle.grants.proofs.chooses.Goals as goal

pub returns-then-patterns-i : goal.returns-then-patterns-i
returns-then-patterns-i c = λ e. absurd (true≢false (sym e))

pub returns : goal.returns
unfolding bytes
returns c =
    let book = c.args.book.now in
    λ e.
    listed_first (rest book (first_pattern * 2)) c.name_bytes.ensures c.find-i.ensures
    (λ h. c.start_at.ensures (omega arith)) c.cursor_at-c.ensures (sym c.is.ensures ∙ e)
