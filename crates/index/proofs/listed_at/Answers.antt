-- `listed_at` meets its contract: the number that is found is the pattern's, and the book has its cycles there.
use Prim.Native.Nat.{◌*◌}
use native.Mathlib.Omega.{arith}
use mathlib.Core.Path.{ap}
use Rattle.words.proofs.Words.{rest}
use Rattle.measures.specs.Book.{first_pattern}
use Rattle.measures.specs.declared.Measure.{Measure}
use Rattle.index.proofs.Left.{number_is, number_below}
use Rattle.index.proofs.listed_at.Goals as goal

pub overflow_add-number : goal.overflow_add-number
overflow_add-number c = omega (arith, number_below c.requires.named c.find-number.result (rest c.args.book.now (first_pattern * 2)) c.name_bytes.ensures c.find-number.ensures, c.requires.named.few)

pub measure_at-m-requires : goal.measure_at-m-requires
measure_at-m-requires c = (c.requires.named.book_long, omega (arith, number_below c.requires.named c.find-number.result (rest c.args.book.now (first_pattern * 2)) c.name_bytes.ensures c.find-number.ensures, c.requires.named.few))

pub returns : goal.returns
returns c =
    record {
      number_is = number_is c.args.text.now c.args.book.now _ _ _ _ _ (rest c.args.book.now (first_pattern * 2)) c.name_bytes.ensures c.find-number.ensures;
      below = number_below c.requires.named c.find-number.result (rest c.args.book.now (first_pattern * 2)) c.name_bytes.ensures c.find-number.ensures;
      cycles_are = ap (λ (m : Measure). m.cycles) c.measure_at-m.ensures;
    }
