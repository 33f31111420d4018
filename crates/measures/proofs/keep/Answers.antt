-- Seven stores: the two places of the name, and the five numbers behind the names.
use native.Mathlib.Omega.{arith}
use lib.ListN.{length-set}
use Rattle.measures.proofs.Kept.{book_kept}
use Rattle.measures.proofs.keep.Goals as goal

pub bounds-book-i-2 : goal.bounds-book-i-2
bounds-book-i-2 c = simp length-set (omega (arith, c.requires.0, c.requires.1))

pub bounds-book-at : goal.bounds-book-at
bounds-book-at c = simp length-set (omega (arith, c.requires.0, c.requires.1))

pub bounds-book-at-2 : goal.bounds-book-at-2
bounds-book-at-2 c = simp length-set (omega (arith, c.requires.0, c.requires.1))

pub bounds-book-at-3 : goal.bounds-book-at-3
bounds-book-at-3 c = simp length-set (omega (arith, c.requires.0, c.requires.1))

pub bounds-book-at-4 : goal.bounds-book-at-4
bounds-book-at-4 c = simp length-set (omega (arith, c.requires.0, c.requires.1))

pub bounds-book-at-5 : goal.bounds-book-at-5
bounds-book-at-5 c = simp length-set (omega (arith, c.requires.0, c.requires.1))

pub returns : goal.returns
returns c = let args = c.args in book_kept args.book.now args.i args.c args.start args.x c.requires.1 c.requires.0
