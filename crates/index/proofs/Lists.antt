-- The listed patterns of a text that 1 to 16 leave, as the code has them.
use Prim.Native.Nat.{ℕ, ◌≤◌}
use mathlib.Core.Path.{subst}
use mathlib.Core.List.{List}
use lib.Dec.{leb}
use borrow.Author.Tests.{leb-true}
use Rattle.tokens.proofs.Bools.{both}
use Rattle.meaning.specs.Bounds.{size_most, cycles_most}
use Rattle.meaning.specs.Run.{size, cycles}
use Rattle.meaning.specs.Meaning.{fitting}
use Rattle.timing.specs.declared.Watch.{Watch}
use Rattle.texts.specs.Tables.{Found}
use Rattle.texts.specs.declared.Verdict.{Verdict}
use Rattle.texts.proofs.Sounds.{sound_runs}
use Rattle.sections.specs.Listing.{Short}
use Rattle.index.specs.Lines.{Lists}
use Rattle.index.proofs.Names.{listed_few}

module _ {w : Watch} {text places lists tplaces waves book rows list : List ℕ} {v : Verdict} (f : Found text w places lists tplaces waves book rows list v) where
  few_cycles : cycles 0 f.it.run ≤ cycles_most
  unfolding fitting
  few_cycles =
      let k = both (leb (size f.it.run) size_most) (leb (cycles 0 f.it.run) cycles_most) (sound_runs text f.is).fits in
      leb-true (cycles 0 f.it.run) cycles_most k.1

  pub lists_are : Lists text book list v.parts.listed v.parts.patterns f.it.read.patterns f.it.run
  lists_are = record {
    book_long = f.tabled.describes.book_long;
    patterns_are = f.tabled.patterns_are;
    counted = f.tabled.patterns_counted;
    few = f.tabled.few_patterns;
    few_listed = f.tabled.few_listed;
    short = subst Short f.tabled.listed_are (listed_few.all _ _ _ f.tabled.parts.burst_read);
    run_is = rw f.tabled.listed_are at (sound_runs text f.is).run_is;
    fits = few_cycles;
  }
