-- `unplayable` meets its contract: no cycle of a plain text fails, and any other is summed up.
use Rattle.verdicts.proofs.Found.{runs}
use Rattle.verdicts.proofs.unplayable.Goals as goal

pub plain-requires : goal.plain-requires
plain-requires c =
    let tabled = c.requires.found.tabled in
    record {
      book_long = tabled.describes.book_long;
      waves_long = tabled.waves_long;
      used_long = c.requires.long;
      few_tables = tabled.describes.few_tables;
      few_patterns = tabled.few_patterns;
    }

pub summed-requires : goal.summed-requires
summed-requires c = (_, c.requires.found)

pub returns-then-not-plain : goal.returns-then-not-plain
returns-then-not-plain c = c.summed.ensures

pub returns : goal.returns
returns c =
    record { decides = λ f. c.plain.ensures c.if-not-plain.false _ _ _ _ _ _ _ _ (runs f) (c.requires.notes.noted f.it f.is) }
