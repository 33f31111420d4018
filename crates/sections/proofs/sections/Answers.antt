-- `sections` meets its contract: each piece is put behind the one before it, and there is room for all at their longest.
use native.Mathlib.Omega.{arith}
use Rattle.tokens.specs.Written.{bytes}
use Rattle.meaning.specs.Meaning.{firsts}
use Rattle.meaning.specs.Services.{row_width}
use Rattle.words.specs.Table.{names}
use Rattle.sections.proofs.Laws.{sections_put}
use Rattle.sections.proofs.sections.Goals as goal

pub lines-at-requires : goal.lines-at-requires
lines-at-requires c =
    (c.requires.3, c.requires.1, omega (arith, c.counted-at, c.requires))

pub counted-at-requires-2 : goal.counted-at-requires-2
counted-at-requires-2 c =
    omega (arith, c.lines-at, c.counted-at, c.requires)

pub lines-at-requires-2 : goal.lines-at-requires-2
lines-at-requires-2 c =
    (c.requires.4, omega (arith, c.requires), omega (arith, c.counted-at-2, c.lines-at, c.counted-at, c.requires))

pub counted-at-requires-3 : goal.counted-at-requires-3
counted-at-requires-3 c =
    omega (arith, c.lines-at-2, c.counted-at-2, c.lines-at, c.counted-at, c.requires)

pub unlisted-at-requires : goal.unlisted-at-requires
unlisted-at-requires c =
    omega (arith, c.counted-at-3, c.lines-at-2, c.counted-at-2, c.lines-at, c.counted-at, c.requires)

pub overflow_add-result : goal.overflow_add-result
overflow_add-result c = omega (arith, c.requires)

pub returns : goal.returns
unfolding bytes row_width
returns c =
    let a = c.args in
    let named = sections_put (firsts (names a.text.now a.places.now a.signals)) (firsts (names a.text.now a.tplaces.now a.tables)) in
    let put = named a.signals a.tables a.cycles c.counted-at.ensures.puts c.lines-at.ensures.puts c.counted-at-2.ensures.puts in
    (put c.lines-at-2.ensures.puts c.counted-at-3.ensures.puts c.unlisted-at.ensures.puts, rw c.listed.ensures)
