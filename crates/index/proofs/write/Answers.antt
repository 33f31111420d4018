-- `write` meets its contract: each section is put behind the one before it, and there is room for all at their longest.
use Prim.Native.Nat.{ℕ, ◌*◌}
use native.Mathlib.Omega.{arith}
use mathlib.Core.Path.{ap, ◌∙◌}
use mathlib.Core.List.{List}
use Rattle.tokens.specs.Written.{bytes}
use Rattle.tokens.specs.Tokens.{toks}
use Rattle.meaning.specs.Meaning.{firsts}
use Rattle.words.specs.Table.{names}
use Rattle.words.proofs.Words.{rest}
use Rattle.measures.specs.Book.{first_pattern}
use Rattle.index.specs.Index.{keywords}
use Rattle.index.proofs.Writing.{index_fronts}
use Rattle.index.proofs.write.Goals as goal

pub lines-at-requires : goal.lines-at-requires
lines-at-requires c =
    let a = c.args in
    let keys = c.keywords.ensures ∙ ap (λ (part : List ℕ). keywords (toks a.text.now 0) (firsts (names a.text.now part a.patterns))) (rest a.book.now (first_pattern * 2)) in
    (c.requires.0, omega (arith, c.counted-at, c.requires.1, c.requires.0.lists.few_listed), keys)

pub counted-at-requires-2 : goal.counted-at-requires-2
counted-at-requires-2 c =
    let h = c.requires.0.lists in
    omega (arith, (c.lines-at.ensures _ _ h).within, c.lines-at.auto, c.counted-at, c.requires.1, h.few_listed)

pub lines-requires : goal.lines-requires
lines-requires c =
    let h = c.requires.0.lists in
    (c.requires.3, omega (arith, c.requires.2), omega (arith, c.counted-at-2, (c.lines-at.ensures _ _ h).within, c.lines-at.auto, c.counted-at, c.requires.1, c.requires.2, h.few_listed))

pub returns : goal.returns
unfolding bytes
returns c = λ ps run h. index_fronts h c.args.tplaces.now c.args.tables c.counted-at.ensures.puts (c.lines-at.ensures ps run h).puts c.counted-at-2.ensures.puts c.lines.ensures.puts
