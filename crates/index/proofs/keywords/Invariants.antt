use mathlib.Core.Path.{◌≡◌}
use mathlib.Core.List.{◌++◌}
use lib.ListN.{take}
use Rattle.tokens.specs.Tokens.{toks}
use Rattle.words.specs.Cursor.{stream}
use Rattle.texts.proofs.Runs.{list_from}
use Rattle.index.specs.Index.{keywords}
use Rattle.index.proofs.keywords.Given as goal

abbrev pub invariant-loop-i : goal.invariant-loop-i
invariant-loop-i l = keywords (toks l.text 0) (list_from l.text l.names l.patterns 0) ≡ take l.i l.keys ++ keywords (stream l.text l.c) (list_from l.text l.names l.patterns l.i)
