use mathlib.Core.Path.{◌∙◌}
use Rattle.std.proofs.Common.{rules}
use Rattle.std.proofs.lemmas.Iterator.{YieldsList-from_slice}
use Rattle.std.proofs.lemmas.Iterator.Search.{all_from_yields_List}
use Rattle.meaning.specs.Timing.{wave_char}
use Rattle.words.proofs.Words.{chars_all}
use Rattle.words.proofs.all_chars.Goals as goal

pub returns : goal.returns
returns c =
    let w = c.args.w.now in
    all_from_yields_List wave_char _ _ _ c.all.ensures.ran (YieldsList-from_slice w cc) (λ x b q k. search rules) ∙ chars_all w
