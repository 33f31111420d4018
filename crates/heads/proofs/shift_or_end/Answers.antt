-- A word that is neither is refused where it stands.
use mathlib.Core.Path.{refl, sym, ◌∙◌}
use Rattle.tokens.specs.Written.{bytes}
use Rattle.meaning.specs.Statements.{ends}
use Rattle.heads.specs.Heads.{Tells}
use Rattle.heads.proofs.ByWord.{this_word, other_word, last_word}
use Rattle.heads.proofs.shift_or_end.Goals as goal

pub returns-then-equal : goal.returns-then-equal
unfolding bytes
returns-then-equal c = λ tables book rows given args. this_word "Shift" _ _ _ (sym c.equal.ensures ∙ c.if-equal.true) (c.shifting.ensures tables book rows given args)

pub returns : goal.returns
unfolding bytes Tells
returns c =
    λ tables book rows given args.
    other_word "Shift" _ _ _ (sym c.equal.ensures ∙ c.if-equal.false) (last_word "}" ends _ c.equal-2.ensures c.refuse_if-cursor.ensures refl)
