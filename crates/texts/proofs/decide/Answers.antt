-- `decide` meets its contract: the text is read, and then judged.
use mathlib.Core.Path.{◌∙◌}
use Rattle.tokens.proofs.Results.{handed_on}
use Rattle.texts.proofs.Deciding.{held, decides, notes_sound}
use Rattle.texts.proofs.decide.Goals as goal

pub measured-requires : goal.measured-requires
measured-requires c =
    let document' = c.document-parts in
    let pre' = c.requires in (
      document'.auto.book ∙ pre'.1,
      document'.auto.list ∙ pre'.3,
      λ short z.
          let tabled = ((document'.ensures.0 short).reads z).2 in (tabled.few_listed, tabled.few_patterns),
    )

pub returns-in_err-total : goal.returns-in_err-total
returns-in_err-total c = let read = c.document-parts.ensures.0 in rw (handed_on c.from_residual.result _ c.from_residual.ensures.1) (c.in_err-total.ensures (held read).0 (held read).1)

pub returns : goal.returns
returns c =
    let read = c.document-parts.ensures.0 in
    let found = c.in_ok-total.ensures (held read).0 (held read).1 in
    (decides read found.1 found.2, notes_sound read c.document-parts.ensures.1)
