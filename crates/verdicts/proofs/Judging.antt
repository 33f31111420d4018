-- From what was decided, played and copied to what is told of an accepted text: its counts and names.
use Prim.Native.Nat.{ℕ}
use mathlib.Core.Path.{◌≡◌, sym, ap, ◌∙◌}
use mathlib.Core.List.{List}
use Rattle.std.specs.Prelude.{Ok}
use Rattle.meaning.specs.Meaning.{given, meaning}
use Rattle.meaning.specs.Services.{name_at}
use Rattle.texts.specs.Tables.{Found}
use Rattle.texts.specs.declared.Verdict.{Verdict}
use Rattle.verdicts.specs.Found.{meant_by}
use Rattle.verdicts.specs.Judged.{Judges, Copies}
use Rattle.verdicts.specs.declared.Wanted.{Wanted}
use Rattle.verdicts.specs.declared.Judged.{Judged}
use Rattle.verdicts.proofs.Found.{names_are, counts_met}

-- what was found of an accepted text is told
pub played_judged : (w : Wanted) {text places lists tplaces waves book rows list : List ℕ} {v : Verdict} {r : Judged} (f : Found text w.watch places lists tplaces waves book rows list v)
    → meaning text ≡ given (meant_by f.it) → Copies text places tplaces v w r → Judges text w (Ok r)
played_judged w f e c = (
  meant_by f.it,
  e,
  record {
    counts_are = counts_met f ∙ sym c.counts_are;
    name_is = ap (λ l. name_at l w.number) (names_are f w.table) ∙ c.name_is;
    watched = rw c.sight_is f.watched;
  },
)
