-- The services' answers, from what is told of any text.
use Prim.Native.Nat.{ℕ}
use mathlib.Core.Path.{◌≡◌, refl, sym, ap, ◌∙◌}
use mathlib.Core.List.{List}
use Rattle.std.specs.Prelude.{Ok, Option as Maybe, Some, None}
use Rattle.std.specs.Option.{ok_or}
use Rattle.meaning.specs.Refusals.{no_such}
use Rattle.meaning.specs.Meaning.{Answer, given, refused, answering, Meaning, meaning}
use Rattle.meaning.specs.Services.{check, Which, name_of}
use Rattle.texts.specs.Told.{counts_in}
use Rattle.verdicts.specs.Judged.{which_of}
use Rattle.verdicts.specs.Judged.{named_of, Judges}
use Rattle.verdicts.specs.declared.Wanted.{Wanted}
use Rattle.verdicts.specs.declared.Judged.{Judged}
use Rattle.verdicts.specs.declared.Name.{Name}
use Rattle.services.specs.Answers.{located_of}

-- a refusal is every service's
module _ (text : List ℕ) {n p : ℕ} (e : meaning text ≡ refused n p) where
  pub answer_refused : {A : Type 0} (f : Meaning → Answer A) → refused n p ≡ answering (meaning text) f
  unfolding answering
  answer_refused f = sym (ap (λ (a : Answer Meaning). answering a f) e)

  pub check_refused : refused n p ≡ check text
  unfolding check
  check_refused = answer_refused _

  pub name_refused : (which : Which) (number : ℕ) → refused n p ≡ name_of text which number
  unfolding name_of
  name_refused which number = answer_refused _

module _ {text : List ℕ} {w : Wanted} {r : Judged} (j : Judges text w (Ok r)) where
  -- an accepted text is what is asked of
  pub answer_given : {A : Type 0} (f : Meaning → Answer A) → answering (meaning text) f ≡ f j.0
  unfolding answering
  answer_given f = ap (λ (a : Answer Meaning). answering a f) j.1

  pub check_given : given (counts_in r.counts) ≡ check text
  unfolding check
  check_given = sym (answer_given _ ∙ ap given j.2.counts_are)

  pub name_given : named_of r.name ≡ name_of text (which_of w.table) w.number
  unfolding name_of
  name_given = sym (answer_given _ ∙ j.2.name_is)

-- no name is 18
pub located_as : (o : Maybe Name) → located_of (ok_or o (record { no = no_such; place = 0 })) ≡ named_of o
located_as (Some x) = refl
located_as None = refl
