-- Saving hurt reels (request 13): what the service promises of its answer, the text and the list of spans.
use Rattle.std.specs.Prelude.{ℕ, ◌/◌, ◌≤◌, ◌≡◌, List, length, take, Result}
use Rattle.tokens.specs.declared.Refusal.{Refusal}
use Rattle.tokens.specs.Refusals.{text_most}
use Rattle.meaning.specs.Meaning.{Answer, given}
use Rattle.meaning.specs.Results.{answer_of}
use Rattle.saving.specs.Saving.{Saved as SavedText, saving, Restored}
use Rattle.saving.specs.Spans.{noted_all}
use Rattle.verdicts.specs.Buffers.{afterwards}

-- the text and the list of spans as they are afterwards
abbrev pub saved_of : Result ℕ Refusal → List ℕ → List ℕ → Answer Restored
saved_of r text spans = answer_of (λ n. record { count = n; text = text; spans = spans }) r

-- THE PROMISE of the service, whose answer is a: both buffers are those of the answer, or as they were
pub record Saves (a : Answer Restored) (text text' spans spans' : List ℕ) (r : Result ℕ Refusal) : Type 0 where
  pub answers : saved_of r text' spans' ≡ a
  pub text_is : text' ≡ afterwards (λ x. x.text) a text
  pub spans_are : spans' ≡ afterwards (λ x. x.spans) a spans

-- a mended copy of a text that can be saved, and a log of its spans, as far as they have room; all of them have room in the list
pub record SomeCopy (text spans copy log : List ℕ) (count : ℕ) : Type 0 where
  pub saved : SavedText
  pub saves : saving text ≡ given saved
  pub short : length text ≤ text_most
  pub copied : take (length text) copy ≡ saved.text
  pub blank : List ℕ
  pub logged : log ≡ noted_all saved.spans blank
  pub counted : count ≡ length saved.spans
  pub roomy : count ≤ length spans / 2
