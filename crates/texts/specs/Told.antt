-- What callers without tables are told: an answer, or for callers in C a number and the numbers of a buffer.
use Rattle.std.specs.Prelude.{ℕ, ◌+◌, ◌*◌, ◌≡◌, true, false, List, ◌∷◌, length, drop, leb, Result}
use Rattle.tokens.specs.Refusals.{text_most}
use Rattle.tokens.specs.declared.Refusal.{Refusal}
use Rattle.meaning.specs.Refusals.{no_room}
use Rattle.meaning.specs.Meaning.{Answer, given, refused}
use Rattle.meaning.specs.Results.{answer_of}
use Rattle.meaning.specs.Services.{Counts}
use Rattle.texts.specs.declared.Counts.{Counts as Five}

abbrev pub counts_in : Five → Counts
counts_in c = record { signals = c.signals; tables = c.tables; listed = c.listed; cycles = c.cycles; size = c.size }

abbrev pub decided_of : Result Five Refusal → Answer Counts
decided_of = answer_of counts_in

-- a refusal as one number: 32 times the place and the number. A place lies within the text; one that didn't would not be told
abbrev pub packed_refusal : ℕ → ℕ → ℕ
packed_refusal n p = elim (leb p text_most) [ true ↦ p * 32 + n | false ↦ n ]

-- an answer as one number: 0, a refusal, or 19 where the buffer has no room for five numbers
unfoldable pub packed : Answer Counts → List ℕ → ℕ
packed (refused n p) buffer = packed_refusal n p
packed (given x) buffer = elim (leb 5 (length buffer)) [ true ↦ 0 | false ↦ no_room ]

-- and the buffer: the five numbers at its front, if there are any and it has room for them
unfoldable pub written : Answer Counts → List ℕ → List ℕ
written (refused n p) buffer = buffer
written (given x) buffer =
    elim (leb 5 (length buffer)) [
      | true ↦ x.signals ∷ x.tables ∷ x.listed ∷ x.cycles ∷ x.size ∷ drop 5 buffer
      | false ↦ buffer
    ]

-- THE PROMISE of the function for callers in C: the number r and the buffer behind tell the answer a
pub record Packs (a : Answer Counts) (before : List ℕ) (r : ℕ) (behind : List ℕ) : Type 0 where
  pub number : r ≡ packed a before
  pub buffer : behind ≡ written a before
