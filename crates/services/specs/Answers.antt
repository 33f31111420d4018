-- The services' answers as the definitions' answers: document 01's numbers and values.
use Rattle.std.specs.Prelude.{ℕ, List, Result}
use Rattle.tokens.specs.declared.Refusal.{Refusal}
use Rattle.meaning.specs.Meaning.{Answer}
use Rattle.meaning.specs.Results.{answer_of}
use Rattle.meaning.specs.Services.{Counts, Waveform}
use Rattle.texts.specs.Told.{decided_of}
use Rattle.texts.specs.declared.Counts.{Counts as Five}
use Rattle.verdicts.specs.declared.Name.{Name}

-- Check
abbrev pub checked_of : Result Five Refusal → Answer Counts
checked_of = decided_of

-- Name
abbrev pub located_of : Result Name Refusal → Answer (ℕ × ℕ)
located_of = answer_of (λ x. (x.at, x.length))

-- Waveform, with the two buffers as they are afterwards
abbrev pub shaped_of : Result ℕ Refusal → List ℕ → List ℕ → Answer Waveform
shaped_of r times letters = answer_of (λ n. record { count = n; times = times; letters = letters }) r
