-- The index (request 7): what the services promise of their answers and the buffer.
use Rattle.std.specs.Prelude.{ℕ, ◌≡◌, List, length, take, Result, Ok, Err, Option as Maybe}
use Rattle.std.proofs.Math.Option.{Option}
use Rattle.tokens.specs.declared.Refusal.{Refusal}
use Rattle.meaning.specs.Meaning.{Answer, given, refused, Meaning, meaning}
use Rattle.meaning.specs.Results.{answer_of}
use Rattle.index.specs.Index.{index_of, written, holder, Rebuilt as Bytes}
use Rattle.index.specs.Lines.{held_of}
use Rattle.verdicts.specs.Buffers.{afterwards}
use Rattle.services.specs.declared.Rebuilt.{Rebuilt}

-- ---- any text, rebuilt once

-- an accepted text: its index stands at the front of a page, and the listed pattern that holds a cycle is told
pub record Stands (text : List ℕ) (cycle : ℕ) (r : Rebuilt) (page : List ℕ) (m : Meaning) : Type 0 where
  pub front_is : take r.length page ≡ written (index_of text m)
  pub length_is : r.length ≡ length (written (index_of text m))
  pub holder_is : held_of r.holder ≡ holder cycle 0 (index_of text m).patterns

abbrev pub Rebuilds : List ℕ → ℕ → Result Rebuilt Refusal → List ℕ → Type 0
Rebuilds text cycle (Ok r) page = (m : Meaning) × (meaning text ≡ given m) × Stands text cycle r page m
Rebuilds text cycle (Err r) page = meaning text ≡ refused r.no r.place

-- ---- the services' answers

-- Index, with the buffer as it is afterwards
abbrev pub indexed_of : Result ℕ Refusal → List ℕ → Answer Bytes
indexed_of r buffer = answer_of (λ n. record { size = n; buffer = buffer }) r

abbrev pub belonging_of : Result (Unit {0}) Refusal → Answer (Unit {0})
belonging_of = answer_of (λ u. tt)

abbrev pub holding_of : Result (Maybe ℕ) Refusal → Answer (Option ℕ)
holding_of = answer_of held_of

-- THE PROMISE of the service Index, whose answer is a: the buffer is that of the answer, or as it was
pub record Indexes (a : Answer Bytes) (before after : List ℕ) (r : Result ℕ Refusal) : Type 0 where
  pub answers : indexed_of r after ≡ a
  pub buffer_is : after ≡ afterwards (λ x. x.buffer) a before
