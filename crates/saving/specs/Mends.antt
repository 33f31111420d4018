-- What the code that repeats check and overwriting promises: one turn, and all of them.
use Rattle.std.specs.Prelude.{ℕ, ◌≡◌, List, length, Option, Some, None, Result, Ok, Err}
use Rattle.tokens.specs.declared.Refusal.{Refusal}
use Rattle.saving.specs.Saving.{Span, overwritten, Verdict, accepted, hurt_in, beyond_help, verdict}
use Rattle.saving.specs.Steps.{Steps}
use Rattle.saving.specs.Found.{span_of}
use Rattle.saving.specs.Spans.{noted_all}
use Rattle.saving.specs.declared.Hurt.{Hurt}
use Rattle.saving.specs.declared.Mended.{Mended}

-- THE PROMISE of a turn: what the check makes of the text, and the text that it leaves
abbrev pub Turns : (text behind : List ℕ) → Result (Option Hurt) Refusal → Type 0
Turns text behind (Ok (Some h)) = (verdict text ≡ hurt_in (span_of h)) × (behind ≡ overwritten (span_of h) text)
Turns text behind (Ok None) = (verdict text ≡ accepted) × (behind ≡ text)
Turns text behind (Err r) = (verdict text ≡ beyond_help r.no r.place) × (behind ≡ text)

-- how it ends: with a text that is accepted, or with the last refusal
abbrev pub last_of : Result Unit Refusal → Verdict
last_of (Ok _) = accepted
last_of (Err r) = beyond_help r.no r.place

-- THE PROMISE of all of them: the spans in their order, as far as the numbers have room for them, and the last verdict
pub record Mends (text behind numbers numbers' : List ℕ) (r : Mended) : Type 0 where
  pub spans : List Span
  pub steps : Steps text spans behind
  pub counted : r.count ≡ length spans
  pub noted : numbers' ≡ noted_all spans numbers
  pub ended : verdict behind ≡ last_of r.end
