-- What the code's functions promise: the span that a refusal overwrites, and the scan for it, token by token.
use Rattle.std.specs.Prelude.{ℕ, ◌≡◌, Bool, true, false, Option as Maybe, Some, None}
use Rattle.std.proofs.Math.Option.{Option, none, some}
use Rattle.words.specs.Values.{told}
use Rattle.saving.specs.Saving.{Span, Turn, on, ends}
use Rattle.saving.specs.declared.Hurt.{Hurt}
use Rattle.saving.specs.declared.Scan.{Scan}

abbrev pub span_of : Hurt → Span
span_of h = record { first = h.first; behind = h.behind }

-- a span, if there is one
abbrev pub hurt_of : Maybe Hurt → Option Span
hurt_of (Some h) = some (span_of h)
hurt_of None = none

-- where a block has begun, if one has
abbrev pub begun_in : Scan → Option ℕ
begun_in s = told s.begun s.first

-- what a token before the place q did: a block ended, or the scan goes on
abbrev pub turned_to : Bool → Scan → ℕ → Turn
turned_to true s q = ends (record { first = s.first; behind = q })
turned_to false s q = on s.depth (begun_in s)

-- THE PROMISE of a turn of the scan: r is what the turn t leaves, before the place q; behind a block the scan is as at the text's start
pub record Scans (t : Turn) (q : ℕ) (r : Scan) : Type 0 where
  pub turned : t ≡ turned_to r.ended r q
  pub anew : r.ended ≡ true → (r.depth ≡ 0) × (begun_in r ≡ none)
