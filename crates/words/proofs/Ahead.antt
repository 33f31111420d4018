-- The token ahead, as the code's cursor holds it: its place and its end, or how the tokens stop.
use Prim.Native.Nat.{ℕ, ◌+◌, ◌-◌}
use native.Mathlib.Omega.{arith}
use mathlib.Core.Path.{◌≡◌, refl, sym, ap, ◌∙◌}
use mathlib.Core.Bool.{Bool, true, false, not, ◌&&◌}
use mathlib.Core.List.{List}
use lib.Dec.{ltb}
use lib.ListN.{length, take, drop}
use borrow.Author.Tests.{lt-ltb, le-ltb}
use Rattle.tokens.specs.Written.{same}
use Rattle.tokens.specs.Refusals.{not_here}
use Rattle.tokens.specs.Tokens.{stop, tok, toks}
use Rattle.tokens.proofs.Laws.{Seen, Halted, fault_real}
use Rattle.meaning.specs.Reader.{ahead_of}
use Rattle.words.specs.Cursor.{span, stream, Stands, alive}
use Rattle.words.specs.declared.Cursor.{Cursor}
use Rattle.words.proofs.Flow.{stop_fault, stream_on, stream_stop}

-- ---- a cursor that stands at the first token from a place

pub at_token : {text : List ℕ} {at p l : ℕ} → Seen text at p l → Stands text at (record { no = 0; fault = 0; at = p; end = p + l })
at_token {text} {at} {p} {l} s =
    let e : p + l - p ≡ l = omega arith in
    record {
      on = refl;
      there =
          stream_on text (record { no = 0; fault = 0; at = p; end = p + l }) (lt-ltb p (p + l) (omega (arith, s.some)))
          ∙ ap (λ (n : ℕ). tok (record { at = p; word = take n (drop p text) }) (toks text (p + l))) e
          ∙ sym s.stream;
    }

pub at_end : {text : List ℕ} {at e : ℕ} → toks text at ≡ stop not_here (at + (length text - at)) → e ≡ at + (length text - at)
    → Stands text at (record { no = 0; fault = 0; at = e; end = 0 })
at_end {text} {at} {e} h k =
    record {
      on = refl;
      there =
          stream_stop text (record { no = 0; fault = 0; at = e; end = 0 }) (le-ltb e 0 (omega arith)) ∙ ap (stop not_here) k ∙ sym h;
    }

pub at_fault : {text : List ℕ} {at n q : ℕ} → Halted text at n q → Stands text at (record { no = 0; fault = n; at = q; end = 0 })
at_fault {text} {at} {n} {q} h =
    record {
      on = refl;
      there =
          stream_stop text (record { no = 0; fault = n; at = q; end = 0 }) (le-ltb q 0 (omega arith))
          ∙ ap (λ (m : ℕ). stop m q) (stop_fault (record { no = 0; fault = n; at = q; end = 0 }) (fault_real h.fault).0)
          ∙ sym h.stream;
    }

-- ---- is it a given one

-- by its bytes v
pub ahead_by : (text : List ℕ) (c : Cursor) (w : List ℕ) {v : List ℕ} {b : Bool} → v ≡ span text c.at c.end → b ≡ same v w
    → (alive c && ltb c.at c.end && b) ≡ (alive c && ahead_of w (stream text c))
unfolding ahead_of
ahead_by text c w {v} {b} e f = by (alive c) (ltb c.at c.end) refl
  where
    by : (x y : Bool) → ltb c.at c.end ≡ y → (x && y && b) ≡ (x && ahead_of w (stream text c))
    by false y h = refl
    by true true h = f ∙ ap (λ (u : List ℕ). same u w) e ∙ sym (ap (ahead_of w) (stream_on text c h))
    by true false h = sym (ap (ahead_of w) (stream_stop text c h))

pub until_by : (x y : Bool) {b : Bool} → b ≡ (x && y) → (x && not b) ≡ (x && not y)
until_by true y e = ap not e
until_by false y e = refl
