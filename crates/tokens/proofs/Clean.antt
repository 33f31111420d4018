-- What the layers above go by of a text with no fault: reading it is never refused, and its stream ends with the text.
use Prim.Native.Nat.{ℕ, ◌+◌, ◌≤◌}
use native.Mathlib.Omega.{arith}
use mathlib.Core.Path.{◌≡◌, sym, ◌∙◌}
use mathlib.Core.Bool.{Bool, true, false}
use mathlib.Core.Logic.{◌⊎◌, ⊎_elim}
use mathlib.Core.Option.{Option, none, some}
use mathlib.Core.List.{List}
use lib.ListN.{length, drop, length-drop}
use lib.Dec.{leb}
use borrow.Author.Tests.{ne_eqb}
use Rattle.tokens.specs.Refusals.{text_most, too_long, bad_byte, open_comment, not_here}
use Rattle.tokens.specs.Tokens.{Toks, stop, tok, plain, toks, found, refused, next_token, fault_in, fault_of}
use Rattle.tokens.proofs.Stream.{Closes, closes}
use Rattle.tokens.proofs.Laws.{at_token, fault_real}
use Rattle.tokens.proofs.Faults.{fault_from, fault_behind, fault_there}

-- the places between tokens: the text's beginning, and each end of a token that is found from such a place
pub data Boundary (text : List ℕ) : ℕ → Type 0 where
  start : Boundary text 0
  behind : {at p l : ℕ} → Boundary text at → next_token text at ≡ found p l → Boundary text (p + l)

-- such a place lies within the text
pub boundary_within : {text : List ℕ} {at : ℕ} → Boundary text at → at ≤ length text
boundary_within start = omega arith
boundary_within {text} (behind {at} {p} {l} b e) = (at_token text at p l e).within

-- from each of them on there is no fault
clean_from : {text : List ℕ} {at : ℕ} → fault_of text ≡ none → Boundary text at → fault_from text at ≡ none
unfolding fault_of
clean_from h start = h
clean_from {text} h (behind {at} {p} {l} b e) = sym (fault_behind text at p l e) ∙ clean_from h b

-- reading such a text is never refused
pub clean_read : (text : List ℕ) (at n q : ℕ) → fault_of text ≡ none → Boundary text at → next_token text at ≡ refused n q → ⊥
clean_read text at n q h b e =
    let f : fault_from text at ≡ some (n, q) = fault_there text at n q e in
    let g : fault_from text at ≡ none = clean_from h b in
    let z : ◌≡◌ {A = ℕ} 0 1 = cc in
    omega arith

-- a stream stops with the number n at the place q
abbrev pub Ends : ℕ → ℕ → Toks → Type 0
Ends n q (stop m o) = (m ≡ n) × (o ≡ q)
Ends n q (tok t ts) = Ends n q ts

no_fault : (text : List ℕ) (at : ℕ) → fault_from text at ≡ none → fault_in (toks text at) ≡ none
no_fault text at e = by (leb (length text) text_most) e
  where
    by : (b : Bool) → ◌≡◌ {A = Option (ℕ × ℕ)} (elim b [ true ↦ fault_in (toks text at) | false ↦ some (too_long, 0) ]) none
        → fault_in (toks text at) ≡ none
    by true h = h
    by false h = cc

ends : (e : ℕ) (ts : Toks) → Closes e ts → fault_in ts ≡ none → Ends not_here e ts
unfolding fault_in
ends e (tok t ts) c h = ends e ts c h
ends e (stop n q) c h = ⊎_elim (λ w. w) (λ f. let z = real f in absurd (omega arith)) c
  where
    real : (n ≡ bad_byte) ⊎ (n ≡ open_comment) → ◌≡◌ {A = ℕ} 0 1
    real f =
        let z : ◌≡◌ {A = Option (ℕ × ℕ)} (some (n, q)) none = rw (ne_eqb n not_here (fault_real f).1, fault_in) at h in
        cc

-- and its stream stops with 4 at the text's length
pub clean_ends : (text : List ℕ) (at : ℕ) → fault_of text ≡ none → Boundary text at → Ends not_here (length text) (toks text at)
unfolding toks
clean_ends text at h b =
    let k : at + length (drop at text) ≡ length text = omega (arith, length-drop at text, boundary_within b) in
    rw k at (ends (at + length (drop at text)) (toks text at) (closes plain at (drop at text)) (no_fault text at (clean_from h b)))
