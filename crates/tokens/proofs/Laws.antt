-- What the layers above go by: the tokens of a text as a stream, one token after the other, and what the next token tells of it.
use Prim.Native.Nat.{ℕ, ◌+◌, ◌-◌, ◌≤◌, ◌<◌}
use native.Mathlib.Omega.{arith}
use mathlib.Core.Path.{◌≡◌, refl, sym, ap, ◌∙◌, subst}
use mathlib.Core.Bool.{Bool, true, false}
use mathlib.Core.Logic.{◌⊎◌, inl, inr, ⊎_elim}
use mathlib.Core.List.{List}
use lib.ListN.{length, take, drop, length-drop}
use lib.Seq.{drop-drop}
use lib.Dec.{eqb, leb}
use borrow.Author.Tests.{eqb-true, eqb-false}
use Rattle.tokens.specs.Refusals.{text_most, too_long, bad_byte, open_comment, not_here}
use Rattle.tokens.specs.Tokens.{Tok, Toks, stop, tok, plain, lex, toks, left, Next, found, nothing, refused, first, next_token}
use Rattle.tokens.proofs.Reading.{short_enough}
use Rattle.tokens.proofs.Stream.{Ahead, First, first_of, Stops, Closes, closes, few}

-- ---- the stream

-- the token t, first from the place `at`, and the tokens ts behind it
pub record Unfolds (text : List ℕ) (at : ℕ) (t : Tok) (ts : Toks) : Type 0 where
  -- its bytes are the text's bytes there
  pub bytes : t.word ≡ take (length t.word) (drop t.at text)
  -- what stands behind it is the stream from its end on
  pub rest : ts ≡ toks text (t.at + length t.word)
  -- it stands at the place or further on, takes a byte at least, and ends within the text
  pub from : at ≤ t.at
  pub some : 0 < length t.word
  pub within : t.at + length t.word ≤ length text

-- the stream unfolds one token at a time
pub unfolds : (text : List ℕ) (at : ℕ) (t : Tok) (ts : Toks) → toks text at ≡ tok t ts → Unfolds text at t ts
unfolding toks
unfolds text at t ts e =
    let w : Ahead at (drop at text) t ts = subst (First at (drop at text)) e (first_of plain at (drop at text)) in
    let d : drop w.skip (drop at text) ≡ drop t.at text = drop-drop w.skip at text ∙ ap (λ (n : ℕ). drop n text) (sym w.place) in
    let k : length (drop w.skip (drop at text)) ≡ length text - t.at = ap length d ∙ length-drop t.at text in
    record {
      bytes = w.begins.bytes ∙ ap (λ (l : List ℕ). take (length t.word) l) d;
      rest =
          w.begins.rest
          ∙ ap (lex plain (t.at + length t.word))
          (ap (drop (length t.word)) d ∙ drop-drop (length t.word) t.at text);
      from = omega (arith, w.place);
      some = w.begins.some;
      within = omega (arith, w.begins.short, w.begins.some);
    }

-- a stream stops where the text ends, with 4, or at a fault, with 2 or 3
pub stops : (text : List ℕ) (at n q : ℕ) → toks text at ≡ stop n q
    → ((n ≡ not_here) × (q ≡ at + (length text - at))) ⊎ ((n ≡ bad_byte) ⊎ (n ≡ open_comment))
unfolding toks
stops text at n q e =
    subst (λ (k : ℕ). Stops (at + k) n q) (length-drop at text) (subst (Closes (at + length (drop at text))) e (closes plain at (drop at text)))

-- a fault is neither 0, by which readers say that all is well, nor 4, the text's end
pub fault_real : {n : ℕ} → (n ≡ bad_byte) ⊎ (n ≡ open_comment) → (n ≡ 0 → ⊥) × (n ≡ not_here → ⊥)
fault_real (inl e) = (λ z. omega arith, λ z. omega arith)
fault_real (inr e) = (λ z. omega arith, λ z. omega arith)

-- there are at most as many tokens as bytes
pub left_most : (text : List ℕ) (at : ℕ) → left (toks text at) ≤ length text - at
unfolding toks
left_most text at = omega (arith, few plain at (drop at text), length-drop at text)

-- ---- the first token from a place, as the code finds it

-- a token of l bytes at p
pub record Seen (text : List ℕ) (at p l : ℕ) : Type 0 where
  pub stream : toks text at ≡ tok (record { at = p; word = take l (drop p text) }) (toks text (p + l))
  pub from : at ≤ p
  pub some : 0 < l
  pub within : p + l ≤ length text

-- where a token is found, the stream is that token and the stream from its end
pub first_token : (text : List ℕ) (at p l : ℕ) → first (toks text at) ≡ found p l → Seen text at p l
unfolding first
first_token text at p l e = by (toks text at) refl e
  where
    stopped : (b : Bool) (n q : ℕ) → ◌≡◌ {A = Next} (elim b [ true ↦ nothing | false ↦ refused n q ]) (found p l) → ◌≡◌ {A = ℕ} 0 1
    stopped true n q e = cc
    stopped false n q e = cc

    by : (ts : Toks) → toks text at ≡ ts → first ts ≡ found p l → Seen text at p l
    by (stop n q) h e = let z = stopped (eqb n not_here) n q e in absurd (omega arith)
    by (tok t ts) h e =
        let u = unfolds text at t ts h in
        let a : t.at ≡ p = cc in
        let b : length t.word ≡ l = cc in
        record {
          stream =
              h ∙ ap (λ (w : List ℕ). tok (record { at = t.at; word = w }) ts) u.bytes
              ∙ ap (tok (record { at = t.at; word = take (length t.word) (drop t.at text) })) u.rest
              ∙ rw (a, b);
          from = omega (arith, u.from);
          some = omega (arith, u.some);
          within = omega (arith, u.within);
        }

-- where there is nothing more, the stream stops with 4 at the text's end
pub first_end : (text : List ℕ) (at : ℕ) → first (toks text at) ≡ nothing → toks text at ≡ stop not_here (at + (length text - at))
unfolding first
first_end text at e = by (toks text at) refl e
  where
    halt : (b : Bool) (n q : ℕ) → eqb n not_here ≡ b → toks text at ≡ stop n q
        → ◌≡◌ {A = Next} (elim b [ true ↦ nothing | false ↦ refused n q ]) nothing → toks text at ≡ stop not_here (at + (length text - at))
    halt false n q k h e = let z : ◌≡◌ {A = ℕ} 0 1 = cc in absurd (omega arith)
    halt true n q k h e =
        let a : n ≡ not_here = eqb-true n not_here k in
        ⊎_elim (λ w. h ∙ rw (a, w.1)) (λ w. absurd (⊎_elim (λ z. omega arith) (λ z. omega arith) w)) (stops text at n q h)

    by : (ts : Toks) → toks text at ≡ ts → first ts ≡ nothing → toks text at ≡ stop not_here (at + (length text - at))
    by (tok t ts) h e = let z : ◌≡◌ {A = ℕ} 0 1 = cc in absurd (omega arith)
    by (stop n q) h e = halt (eqb n not_here) n q refl h e

-- a fault n at the place q
pub record Halted (text : List ℕ) (at n q : ℕ) : Type 0 where
  pub stream : toks text at ≡ stop n q
  pub fault : (n ≡ bad_byte) ⊎ (n ≡ open_comment)

-- where reading is refused, the stream stops there, with 2 or 3
pub first_fault : (text : List ℕ) (at n q : ℕ) → first (toks text at) ≡ refused n q → Halted text at n q
unfolding first
first_fault text at n q e = by (toks text at) refl e
  where
    halt : (b : Bool) (m o : ℕ) → eqb m not_here ≡ b → toks text at ≡ stop m o
        → ◌≡◌ {A = Next} (elim b [ true ↦ nothing | false ↦ refused m o ]) (refused n q) → Halted text at n q
    halt true m o k h e = let z : ◌≡◌ {A = ℕ} 0 1 = cc in absurd (omega arith)
    halt false m o k h e =
        let a : m ≡ n = cc in
        let b : o ≡ q = cc in
        let g : toks text at ≡ stop n q = h ∙ rw (a, b) in
        record { stream = g; fault = ⊎_elim (λ w. absurd (eqb-false m not_here k (a ∙ w.0))) (λ w. w) (stops text at n q g) }

    by : (ts : Toks) → toks text at ≡ ts → first ts ≡ refused n q → Halted text at n q
    by (tok t ts) h e = let z : ◌≡◌ {A = ℕ} 0 1 = cc in absurd (omega arith)
    by (stop m o) h e = halt (eqb m not_here) m o refl h e

-- ---- the next token: the same, in a text that is short enough

-- a text that is read is short enough, and its next token is the stream's first
read : (text : List ℕ) (at : ℕ) (x : Next) → (refused too_long 0 ≡ x → ⊥) → next_token text at ≡ x → first (toks text at) ≡ x
unfolding next_token
read text at x k e = by (leb (length text) text_most) e
  where
    by : (b : Bool) → elim b [ true ↦ first (toks text at) | false ↦ refused too_long 0 ] ≡ x → first (toks text at) ≡ x
    by true e = e
    by false e = absurd (k e)

pub at_token : (text : List ℕ) (at p l : ℕ) → next_token text at ≡ found p l → Seen text at p l
at_token text at p l e = first_token text at p l (read text at (found p l) (λ z. let o : ◌≡◌ {A = ℕ} 0 1 = cc in omega arith) e)

pub at_end : (text : List ℕ) (at : ℕ) → next_token text at ≡ nothing → toks text at ≡ stop not_here (at + (length text - at))
at_end text at e = first_end text at (read text at nothing (λ z. let o : ◌≡◌ {A = ℕ} 0 1 = cc in omega arith) e)

pub at_fault : (text : List ℕ) (at n q : ℕ) → length text ≤ text_most → next_token text at ≡ refused n q → Halted text at n q
at_fault text at n q s e = first_fault text at n q (sym (short_enough text at s) ∙ e)
