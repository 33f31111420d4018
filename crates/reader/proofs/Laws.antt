-- Passing again and again meets the tokens of the text, each once and in their order, and then its end over and over.
use Prim.Native.Nat.{ℕ, zero, suc, ◌+◌, ◌-◌, ◌≤◌, ◌<◌}
use native.Mathlib.Omega.{arith}
use native.Mathlib.Nat.{zero-add, suc-add}
use mathlib.Core.Path.{◌≡◌, refl, sym, ap, ◌∙◌}
use mathlib.Core.Bool.{Bool, true, false}
use mathlib.Core.List.{List, ◌∷◌, ◌++◌}
use lib.ListN.{length, take, drop, replicate}
use lib.Seq.{drop-drop, take-add}
use lib.Dec.{eqb, leb}
use denote.Ref.{Bor}
use borrow.Author.Tests.{le-leb, lt-leb, leb-true, leb-false}
use Rattle.tokens.specs.Refusals.{text_most, too_long, not_here}
use Rattle.tokens.specs.Tokens.{Toks, stop, tok, toks, left, Next, found, nothing, refused, first, next_token}
use Rattle.columns.specs.Columns.{onward, position, capped}
use Rattle.columns.proofs.Laws.{onward_capped, onward_joins, later_is}
use Rattle.columns.specs.declared.Position.{Position}
use Rattle.tokens.proofs.Laws.{unfolds, at_token}
use Rattle.reader.specs.Pass.{later, seen_in, seen, standing, placed, behind, behind_next, position_behind, passed_by, passed, passes, answers, ending}
use Rattle.std.specs.Prelude.{Some, None, Ok, Err}
use Rattle.tokens.specs.declared.Token.{Token}
use Rattle.tokens.specs.declared.Refusal.{Refusal}
use Rattle.reader.specs.declared.Reader.{Reader}

-- an answer that is known tells the place behind it
pub behind_known : (text : List ℕ) (at : ℕ) (x : Next) → next_token text at ≡ x → behind x at ≡ behind_next text at
behind_known text at x e = ap (λ (n : Next). behind n at) (sym e)

-- where a stream stops, the place stays
stop_stays : (n q at : ℕ) → behind (first (stop n q)) at ≡ at
unfolding first behind
stop_stays n q at = by (eqb n not_here)
  where
    by : (b : Bool) → behind (elim b [ true ↦ nothing | false ↦ refused n q ]) at ≡ at
    by true = refl
    by false = refl

module _ (text : List ℕ) where
  token_passed : (n at p l : ℕ) → next_token text at ≡ found p l → passes (suc n) text at ≡ found p l ∷ passes n text (p + l)
  unfolding passes behind
  token_passed n at p l e = rw e

  -- where the place stays, every pass answers the same
  same_again : (n at : ℕ) (x : Next) → next_token text at ≡ x → behind x at ≡ at → passes n text at ≡ replicate n x
  unfolding passes
  same_again zero at x e k = refl
  same_again (suc n) at x e k =
      let there : behind_next text at ≡ at = sym (behind_known text at x e) ∙ k in
      rw (there, e, same_again n at x e k)

  module _ (short : length text ≤ text_most) where
    next_first : (at : ℕ) → next_token text at ≡ first (toks text at)
    unfolding next_token
    next_first at = rw (le-leb (length text) text_most short, next_token)

    stream_passed : (n at : ℕ) (ts : Toks) → toks text at ≡ ts → passes (left ts + n) text at ≡ answers ts ++ replicate n (ending ts)
    unfolding left answers ending first
    stream_passed n at (stop m q) e =
        ap (λ (k : ℕ). passes k text at) (zero-add n) ∙ same_again n at (first (stop m q)) (next_first at ∙ ap first e) (stop_stays m q at)
    stream_passed n at (tok t ts) e =
        let behind-it = t.at + length t.word in
        ap (λ (k : ℕ). passes k text at) (suc-add (left ts) n)
        ∙ token_passed (left ts + n) at _ _ (next_first at ∙ ap first e)
        ∙ ap (λ (xs : List Next). found t.at (length t.word) ∷ xs) (stream_passed n behind-it ts (sym (unfolds text at t ts e).rest))

    -- as many passes as there are tokens meet them one by one, and n more meet the end n times
    pub tokens_passed : (n at : ℕ) → passes (left (toks text at) + n) text at ≡ answers (toks text at) ++ replicate n (ending (toks text at))
    tokens_passed n at = stream_passed n at (toks text at) refl

  -- of a text that is too long, every pass is refused
  pub too_long_passed : text_most < length text → (n at : ℕ) → passes n text at ≡ replicate n (refused too_long 0)
  unfolding next_token behind
  too_long_passed long n at = same_again n at (refused too_long 0) (rw (lt-leb (length text) text_most long, next_token)) refl

-- ---- lines and columns

module _ (text : List ℕ) (at : ℕ) where
  -- two parts that follow each other, gone over one after the other
  later_on : (q : Position) (p l : ℕ) → at ≤ p → capped (onward (later text at q p) (take (p + l - p) (drop p text))) ≡ later text at q (p + l)
  later_on q p l h =
      let first : List ℕ = take (p - at) (drop at text) in
      let there : at + (p - at) ≡ p = omega arith in
      let long : p + l - p ≡ l = omega arith in
      let all : p - at + l ≡ p + l - at = omega arith in
      let second : take (p + l - p) (drop p text) ≡ take l (drop (p - at) (drop at text)) =
      ap (λ n. take n (drop p text)) long ∙ ap (take l) (ap (λ n. drop n text) (sym there) ∙ sym (drop-drop (p - at) at text))
      in
      onward_capped (onward q first) _ ∙ ap (λ ys. capped (onward (onward q first) ys)) second ∙ ap capped (sym (onward_joins q first _))
      ∙ ap (λ ys. capped (onward q ys)) (sym (take-add (p - at) l (drop at text)) ∙ ap (λ n. take n (drop at text)) all)

  -- what is seen, once it is known
  pub seen_token : (q : Position) (t : Token) (here : Position) → next_token text at ≡ found t.at t.length → here ≡ later text at q t.at
      → Ok (Some (record { token = t; position = here })) ≡ seen text at q
  unfolding seen_in
  seen_token q t here e f = ap (λ (x : Position). Ok (Some (record { token = t; position = x }))) f ∙ ap (seen_in text at q) (sym e)

  pub seen_none : (q : Position) → next_token text at ≡ nothing → Ok None ≡ seen text at q
  unfolding seen_in
  seen_none q e = ap (seen_in text at q) (sym e)

  pub seen_refusal : (q : Position) (x : Refusal) → next_token text at ≡ refused x.no x.place → Err x ≡ seen text at q
  unfolding seen_in
  seen_refusal q x e = ap (seen_in text at q) (sym e)

  -- ---- a reader that stands at its place

  module _ (short : length text ≤ text_most) where
    later_placed : (p : ℕ) → at ≤ p → later text at (position text at) p ≡ position text p
    later_placed p h = later_is text at p h (omega (arith, short))

    seen_placed : (x : Next) → next_token text at ≡ x → seen_in text at (position text at) x ≡ placed text x
    unfolding seen_in placed
    seen_placed (found p l) e = ap (λ (x : Position). Ok (Some (record { token = record { at = p; length = l }; position = x }))) (later_placed p (at_token text at p l e).from)
    seen_placed nothing e = refl
    seen_placed (refused n p) e = refl

    behind_placed : (x : Next) → next_token text at ≡ x → position_behind text at (position text at) x ≡ position text (behind x at)
    unfolding position_behind behind
    behind_placed (found p l) e = later_placed (p + l) (omega (arith, (at_token text at p l e).from))
    behind_placed nothing e = refl
    behind_placed (refused n p) e = refl

-- the reader behind a token
pub passed_token : (r : Reader) (t : Token) (here there : Position) → r.at ≤ t.at → next_token r.text.now r.at ≡ found t.at t.length → here ≡ later r.text.now r.at r.position t.at
    → there ≡ capped (onward here (take (t.at + t.length - t.at) (drop t.at r.text.now)))
    → record { text = r.text; at = t.at + t.length; position = there } ≡ passed r
unfolding behind position_behind
passed_token r t here there h e f g =
    let text = r.text.now in
    let k : there ≡ later text r.at r.position (t.at + t.length) =
    g ∙ ap (λ x. capped (onward x (take (t.at + t.length - t.at) (drop t.at text)))) f ∙ later_on text r.at r.position t.at t.length h
    in ap (λ (x : Position). record { text = r.text; at = t.at + t.length; position = x }) k ∙ ap (passed_by r) (sym e)

-- where there is none, or a refusal, it stays
pub passed_none : (r : Reader) → next_token r.text.now r.at ≡ nothing → r ≡ passed r
unfolding behind position_behind
passed_none r e = ap (passed_by r) (sym e)

pub passed_refusal : (r : Reader) (x : Refusal) → next_token r.text.now r.at ≡ refused x.no x.place → r ≡ passed r
unfolding behind position_behind
passed_refusal r x e = ap (passed_by r) (sym e)

-- a text that is too long is refused, and the reader stays
module _ (text : List ℕ) (at : ℕ) (long : text_most < length text) where
  long_refused : next_token text at ≡ refused too_long 0
  unfolding next_token
  long_refused = rw (lt-leb (length text) text_most long, next_token)

  long_seen : seen text at (position text at) ≡ placed text (next_token text at)
  unfolding seen_in placed
  long_seen = ap (seen_in text at (position text at)) long_refused ∙ ap (placed text) (sym long_refused)

  long_behind : position_behind text at (position text at) (next_token text at) ≡ position text (behind_next text at)
  unfolding position_behind behind
  long_behind = ap (position_behind text at (position text at)) long_refused ∙ ap (λ (x : Next). position text (behind x at)) (sym long_refused)

-- EACH TOKEN HAS THE LINE AND THE COLUMN OF ITS PLACE, where the reader was put by `new`, `moved` or `pass`
pub standing_sees : (text : List ℕ) (at : ℕ) → seen text at (position text at) ≡ placed text (next_token text at)
standing_sees text at = by (leb (length text) text_most) refl
  where
    by : (b : Bool) → leb (length text) text_most ≡ b → seen text at (position text at) ≡ placed text (next_token text at)
    by true short = seen_placed text at (leb-true _ _ short) (next_token text at) refl
    by false long = long_seen text at (leb-false _ _ long)

-- and behind what it passes it stands again
pub standing_passes : (text : Bor (List ℕ)) (at : ℕ) → passed (standing text at) ≡ standing text (behind_next text.now at)
standing_passes text at = by (leb (length text.now) text_most) refl
  where
    from : position_behind text.now at (position text.now at) (next_token text.now at) ≡ position text.now (behind_next text.now at) → passed (standing text at) ≡ standing text (behind_next text.now at)
    from e = ap (λ (x : Position). record { text = text; at = behind_next text.now at; position = x }) e

    by : (b : Bool) → leb (length text.now) text_most ≡ b → passed (standing text at) ≡ standing text (behind_next text.now at)
    by true short = from (behind_placed text.now at (leb-true _ _ short) (next_token text.now at) refl)
    by false long = from (long_behind text.now at (leb-false _ _ long))
