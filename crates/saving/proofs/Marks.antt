-- A span that a refusal overwrites lies in the text, and begins with a byte of a token: no space.
use Prim.Native.Nat.{ℕ, zero, suc, ◌+◌, ◌≤◌, ◌<◌}
use native.Mathlib.Omega.{arith}
use mathlib.Core.Path.{◌≡◌, refl, sym, ◌∙◌, subst}
use mathlib.Core.Bool.{Bool, true, false}
use mathlib.Core.Option.{Option, none, some}
use mathlib.Core.List.{List, [], ◌∷◌}
use lib.Dec.{eqb}
use lib.ListN.{length, get_or}
use Rattle.tokens.specs.Written.{bytes, same, cases}
use Rattle.tokens.specs.Bytes.{blank}
use Rattle.tokens.specs.Tokens.{Tok, Toks, stop, tok, toks}
use Rattle.tokens.proofs.Laws.{unfolds}
use Rattle.tokens.proofs.Reading.{blank_goes}
use Rattle.meaning.specs.Refusals.{not_defined}
use Rattle.meaning.proofs.SameTokens.{stands_there}
use Rattle.saving.specs.Saving.{Span, Block, Turn, on, ends, closing, beginning, turn, following, blocks_from, blocks, in_block, block_at, semicolon, up_to, entry, of_block, hurt}

module _ (text : List ℕ) where
  -- a place with a byte that is no space
  pub record Ink (a : ℕ) : Type 0 where
    pub inside : a < length text
    pub mark : get_or text a 0 ≡ 32 → ⊥

  -- of a span
  pub record Marked (s : Span) : Type 0 where
    pub ink : Ink s.first
    pub some : s.first < s.behind
    pub within : s.behind ≤ length text

  -- ---- the tokens of the text

  -- a token begins with a byte that is no space
  pub token_ink : (at : ℕ) (t : Tok) (ts : Toks) → toks text at ≡ tok t ts → Ink t.at
  unfolding blank
  token_ink at t ts e =
      let u = unfolds text at t ts e in
      let i : t.at < length text = omega (arith, u.some, u.within) in
      record {
        inside = i;
        mark = λ z. (
            let there = stands_there text t ts (record { at = at; is = sym e }) in
            let on = sym (blank_goes text t.at i (rw z)) ∙ there in
            omega (arith, (unfolds text (t.at + 1) t ts on).from));
      }

  -- ---- blocks

  -- a block has begun before the place p, if any has
  abbrev Begun : Option ℕ → ℕ → Type 0
  Begun none p = Unit {0}
  Begun (some a) p = Ink a × (a < p)

  abbrev AllMarked : List Block → Type 0
  AllMarked [] = Unit {0}
  AllMarked (b ∷ bs) = Marked b.span × AllMarked bs

  begun_on : (o : Option ℕ) {p q : ℕ} → p ≤ q → Begun o p → Begun o q
  begun_on none h b = tt
  begun_on (some a) h b = (b.0, omega (arith, b.1))

  -- what a token at p does, where the next stands at q or behind it
  abbrev Turned : ℕ → Turn → Type 0
  Turned q (on d o) = Begun o q
  Turned q (ends s) = Marked s

  turned : (d : ℕ) (o : Option ℕ) (t : Tok) {q : ℕ} → Begun o t.at → Ink t.at → t.at < q → Turned q (turn d o t)
  unfolding turn cases closing beginning
  turned d o t {q} b i h = by (same t.word (bytes "{")) (same t.word (bytes "}")) (same t.word (bytes "Pattern"))
    where
      close : (d : ℕ) (o : Option ℕ) → Begun o t.at → Turned q (closing d o (t.at + 1))
      close zero o b = begun_on o (omega arith) b
      close (suc d) none b = tt
      close (suc zero) (some a) b = record { ink = b.0; some = omega (arith, b.1); within = omega (arith, i.inside) }
      close (suc (suc d)) (some a) b = (b.0, omega (arith, b.1))

      begin : (d : ℕ) (o : Option ℕ) → Begun o t.at → Turned q (beginning d o t.at)
      begin zero none b = (i, h)
      begin zero (some a) b = (b.0, omega (arith, b.1))
      begin (suc d) o b = begun_on o (omega arith) b

      by : (x y z : Bool) → Turned q (cases ((x, on (suc d) o) ∷ (y, closing d o (t.at + 1)) ∷ (z, beginning d o t.at) ∷ []) (on d o))
      by true y z = begun_on o (omega arith) b
      by false true z = close d o b
      by false false true = begin d o b
      by false false false = begun_on o (omega arith) b

  blocks_marked : (ts : Toks) (at d : ℕ) (o : Option ℕ) → ts ≡ toks text at → Begun o at → AllMarked (blocks_from (length text) d o ts)
  unfolding blocks_from following
  blocks_marked (stop n p) at d none e b = tt
  blocks_marked (stop n p) at d (some a) e b = (record { ink = b.0; some = b.0.inside; within = omega arith }, tt)
  blocks_marked (tok t ts) at d o e b =
      let u = unfolds text at t ts (sym e) in
      by (turn d o t) (turned d o t (begun_on o u.from b) (token_ink at t ts (sym e)) (omega (arith, u.some)))
      (λ d o. blocks_marked ts (t.at + length t.word) d o u.rest)
    where
      by : (r : Turn) → Turned (t.at + length t.word) r → ((d : ℕ) (o : Option ℕ) → Begun o (t.at + length t.word) → AllMarked (blocks_from (length text) d o ts))
          → AllMarked (following r (λ d o. blocks_from (length text) d o ts))
      by (on d o) h ih = ih d o h
      by (ends s) h ih = (h, ih 0 none tt)

  block_marked : (p : ℕ) (bs : List Block) → AllMarked bs → (s : Span) → block_at p bs ≡ some s → Marked s
  unfolding block_at
  block_marked p [] m s e = let z : ◌≡◌ {A = ℕ} 0 1 = cc in absurd (omega arith)
  block_marked p (b ∷ bs) m s e = by (in_block p b) e (block_marked p bs m.1 s)
    where
      by : (t : Bool) → ◌≡◌ {A = Option Span} (elim t [ true ↦ some b.span | false ↦ block_at p bs ]) (some s) → (block_at p bs ≡ some s → Marked s) → Marked s
      by true e ih = let q : b.span ≡ s = cc in subst Marked q m.0
      by false e ih = ih e

  -- ---- entries of the list

  semicolon_behind : (ts : Toks) (at q : ℕ) → ts ≡ toks text at → semicolon ts ≡ some q → (at < q) × (q ≤ length text)
  unfolding semicolon
  semicolon_behind (stop n p) at q e f = let z : ◌≡◌ {A = ℕ} 0 1 = cc in absurd (omega arith)
  semicolon_behind (tok t ts) at q e f =
      let u = unfolds text at t ts (sym e) in
      by (same t.word (bytes ";")) f (semicolon_behind ts (t.at + length t.word) q u.rest) u.from u.some u.within
    where
      by : (c : Bool) → ◌≡◌ {A = Option ℕ} (elim c [ true ↦ some (t.at + 1) | false ↦ semicolon ts ]) (some q)
          → (semicolon ts ≡ some q → (t.at + length t.word < q) × (q ≤ length text)) → at ≤ t.at → 0 < length t.word → t.at + length t.word ≤ length text
          → (at < q) × (q ≤ length text)
      by true f ih x y z = let k : t.at + 1 ≡ q = cc in (omega arith, omega arith)
      by false f ih x y z = let i = ih f in (omega (arith, i.0), i.1)

  entry_marked : (ts : Toks) (at : ℕ) → ts ≡ toks text at → (s : Span) → entry ts ≡ some s → Marked s
  unfolding entry up_to
  entry_marked (stop n p) at e s f = let z : ◌≡◌ {A = ℕ} 0 1 = cc in absurd (omega arith)
  entry_marked (tok t ts) at e s f = by (semicolon ts) refl f
    where
      by : (o : Option ℕ) → semicolon ts ≡ o → up_to t.at o ≡ some s → Marked s
      by none g f = let z : ◌≡◌ {A = ℕ} 0 1 = cc in absurd (omega arith)
      by (some q) g f =
          let u = unfolds text at t ts (sym e) in
          let k = semicolon_behind ts (t.at + length t.word) q u.rest g in
          let i : record { first = t.at; behind = q } ≡ s = cc in
          subst Marked i (record { ink = token_ink at t ts (sym e); some = omega (arith, k.0); within = k.1 })

  -- THE LAW
  pub hurt_marked : (n p : ℕ) (s : Span) → hurt text n p ≡ some s → Marked s
  unfolding hurt blocks
  hurt_marked n p s e = by (of_block n) (eqb n not_defined) e
    where
      by : (x y : Bool) → ◌≡◌ {A = Option Span} (elim x [ true ↦ block_at p (blocks text) | false ↦ elim y [ true ↦ entry (toks text p) | false ↦ none ] ]) (some s) → Marked s
      by true y e = block_marked p (blocks text) (blocks_marked (toks text 0) 0 0 none refl tt) s e
      by false true e = entry_marked (toks text p) p refl s e
      by false false e = let z : ◌≡◌ {A = ℕ} 0 1 = cc in absurd (omega arith)
