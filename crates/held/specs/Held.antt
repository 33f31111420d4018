-- Where tokens hold a body: one statement's head at a time, as a player reads it; a used body is held where it was declared. And where
-- in a text a declared body begins.
use Rattle.std.specs.Prelude.{◌≡◌, ℕ, ◌+◌, true, false, List, [], ◌∷◌}
use Rattle.std.proofs.Math.Option.{some}
use Rattle.tokens.specs.Written.{bytes}
use Rattle.tokens.specs.Tokens.{Tok, Toks, tok, toks}
use Rattle.meaning.specs.Bounds.{depth_most}
use Rattle.meaning.specs.Reader.{Reader, ok}
use Rattle.meaning.specs.Names.{find}
use Rattle.meaning.specs.Body.{listed, looped, shifted, entered, Body, done, vec, set', inner}
use Rattle.meaning.specs.Statements.{Decl, Decls, Env, Head, ends, vecs, sets, loops, shifts, uses, head}

-- a statement's head with every restriction lifted: as in a macro or procedure itself, with all levels to go, no Shift before
abbrev pub free_head : Env → Reader Head
free_head e = head e true depth_most false

-- each of some declared bodies
unfoldable pub All : (Tok × Decl → Type 0) → Decls → Type 0
All P [] = Unit {0}
All P (x ∷ l) = P x × All P l

module _ (e : Env) where
  -- at ts the head h stands, and vs behind it
  abbrev pub HeadAt : Toks → Head → Toks → Type 0
  HeadAt ts h vs = free_head e ts ≡ ok h vs

  -- from ts the tokens hold the statements of a body and its `}`, behind which us stand
  unfoldable pub Holds : Toks → Body → Toks → Type 0
  Holds ts done us = HeadAt ts ends us
  Holds ts (vec p a r) us = (vs : Toks) × HeadAt ts (vecs p a) vs × Holds vs r us
  Holds ts (set' x r) us = (vs : Toks) × HeadAt ts (sets x) vs × Holds vs r us
  Holds ts (inner (looped n) b r) us = (vs : Toks) × (ws : Toks) × HeadAt ts (loops n) vs × Holds vs b ws × Holds ws r us
  Holds ts (inner shifted b r) us = (vs : Toks) × (ws : Toks) × HeadAt ts shifts vs × Holds vs b ws × Holds ws r us
  Holds ts (inner (entered k t a) b r) us =
      (vs : Toks) × (ws : Toks) × (x : Decl) × HeadAt ts (uses k x t a) vs × (x.body ≡ b) × Holds x.from b ws × Holds vs r us

  -- a declared body is held where it was declared
  abbrev pub Stands : Decl → Type 0
  Stands d = (us : Toks) × Holds d.from d.body us

  abbrev pub AllStand : Decls → Type 0
  AllStand = All (λ x. Stands x.1)

  -- the run: each listed name's pattern, held where it stands
  unfoldable pub Listed : Decls → List Tok → Body → Type 0
  Listed ps [] r = r ≡ done
  Listed ps (t ∷ l) r =
      (x : Decl) × (s : Body) × (r ≡ inner (entered listed 0 []) x.body s) × (find ps t.word ≡ some x) × Stands x × Listed ps l s

-- a declared body in a text: from some place on its name is next, then `{`, and then the body, from the byte behind the `{` on
pub record Placed (text : List ℕ) (x : Tok × Decl) : Type 0 where
  pub at : ℕ
  pub brace : ℕ
  pub named : toks text at ≡ tok x.0 (tok (record { at = brace; word = bytes "{" }) x.1.from)
  pub from : x.1.from ≡ toks text (brace + 1)
