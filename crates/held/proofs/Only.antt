-- At most one body stands at a place: once a head was read, the body is one that begins so.
use mathlib.Core.Path.{◌≡◌, refl, sym, ◌∙◌}
use Rattle.tokens.specs.Tokens.{Toks}
use Rattle.meaning.specs.Reader.{ok}
use Rattle.meaning.specs.Body.{looped, shifted, entered, Way, Body, done, vec, set', inner}
use Rattle.meaning.specs.Statements.{Env, Head, ends, vecs, sets, loops, shifts, uses}
use Rattle.held.specs.Held.{HeadAt, Holds, Stands}

module _ (E : Env) where
  -- a statement that plays a body in some way, both held: the body from vs, what is behind from where the body ends
  abbrev pub Opened : Way → Toks → Body → Toks → Type 0
  Opened w vs b us = (c : Body) × (r : Body) × (ws : Toks) × (b ≡ inner w c r) × Holds E vs c ws × Holds E ws r us

  -- what the body b is, once a head was read, behind which vs stand
  abbrev pub Split : Head → Toks → Body → Toks → Type 0
  Split ends vs b us = (b ≡ done) × (vs ≡ us)
  Split (vecs p a) vs b us = (r : Body) × (b ≡ vec p a r) × Holds E vs r us
  Split (sets x) vs b us = (r : Body) × (b ≡ set' x r) × Holds E vs r us
  Split (loops n) vs b us = Opened (looped n) vs b us
  Split shifts vs b us = Opened shifted vs b us
  Split (uses k x t a) vs b us = (r : Body) × (b ≡ inner (entered k t a) x.body r) × Stands E x × Holds E vs r us

  -- where a body is held a head is read, with the rest of the body behind it
  pub head_held : (ts : Toks) (b : Body) (us : Toks) → Holds E ts b us → (h : Head) × (vs : Toks) × HeadAt E ts h vs × Split h vs b us
  unfolding Holds
  head_held ts done us x = (ends, us, x, (refl, refl))
  head_held ts (vec p a r) us x = (vecs p a, x.0, x.1, (r, refl, x.2))
  head_held ts (set' s r) us x = (sets s, x.0, x.1, (r, refl, x.2))
  head_held ts (inner (looped n) b r) us x = (loops n, x.0, x.2, (b, r, x.1, refl, x.3, x.4))
  head_held ts (inner shifted b r) us x = (shifts, x.0, x.2, (b, r, x.1, refl, x.3, x.4))
  head_held ts (inner (entered k t a) b r) us x = (uses k x.2 t a, x.0, x.3, (r, rw x.4, (x.1, rw x.4 x.5), x.6))

  -- THE LAW: a head that was read gives the body's shape
  pub split : (ts : Toks) (b : Body) (us : Toks) → Holds E ts b us → (h : Head) (vs : Toks) → HeadAt E ts h vs → Split h vs b us
  split ts b us x h vs e =
      let i = head_held ts b us x in
      let z : ok i.0 i.1 ≡ ok h vs = sym i.2 ∙ e in
      let q : i.0 ≡ h = cc in
      let s : i.1 ≡ vs = cc in
      rw (← q, ← s) i.3

  -- two statements opened alike, with one body in them and one rest behind it, are one
  one_opened : (w : Way) (vs : Toks) (c : Body) (ws : Toks) (z : Opened w vs c ws) (b r : Body) (bs us : Toks)
      → (b ≡ z.0) × (bs ≡ z.2) → (Holds E bs z.1 ws → (r ≡ z.1) × (us ≡ ws)) → (inner w b r ≡ c) × (us ≡ ws)
  one_opened w vs c ws z b r bs us i h = let j = h (rw i.1 z.5) in (cc, j.1)

  -- THE LAW: at most one body, and one rest
  pub only : (ts : Toks) (b : Body) (us : Toks) → Holds E ts b us → (c : Body) (ws : Toks) → Holds E ts c ws → (b ≡ c) × (us ≡ ws)
  unfolding Holds
  only ts done us x c ws y = let z = split ts c ws y ends us x in (sym z.0, z.1)
  only ts (vec p a r) us x c ws y = let z = split ts c ws y _ _ x.1 in let i = only x.0 r us x.2 z.0 ws z.2 in (cc, i.1)
  only ts (set' s r) us x c ws y = let z = split ts c ws y _ _ x.1 in let i = only x.0 r us x.2 z.0 ws z.2 in (cc, i.1)
  only ts (inner (looped n) b r) us x c ws y =
      let z = split ts c ws y _ _ x.2 in
      one_opened (looped n) x.0 c ws z b r x.1 us (only x.0 b x.1 x.3 z.0 z.2 z.4) (only x.1 r us x.4 z.1 ws)
  only ts (inner shifted b r) us x c ws y =
      let z = split ts c ws y _ _ x.2 in
      one_opened shifted x.0 c ws z b r x.1 us (only x.0 b x.1 x.3 z.0 z.2 z.4) (only x.1 r us x.4 z.1 ws)
  only ts (inner (entered k t a) b r) us x c ws y =
      let z = split ts c ws y _ _ x.3 in
      let i = only x.0 r us x.6 z.0 ws z.3 in
      (cc, i.1)
