-- Readers that answer, followed by the code: one after the other, a test that refuses, and a part again and again until a closing brace.
use Prim.Native.Nat.{ℕ, ◌<◌}
use Prim.Native.String.{String}
use native.Mathlib.Omega.{arith}
use mathlib.Core.Path.{◌≡◌, sym, ap, ◌∙◌}
use mathlib.Core.Bool.{Bool, true, false, not, ◌&&◌}
use mathlib.Core.List.{List}
use borrow.Author.Tests.{not-false, not-true}
use Rattle.tokens.specs.Tokens.{Toks, left}
use Rattle.meaning.specs.Reader.{Reader, ok, ◌>>=◌, give, refuse_if, ahead, due, closed, until}
use Rattle.meaning.proofs.Takes.{Takes, while_done}
use Rattle.meaning.proofs.Gives.{bind_ok, give_ok, if_ok, gives_if}
use Rattle.held.proofs.Rest.{Leaves, Moves, moves_leaves, moves_takes}
use Rattle.held.proofs.Places.{rest_stream}
use Rattle.words.specs.Cursor.{alive, stream, Goes}
use Rattle.words.specs.declared.Cursor.{Cursor}
use Rattle.words.proofs.Flow.{went}
use Rattle.waves.proofs.Turns.{until_on}
use Rattle.spots.specs.Answers.{Answers, Behind}

-- ---- one reader and then the next

module _ {A B : Type 0} {text : List ℕ} {c : Cursor} (m : Reader A) (k : A → Reader B) {b : B} {us : Toks} where
  -- what the first reads, and what follows
  pub parts : Answers text c (m >>= k) b us → (a : A) × (vs : Toks) × Answers text c m a vs × (k a vs ≡ ok b us)
  parts x =
      let i = bind_ok m k (stream text c) b us x.gives in
      (i.0, i.1, record { on = x.on; placed = x.placed; gives = i.2 }, i.3)

  -- behind the first the rest is read
  pub behind : {d : Cursor} {a : A} {vs : Toks} → Leaves m → Answers text c m a vs → k a vs ≡ ok b us → Behind text d vs → Answers text d (k a) b us
  behind {d} {a} {vs} l x e h =
      let s = rest_stream text (l.rest (stream text c) a vs x.gives) x.placed in
      record { on = h.on; placed = (s.0, h.there ∙ s.1); gives = ap (k a) h.there ∙ e }

  -- the code read the first
  pub next : {d : Cursor} {a : A} → Leaves m → Answers text c (m >>= k) b us → Goes text c m d a → Answers text d (k a) b us
  next {d} {a} l x g =
      let p = parts x in
      let w = went g x.on p.2.gives in
      let s = rest_stream text (l.rest (stream text c) p.0 p.1 p.2.gives) x.placed in
      record { on = w.on; placed = (s.0, w.behind ∙ s.1); gives = ap (k a) w.behind ∙ ap (λ (y : A). k y p.1) w.is ∙ p.3 }

-- a test that would have refused
pub tested : {B : Type 0} {text : List ℕ} {c : Cursor} (t : Bool) (n p : ℕ) (k : Reader B) {b : B} {us : Toks} → Answers text c (refuse_if t n p >>= λ u. k) b us
    → (t ≡ false) × Answers text c k b us
tested {B} {text} {c} t n p k {b} {us} x =
    let i = bind_ok (refuse_if t n p) (λ u. k) (stream text c) b us x.gives in
    ((gives_if t n p).all _ _ _ i.2, record { on = x.on; placed = x.placed; gives = ap k (if_ok t n p i.2) ∙ i.3 })

pub finished : {A : Type 0} {text : List ℕ} {c : Cursor} (a : A) {b : A} {us : Toks} → Answers text c (give a) b us → (a ≡ b) × Behind text c us
finished a x = let g = give_ok x.gives in (g.0, record { on = x.on; there = g.1 })

-- ---- again and again, until a closing brace

module _ {S : Type 0} (close : String) (step : S → Reader S) (takes : (s : S) → Takes (step s)) (s : S) (ts : Toks) where
  until_last : {x : S} {us : Toks} → ahead close ts ≡ true → until close step s ts ≡ ok x us → (s ≡ x) × (p : ℕ) × (due close ts ≡ ok p us)
  unfolding until closed
  until_last {x} {us} h e =
      let all = bind_ok _ _ ts x us e in
      let turns = bind_ok _ _ ts all.0 all.1 all.2 in
      let end = bind_ok _ _ turns.1 all.0 all.1 turns.3 in
      let q = sym (while_done (λ us. not (ahead close us)) step takes s ts (ap not h)) ∙ turns.2 in
      let k : s ≡ turns.0 = cc in
      let l : ts ≡ turns.1 = cc in (
        k ∙ ap (λ (y : S × ℕ). y.0) (give_ok end.3).0 ∙ (give_ok all.3).0,
        end.0,
        ap (due close) l ∙ end.2 ∙ ap (ok end.0) ((give_ok end.3).1 ∙ (give_ok all.3).1),
      )

-- some of them are read: what they make of the state has P, and the rest answers a
pub record Turns {S : Type 0} (text : List ℕ) (step : S → Reader S) (P : S → Type 0) (c : Cursor) (a : S) (us : Toks) : Type 0 where
  pub state : S
  pub kept : P state
  pub rest : Answers text c (until "}" step state) a us

module _ {S : Type 0} {text : List ℕ} {step : S → Reader S} {P : S → Type 0} {c : Cursor} {a : S} {us : Toks} (moves : (s : S) → Moves (step s))
    (t : Turns text step P c a us) {y : Bool} (e : y ≡ (alive c && not (ahead "}" (stream text c)))) where
  test_is : not (ahead "}" (stream text c)) ≡ y
  test_is = sym (e ∙ ap (λ (z : Bool). z && not (ahead "}" (stream text c))) t.rest.on)

  -- one more
  module _ (h : y ≡ true) where
    pub turn : (s : S) × (vs : Toks) × Answers text c (step t.state) s vs × (until "}" step s vs ≡ ok a us)
    unfolding ◌>>=◌
    turn =
        let i = bind_ok (step t.state) (until "}" step) (stream text c) a us
        (sym (until_on "}" step (λ s. moves_takes (moves s)) t.state (stream text c) (not-true _ (test_is ∙ h))) ∙ t.rest.gives) in
        (i.0, i.1, record { on = t.rest.on; placed = t.rest.placed; gives = i.2 }, i.3)

    module _ {r : Cursor} {Q : S → Type 0} (f : (s s' : S) (vs : Toks) → P s → Answers text c (step s) s' vs → Behind text r vs × Q s') where
      pub again : Turns text step Q r a us
      again =
          let i = turn in
          let g = f t.state i.0 i.1 t.kept i.2 in
          record { state = i.0; kept = g.1; rest = behind (step t.state) (until "}" step) (moves_leaves (moves t.state)) i.2 i.3 g.0 }

      pub fewer : left (stream text r) < left (stream text c)
      fewer =
          let i = turn in
          let g = f t.state i.0 i.1 t.kept i.2 in
          omega (arith, ap left g.0.there, (moves_takes (moves t.state)).falls (stream text c) i.0 i.1 i.2.gives)

  -- the closing brace is ahead
  pub settled : y ≡ false → P a
  settled h = rw (until_last "}" step (λ s. moves_takes (moves s)) t.state (stream text c) (not-false _ (test_is ∙ h)) t.rest.gives).0 at t.kept

  -- and is taken
  pub ended : {r : Cursor} {p : ℕ} → y ≡ false → Goes text c (due "}") r p → Behind text r us × P a
  ended {r} {p} h g =
      let i = until_last "}" step (λ s. moves_takes (moves s)) t.state (stream text c) (not-false _ (test_is ∙ h)) t.rest.gives in
      let w = went g t.rest.on i.2 in
      (record { on = w.on; there = w.behind }, rw i.0 at t.kept)
