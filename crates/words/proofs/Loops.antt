-- A loop over a cursor: one turn of the code is one turn of `while`. What is kept: reading on from here is reading the whole part from the start.
use Prim.Native.Nat.{ℕ, suc, ◌+◌, ◌≤◌, ◌<◌}
use Prim.Native.String.{String}
use native.Mathlib.Omega.{arith}
use mathlib.Core.Path.{◌≡◌, refl, sym, ◌∙◌}
use mathlib.Core.Bool.{Bool, true, false, not, ◌&&◌}
use mathlib.Core.List.{List}
use lib.Dec.{ltb}
use lib.ListN.{length}
use Rattle.tokens.specs.Tokens.{Toks, left}
use Rattle.tokens.proofs.Laws.{left_most}
use Rattle.tokens.proofs.Bools.{both}
use Rattle.meaning.specs.Reader.{Reader, ◌>>=◌, give, ahead, due, while, closed, until}
use Rattle.meaning.proofs.Takes.{Takes, Keeps, while_done, while_on}
use Rattle.words.specs.Cursor.{stream, alive, from, Goes}
use Rattle.words.specs.declared.Cursor.{Cursor}
use Rattle.words.proofs.Flow.{from_on, from_stop, given, follows, then, read, stream_on, stream_stop}

-- ---- the measure

-- what is left to read: the tokens, and one for the loop's own last look
unfoldable pub room : List ℕ → Cursor → ℕ
room text c = elim (alive c) [ true ↦ suc (left (stream text c)) | false ↦ 0 ]

pub room_on : (text : List ℕ) (c : Cursor) → alive c ≡ true → room text c ≡ suc (left (stream text c))
unfolding room
room_on text c e = rw (e, room)

pub room_stop : (text : List ℕ) (c : Cursor) → alive c ≡ false → room text c ≡ 0
unfolding room
room_stop text c e = rw (e, room)

-- there is never more than the text's bytes, the token ahead and that look
pub room_most_lem : (text : List ℕ) (c : Cursor) → room text c ≤ length text + 2
unfolding left
room_most_lem text c = by (alive c) refl (ltb c.at c.end) refl
  where
    by : (x : Bool) → alive c ≡ x → (y : Bool) → ltb c.at c.end ≡ y → room text c ≤ length text + 2
    by false e y f = omega (arith, room_stop text c e)
    by true e true f = rw (room_on text c e, stream_on text c f) (omega (arith, left_most text c.end))
    by true e false f = rw (room_on text c e, stream_stop text c f) (omega arith)

module _ {A : Type 0} {text : List ℕ} {c r : Cursor} {m : Reader A} {a : A} where
  -- a reader that takes a token leaves less
  pub less : Takes m → alive c ≡ true → Goes text c m r a → room text r < room text c
  less t e g = by (alive r) refl
    where
      by : (b : Bool) → alive r ≡ b → room text r < room text c
      by true h = omega (arith, room_on text c e, room_on text r h, t.falls _ _ _ (read g h).gave)
      by false h = omega (arith, room_on text c e, room_stop text r h)

  -- one that gives none back leaves no more
  pub no_more : Keeps m → Goes text c m r a → room text r ≤ room text c
  no_more k g = by (alive r) refl
    where
      by : (b : Bool) → alive r ≡ b → room text r ≤ room text c
      by true h = omega (arith, room_on text c (read g h).on, room_on text r h, k.stays _ _ _ (read g h).gave)
      by false h = omega (arith, room_stop text r h)

-- ---- the loop's test

-- it holds: reading goes on
pub on : (x y : Bool) {b : Bool} → b ≡ (x && y) → b ≡ true → x ≡ true
on x y e h = (both x y (sym e ∙ h)).0

-- ---- the turns

-- reading m from c is reading k from r: what a loop keeps
pub record Leads {A : Type 0} (text : List ℕ) (c : Cursor) (m : Reader A) (r : Cursor) (k : Reader A) : Type 0 where
  pub same : from text r k ≡ from text c m

pub begins : {A : Type 0} {text : List ℕ} {c : Cursor} {m : Reader A} → Leads text c m c m
begins = record { same = refl }

module _ {S : Type 0} {text : List ℕ} {c r : Cursor} {m : Reader S} (test : Toks → Bool) (step : S → Reader S) (takes : (s : S) → Takes (step s))
  where
    -- the test holds: a turn
    pub turned : {r' : Cursor} {s s' : S} {b : Bool} → Leads text c m r (while test step s) → b ≡ (alive r && test (stream text r)) → b ≡ true
        → Goes text r (step s) r' s' → Leads text c m r' (while test step s')
    unfolding ◌>>=◌
    turned {r'} {s} {s'} {b} l e h g =
        let t = both (alive r) (test (stream text r)) (sym e ∙ h) in
        record {
          same =
              follows (while test step) g
              ∙ from_on text r (step s >>= while test step) t.0
              ∙ sym (while_on test step takes s (stream text r) t.1)
              ∙ sym (from_on text r (while test step s) t.0)
              ∙ l.same;
        }

    -- it fails: done, or refused
    pub over : {s : S} {b : Bool} → Leads text c m r (while test step s) → b ≡ (alive r && test (stream text r)) → b ≡ false → Goes text c m r s
    unfolding give
    over {s} {b} l e h = record { same = by (alive r) refl (sym e ∙ h) ∙ l.same }
      where
        by : (x : Bool) → alive r ≡ x → (x && test (stream text r)) ≡ false → from text r (give s) ≡ from text r (while test step s)
        by true k f =
            from_on text r (give s) k ∙ sym (while_done test step takes s (stream text r) f) ∙ sym (from_on text r (while test step s) k)
        by false k f = from_stop text r (give s) k ∙ sym (from_stop text r (while test step s) k)

-- ---- and the closing token

module _ {S : Type 0} {text : List ℕ} {c d r : Cursor} {s' : S} {p : ℕ} (close : String) (step : S → Reader S) (s : S) where
  pub closes : Goes text c (while (λ ts. not (ahead close ts)) step s) d s' → Goes text d (due close) r p → Goes text c (closed close step s) r (s', p)
  unfolding closed
  closes g h = then _ g (then _ h given)

  pub ends : Goes text c (while (λ ts. not (ahead close ts)) step s) d s' → Goes text d (due close) r p → Goes text c (until close step s) r s'
  unfolding until
  ends g h = then _ (closes g h) given
