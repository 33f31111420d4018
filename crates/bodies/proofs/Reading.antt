-- The loop over statements: reading on behind those so far is reading them all, and the code has the measure and the uses of those.
use Prim.Native.Nat.{ℕ, ◌<◌}
use native.Mathlib.Omega.{arith}
use mathlib.Core.Path.{◌≡◌, refl, sym, ap, ◌∙◌}
use mathlib.Core.Bool.{Bool, true, false, not, ◌&&◌}
use mathlib.Core.List.{List}
use Rattle.tokens.specs.Tokens.{Toks}
use Rattle.meaning.specs.Reader.{Res, ok, refuse, after, ◌>>=◌, give}
use Rattle.meaning.specs.Body.{Body, done}
use Rattle.meaning.specs.Statements.{Env, statements}
use Rattle.held.proofs.Turn.{onward, deeper, statements_onward}
use Rattle.words.specs.declared.Cursor.{Cursor}
use Rattle.words.specs.Cursor.{alive, from}
use Rattle.words.proofs.Flow.{from_stop}
use Rattle.words.proofs.Loops.{room}
use Rattle.timing.specs.Makes.{Makes, Brings}
use Rattle.measures.specs.declared.Measure.{Measure}
use Rattle.measures.specs.Measures.{Measures, joined}
use Rattle.noted.specs.Noted.{Grows}
use Rattle.bodies.specs.Bodies.{Notes, Summed, rest, Turned}
use Rattle.bodies.specs.declared.Turn.{Turn}
use Rattle.bodies.proofs.Turning.{from_alike}
use Rattle.bodies.proofs.Rowing.{counted_none, counted_then}
use Rattle.bodies.proofs.Noting.{notes_none, notes_then}

-- what the loop keeps
pub record Reading (text : List ℕ) (e : Env) (own : Bool) (d : ℕ) (c cursor : Cursor) (ended seen : Bool) (x : Measure) (before row : List ℕ)
    (N : Body → Type 0) : Type 0 where
  pub front : Body
  pub leads : Brings text c (statements e d own) cursor (rest e own d ended seen front)
  pub held : alive cursor ≡ true → Summed own before row x N front

-- the loop goes on
on_and_on : (x y : Bool) → (x && not y) ≡ true → (x ≡ true) × (y ≡ false)
on_and_on true false q = (refl, refl)
on_and_on true true q = let z : ◌≡◌ {A = ℕ} 0 1 = cc in absurd (omega arith)
on_and_on false y q = let z : ◌≡◌ {A = ℕ} 0 1 = cc in absurd (omega arith)

unit : (r : Res Body) → r ≡ after r (λ b. give (joined done b))
unfolding after give joined
unit (ok b us) = refl
unit (refuse n p) = refl

starts : (e : Env) (own : Bool) (d : ℕ) (ts : Toks) → statements e d own ts ≡ rest e own d false false done ts
unfolding rest ◌>>=◌
starts e own d ts = statements_onward e d own ts ∙ unit (onward e own d (deeper e d) false ts)

module _ {text : List ℕ} {e : Env} {own : Bool} {d : ℕ} {c : Cursor} {before : List ℕ} where
  -- none so far
  pub reading_none : {x : Measure} {tables : ℕ} {used : List ℕ} → Measures done x → Reading text e own d c c false false x before before (Notes tables e used used)
  reading_none m =
      record {
        front = done;
        leads = record { same = sym (from_alike text c _ _ (starts e own d)) };
        held = λ live. record { measured = m; counted = counted_none; noted = notes_none };
      }

  module _ {cursor : Cursor} {ended seen : Bool} {x : Measure} {row : List ℕ} {tables : ℕ} {used₀ used : List ℕ}
      (h : Reading text e own d c cursor ended seen x before row (Notes tables e used₀ used)) where
    -- one more
    module _ {t : Turn} {row' used' : List ℕ} (q : (alive cursor && not ended) ≡ true)
        (u : Turned text e own d cursor seen x row t row' (Notes tables e used used')) where
      pub reading_more : Grows used₀ used → Grows used used'
          → Reading text e own d c t.cursor t.ends t.seen t.measure before row' (Notes tables e used₀ used')
      reading_more f g =
          let o = on_and_on (alive cursor) ended q in
          record {
            front = joined h.front u.one;
            leads =
                record {
                  same =
                      (u.brings h.front).same
                      ∙ ap (λ (z : Bool). from text cursor (rest e own d z seen h.front)) (sym o.1)
                      ∙ h.leads.same;
                };
            held = λ l. record {
              measured = u.measured l h.front (h.held o.0).measured;
              counted = counted_then (h.held o.0).counted (u.counted l);
              noted = notes_then f h.front u.one g (h.held o.0).noted (u.noted l);
            };
          }

      pub reading_less : room text t.cursor < room text cursor
      reading_less = u.less (on_and_on (alive cursor) ended q).0

    -- `}`, or a refusal
    pub reading_all : (alive cursor && not ended) ≡ false → Makes text c (statements e d own) cursor (Summed own before row x (Notes tables e used₀ used))
    unfolding rest
    reading_all q = record { it = h.front; goes = record { same = by (alive cursor) refl ended refl q ∙ h.leads.same }; held = h.held }
      where
        by : (z : Bool) → alive cursor ≡ z → (y : Bool) → ended ≡ y → (z && not y) ≡ false
            → from text cursor (give h.front) ≡ from text cursor (rest e own d ended seen h.front)
        by true k true f q = ap (λ (y : Bool). from text cursor (rest e own d y seen h.front)) (sym f)
        by true k false f q = let z : ◌≡◌ {A = ℕ} 0 1 = cc in absurd (omega arith)
        by false k y f q = from_stop text cursor _ k ∙ sym (from_stop text cursor _ k)
