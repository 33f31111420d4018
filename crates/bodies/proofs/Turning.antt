-- One statement: behind its head, and what else is read of it, the statements from there on are those behind one more.
use Prim.Native.Nat.{ℕ, zero, suc, ◌-◌, ◌<◌}
use native.Mathlib.Omega.{arith}
use mathlib.Core.Path.{◌≡◌, refl, sym, ap, ◌∙◌}
use mathlib.Core.Bool.{Bool, true, false}
use mathlib.Core.List.{List}
use Rattle.tokens.specs.Tokens.{Toks}
use Rattle.meaning.specs.Reader.{Res, Reader, ok, refuse, after, ◌>>=◌, give}
use Rattle.meaning.specs.Body.{Assigns, Setting, Args, Kind, looped, shifted, entered, Body, done, vec, set', inner}
use Rattle.meaning.specs.Statements.{Decl, Env, Head, ends, vecs, sets, loops, shifts, uses, head, in_shift, behind, statements}
use Rattle.held.proofs.Turn.{onward, deeper, statements_turn}
use Rattle.words.specs.declared.Cursor.{Cursor}
use Rattle.words.specs.Cursor.{alive, stream, from, Goes}
use Rattle.words.proofs.Flow.{from_on, from_stop, follows, alike}
use Rattle.timing.specs.Makes.{Brings}
use Rattle.timing.proofs.EntryReading.{assoc}
use Rattle.measures.specs.Measures.{joined}
use Rattle.measures.proofs.Joined.{joined_vec, joined_set, joined_inner}
use Rattle.bodies.specs.Bodies.{rest}

-- ---- readers one behind the other

-- readers that do the same with all tokens
pub from_alike : {A : Type 0} (text : List ℕ) (c : Cursor) (m k : Reader A) → ((ts : Toks) → m ts ≡ k ts) → from text c m ≡ from text c k
from_alike {A} text c m k h = by (alive c) refl
  where
    by : (z : Bool) → alive c ≡ z → from text c m ≡ from text c k
    by true e = from_on text c m e ∙ h (stream text c) ∙ sym (from_on text c k e)
    by false e = from_stop text c m e ∙ sym (from_stop text c k e)

give_give : {A B C : Type 0} (m : Reader A) (f : A → B) (g : B → C) (h : A → C) → ((a : A) → g (f a) ≡ h a) → (ts : Toks)
    → ((m >>= λ a. give (f a)) >>= λ b. give (g b)) ts ≡ (m >>= λ a. give (h a)) ts
unfolding ◌>>=◌ after give
give_give {A} {B} {C} m f g h e ts = by (m ts)
  where
    by : (r : Res A) → ◌≡◌ {A = Res C} (after (after r (λ a us. ok (f a) us)) (λ b us. ok (g b) us)) (after r (λ a us. ok (h a) us))
    by (ok a us) = ap (λ (c : C). ok c us) (e a)
    by (refuse n p) = refl

module _ (text : List ℕ) (e : Env) (own : Bool) (d : ℕ) (seen : Bool) where
  -- what is behind the head, and then joined to the front
  abbrev left_of : Body → Head → Reader Body
  left_of front h = behind e.names (deeper e d) (onward e own d (deeper e d)) seen h >>= λ r. give (joined front r)

  turn_on : (front : Body) (ts : Toks) → rest e own d false seen front ts ≡ (head e own d seen >>= left_of front) ts
  unfolding rest ◌>>=◌
  turn_on front ts =
      ap (λ (r : Res Body). after r (λ b. give (joined front b))) (statements_turn e d own seen ts)
      ∙ assoc (head e own d seen) (behind e.names (deeper e d) (onward e own d (deeper e d)) seen) (λ r. give (joined front r)) ts

  -- behind the head reading goes on with what is behind it
  module _ {c b : Cursor} {h : Head} (front : Body) (g : Goes text c (head e own d seen) b h) where
    headed : from text b (left_of front h) ≡ from text c (rest e own d false seen front)
    headed =
        follows (left_of front) g
        ∙ sym (from_alike text c (rest e own d false seen front) (head e own d seen >>= left_of front) (turn_on front))

    -- one statement more stands in front, and nothing else is read of it
    alone : (tail : Body → Body) (front' : Body) → ((r : Body) → joined front (tail r) ≡ joined front' r)
        → behind e.names (deeper e d) (onward e own d (deeper e d)) seen h ≡ (onward e own d (deeper e d) seen >>= λ r. give (tail r))
        → Brings text c (rest e own d false seen front) b (rest e own d false seen front')
    unfolding rest
    alone tail front' j q =
        record {
          same =
              sym (from_alike text b _ _ (give_give (onward e own d (deeper e d) seen) tail (joined front) (joined front') j))
              ∙ ap (λ (m : Reader Body). from text b (m >>= λ r. give (joined front r))) (sym q)
              ∙ headed;
        }

    -- a body is read of it first
    within : {r : Cursor} {body : Body} (m : Reader Body) (s : Bool) (tail : Body → Body → Body) (front' : Body)
        → ((r : Body) → joined front (tail body r) ≡ joined front' r)
        → behind e.names (deeper e d) (onward e own d (deeper e d)) seen h ≡ (m >>= λ b. onward e own d (deeper e d) s >>= λ r. give (tail b r))
        → Goes text b m r body
        → Brings text c (rest e own d false seen front) r (rest e own d false s front')
    unfolding rest
    within {r} {body} m s tail front' j q f =
        record {
          same =
              sym (from_alike text r _ _ (give_give (onward e own d (deeper e d) s) (tail body) (joined front) (joined front') j))
              ∙ follows (λ b. (onward e own d (deeper e d) s >>= λ r. give (tail b r)) >>= λ r. give (joined front r)) f
              ∙ sym (from_alike text b _ _ (assoc m (λ b. onward e own d (deeper e d) s >>= λ r. give (tail b r)) (λ r. give (joined front r))))
              ∙ ap (λ (m : Reader Body). from text b (m >>= λ r. give (joined front r))) (sym q)
              ∙ headed;
        }

  -- ---- the heads

  module _ {c b : Cursor} (front : Body) where
    pub turn_ends : (s : Bool) → Goes text c (head e own d seen) b ends → Brings text c (rest e own d false seen front) b (rest e own d true s (joined front done))
    unfolding rest behind ◌>>=◌ after give
    turn_ends s g = record { same = headed front g }

    pub turn_vecs : {p : ℕ} {a : Assigns} → Goes text c (head e own d seen) b (vecs p a)
        → Brings text c (rest e own d false seen front) b (rest e own d false seen (joined front (vec p a done)))
    unfolding behind
    turn_vecs {p} {a} g = alone front g (vec p a) _ (λ r. sym (joined_vec front r p a)) refl

    pub turn_sets : {x : Setting} → Goes text c (head e own d seen) b (sets x)
        → Brings text c (rest e own d false seen front) b (rest e own d false seen (joined front (set' x done)))
    unfolding behind
    turn_sets {x} g = alone front g (set' x) _ (λ r. sym (joined_set front r x)) refl

    pub turn_uses : {k : Kind} {x : Decl} {t : ℕ} {a : Args} → Goes text c (head e own d seen) b (uses k x t a)
        → Brings text c (rest e own d false seen front) b (rest e own d false seen (joined front (inner (entered k t a) x.body done)))
    unfolding behind
    turn_uses {k} {x} {t} {a} g = alone front g (inner (entered k t a) x.body) _ (λ r. sym (joined_inner front r (entered k t a) x.body)) refl

    module _ {r : Cursor} {body : Body} where
      pub turn_loops : {n : ℕ} → Goes text c (head e own d seen) b (loops n) → Goes text b (deeper e d) r body
          → Brings text c (rest e own d false seen front) r (rest e own d false seen (joined front (inner (looped n) body done)))
      unfolding behind
      turn_loops {n} g f = within front g (deeper e d) seen (inner (looped n)) _ (λ r. sym (joined_inner front r (looped n) body)) refl f

      pub turn_shifts : Goes text c (head e own d seen) b shifts → Goes text b (in_shift e.names) r body
          → Brings text c (rest e own d false seen front) r (rest e own d false true (joined front (inner shifted body done)))
      unfolding behind
      turn_shifts g f = within front g (in_shift e.names) true (inner shifted) _ (λ r. sym (joined_inner front r shifted body)) refl f

-- ---- the bodies of Loops

pub deeper_goes : {text : List ℕ} {c r : Cursor} {body : Body} (e : Env) (d : ℕ) → 0 < d → Goes text c (statements e (d - 1) false) r body
    → Goes text c (deeper e d) r body
unfolding deeper
deeper_goes e zero h g = absurd (omega arith)
deeper_goes {text} {c} {r} {body} e (suc k) h g =
    let q : suc k - 1 ≡ k = omega arith in
    alike g (λ ts. ap (λ (n : ℕ). statements e n false ts) q)
