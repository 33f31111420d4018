-- What the code says of a head, taken apart: the head that was read.
use Prim.Native.Nat.{ℕ, ◌≤◌, ◌<◌}
use mathlib.Core.Path.{◌≡◌, subst}
use mathlib.Core.Bool.{true}
use mathlib.Core.List.{List}
use Rattle.tokens.specs.Tokens.{Tok}
use Rattle.meaning.specs.Reader.{Reader}
use Rattle.meaning.specs.Body.{Assigns, assigning, choosing, Args}
use Rattle.meaning.specs.Statements.{Decl, Head, ends, vecs, sets, loops, shifts, uses}
use Rattle.words.specs.declared.Cursor.{Cursor}
use Rattle.words.specs.Cursor.{alive, Goes}
use Rattle.timing.specs.Makes.{Makes}
use Rattle.measures.specs.Uses.{Given}
use Rattle.measures.specs.Book.{bodies, Used}
use Rattle.arguments.specs.Supplied.{Supplied}
use Rattle.heads.specs.Heads.{kind_of, Tells}
use Rattle.heads.specs.declared.Headed.{Headed}
use Rattle.heads.specs.declared.What.{What}
use Rattle.heads.specs.declared.What.TheVariants.{Ends, Vector, Assigns as AssignsOnly, Chooses, Loops, Shifts, Uses as UsesBody}
use Rattle.bodies.specs.Bodies.{HeadIs}

pub head_is : {text book given args : List ℕ} {tables : ℕ} {c : Cursor} {m : Reader Head} {h : Headed} (rows : List ℕ)
    → Makes text c m h.cursor (Tells text book rows given args tables h.what) → HeadIs text book given args tables c m h
head_is rows m = record { rows = rows; makes = m }

module _ {text book given args : List ℕ} {tables : ℕ} {c : Cursor} {m : Reader Head} {h : Headed} (x : HeadIs text book given args tables c m h)
    (live : alive h.cursor ≡ true) where
  told : {w : What} → h.what ≡ w → Tells text book x.rows given args tables w x.makes.it
  told q = subst (λ (w : What). Tells text book x.rows given args tables w x.makes.it) q (x.makes.held live)

  is : {k : Head} → x.makes.it ≡ k → Goes text c m h.cursor k
  is q = subst (Goes text c m h.cursor) q x.makes.goes

  pub told_ends : h.what ≡ Ends → Goes text c m h.cursor ends
  unfolding Tells
  told_ends q = is (told q)

  pub told_vector : {p : ℕ} → h.what ≡ Vector p → (a : Assigns) × Goes text c m h.cursor (vecs p a) × Given a given
  unfolding Tells
  told_vector q = let t = told q in (t.0, is t.1, t.2)

  pub told_assigns : h.what ≡ AssignsOnly → (a : Assigns) × Goes text c m h.cursor (sets (assigning a)) × Given a given
  unfolding Tells
  told_assigns q = let t = told q in (t.0, is t.1, t.2)

  pub told_chooses : {k : ℕ} → h.what ≡ Chooses k → Goes text c m h.cursor (sets (choosing k)) × (k < tables)
  unfolding Tells
  told_chooses q = let t = told q in (is t.0, t.1)

  pub told_loops : {n : ℕ} → h.what ≡ Loops n → Goes text c m h.cursor (loops n) × (1 ≤ n)
  unfolding Tells
  told_loops q = let t = told q in (is t.0, t.1)

  pub told_shifts : h.what ≡ Shifts → Goes text c m h.cursor shifts
  unfolding Tells
  told_shifts q = is (told q)

  pub told_uses : {i t : ℕ} → h.what ≡ UsesBody i t
      → (name : Tok) × (u : Decl) × (a : Args) × Goes text c m h.cursor (uses (kind_of i) u t a) × (i < bodies) × Used text book x.rows i (name, u)
      × Supplied text a given args
  unfolding Tells
  told_uses q = let t = told q in (t.0, t.1, t.2, is t.3, t.4, t.5, t.6)
