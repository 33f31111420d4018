-- What each statement keeps, every body that is read has.
use Prim.Native.Nat.{ℕ, zero, suc}
use mathlib.Core.Bool.{Bool, true, false}
use Rattle.tokens.specs.Tokens.{left}
use Rattle.meaning.specs.Refusals.{too_deep}
use Rattle.meaning.specs.Reader.{Reader}
use Rattle.meaning.specs.Signals.{Names}
use Rattle.meaning.specs.Body.{Assigns, Args, Setting, Kind, looped, shifted, entered, Body, done, vec, set', inner}
use Rattle.meaning.specs.Statements.{Decl, Env, Head, ends, vecs, sets, loops, shifts, uses, head, in_shift, behind, statements_f, statements}
use Rattle.meaning.proofs.Gives.{Gives, gives_bind, gives_after, gives_give}
use Rattle.meaning.proofs.Choices.{gives_refuse}

-- each statement with a head that has H, put before statements that have P, gives such; a Loop's body has Q
pub record Kept (H : Head → Type 0) (Q P : Body → Type 0) : Type 0 where
  pub end : P done
  pub vector : (p : ℕ) (a : Assigns) (r : Body) → H (vecs p a) → P r → P (vec p a r)
  pub setting : (x : Setting) (r : Body) → H (sets x) → P r → P (set' x r)
  pub loop : (n : ℕ) (b r : Body) → H (loops n) → Q b → P r → P (inner (looped n) b r)
  pub shift : (p : ℕ) (a : Assigns) (r : Body) → H shifts → P r → P (inner shifted (vec p a done) r)
  pub use' : (k : Kind) (x : Decl) (t : ℕ) (a : Args) (r : Body) → H (uses k x t a) → P r → P (inner (entered k t a) x.body r)

module _ (H : Head → Type 0) (Q P : Body → Type 0) (k : Kept H Q P) where
  gives_behind : (ns : Names) (within : Reader Body) → Gives Q within → (on : Bool → Reader Body) → ((seen : Bool) → Gives P (on seen))
      → (seen : Bool) (x : Head) → H x → Gives P (behind ns within on seen x)
  unfolding behind in_shift
  gives_behind ns within g on o seen ends h = gives_give P done k.end
  gives_behind ns within g on o seen (vecs p a) h = gives_bind P P _ _ (o seen) λ r q. gives_give P _ (k.vector p a r h q)
  gives_behind ns within g on o seen (sets x) h = gives_bind P P _ _ (o seen) λ r q. gives_give P _ (k.setting x r h q)
  gives_behind ns within g on o seen (loops n) h = gives_bind Q P _ _ g λ b c. gives_bind P P _ _ (o seen) λ r q. gives_give P _ (k.loop n b r h c q)
  gives_behind ns within g on o seen shifts h =
      gives_bind S P _ _ (gives_after S _ _ λ p. gives_after S _ _ λ a. gives_after S _ _ λ q. gives_after S _ _ λ u. gives_give S _ λ r. k.shift p a r h) λ b s.
      gives_bind P P _ _ (o true) λ r q. gives_give P _ (s r q)
    where
      S : Body → Type 0
      S b = (r : Body) → P r → P (inner shifted b r)
  gives_behind ns within g on o seen (uses j x t a) h = gives_bind P P _ _ (o seen) λ r q. gives_give P _ (k.use' j x t a r h q)

  gives_statements_f : (e : Env) (own : Bool) (d : ℕ) (within : Reader Body) → Gives Q within → ((seen : Bool) → Gives H (head e own d seen))
      → (n : ℕ) (seen : Bool) → Gives P (statements_f e own d within n seen)
  unfolding statements_f
  gives_statements_f e own d within g heads zero seen = gives_refuse P _ _
  gives_statements_f e own d within g heads (suc n) seen =
      gives_bind H P _ _ (heads seen) λ x h. gives_behind e.names within g (statements_f e own d within n) (gives_statements_f e own d within g heads n) seen x h

-- a Loop's body where d levels may stand in it, if P is what bodies read for one level less have
abbrev pub Deeper : (Bool → ℕ → Body → Type 0) → ℕ → Body → Type 0
Deeper P zero b = ⊥
Deeper P (suc d) b = P false d b

module _ (H : Bool → ℕ → Head → Type 0) (P : Bool → ℕ → Body → Type 0) (k : (own : Bool) (d : ℕ) → Kept (H own d) (Deeper P d) (P own d)) where
  at_level : (e : Env) (own : Bool) (d : ℕ) (within : Reader Body) → Gives (Deeper P d) within → ((seen : Bool) → Gives (H own d) (head e own d seen))
      → Gives (P own d) (λ ts. statements_f e own d within (suc (left ts)) false ts)
  at_level e own d within g heads = record { all = λ ts. (gives_statements_f _ _ _ (k own d) e own d within g heads (suc (left ts)) false).all ts }

  -- THE LAW: so do the bodies that are read for d levels
  pub gives_statements : (e : Env) → ((own : Bool) (d : ℕ) (seen : Bool) → Gives (H own d) (head e own d seen))
      → (d : ℕ) (own : Bool) → Gives (P own d) (statements e d own)
  unfolding statements
  gives_statements e heads zero own = at_level e own zero _ (gives_refuse (Deeper P zero) too_deep 0) (heads own zero)
  gives_statements e heads (suc d) own = at_level e own (suc d) _ (gives_statements e heads d false) (heads own (suc d))
