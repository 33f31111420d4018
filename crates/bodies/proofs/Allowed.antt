-- Where heads may stand: a Loop where another level may, and a Shift only among a macro's or procedure's own statements.
use mathlib.Core.Path.{◌≡◌, refl}
use Prim.Native.Nat.{ℕ, ◌<◌}
use native.Mathlib.Omega.{arith}
use mathlib.Core.Bool.{Bool, true, false, not, ◌&&◌}
use lib.Dec.{leb}
use borrow.Author.Tests.{leb-false}
use Rattle.meaning.specs.Signals.{Names}
use Rattle.meaning.specs.Body.{Kind}
use Rattle.meaning.specs.Statements.{Decls, Env, Head, ends, vecs, sets, loops, shifts, uses, used, chosen, looping, shift_head, label_head, head}
use Rattle.meaning.proofs.Gives.{Gives, gives_bind, gives_after, gives_give, gives_if, gives_choose}
use Rattle.meaning.proofs.Choices.{◌also◌}

abbrev pub Allowed : Bool → ℕ → Head → Type 0
Allowed own d ends = Unit {0}
Allowed own d (vecs p a) = Unit {0}
Allowed own d (sets x) = Unit {0}
Allowed own d (loops n) = 0 < d
Allowed own d shifts = own ≡ true
Allowed own d (uses k x t a) = Unit {0}

-- a Shift may stand: so the statements are their body's own
own_shift : (own seen : Bool) → not (own && not seen) ≡ false → own ≡ true
own_shift true seen h = refl
own_shift false seen h = let z : ◌≡◌ {A = ℕ} 0 1 = cc in absurd (omega arith)

module _ (own : Bool) (d : ℕ) where
  allowed_used : (k : Kind) (ns : Names) (l : Decls) → Gives (Allowed own d) (used k d ns l)
  unfolding used
  allowed_used k ns l =
      gives_after (Allowed own d) _ _ λ x. gives_after (Allowed own d) _ _ λ u. gives_after (Allowed own d) _ _ λ a.
      gives_after (Allowed own d) _ _ λ v. gives_give (Allowed own d) _ tt

  pub allowed_head : (e : Env) (seen : Bool) → Gives (Allowed own d) (head e own d seen)
  unfolding head chosen looping shift_head label_head
  allowed_head e seen = gives_choose A _ (
      (λ p. gives_after A _ _ λ a. gives_give A _ tt)
      also (λ p. gives_after A _ _ λ a. gives_give A _ tt)
      also (λ p. gives_after A _ _ λ x. gives_after A _ _ λ q. gives_give A _ tt)
      also (λ p. gives_bind (λ u. leb d 0 ≡ false) A _ _ (gives_if _ _ _) λ u h. gives_after A _ _ λ n. gives_after A _ _ λ q. gives_give A _ (leb-false d 0 h))
      also (λ p. allowed_used _ e.names e.macros)
      also (λ p. allowed_used _ e.names e.procs)
      also (λ p. gives_after A _ _ λ u. gives_after A _ _ λ t. gives_after A _ _ λ q. gives_give A _ tt)
      also (λ p. gives_bind (λ u. not (own && not seen) ≡ false) A _ _ (gives_if _ _ _) λ u h. gives_after A _ _ λ v. gives_after A _ _ λ q. gives_give A _ (own_shift own seen h))
      also (λ p. gives_give A _ tt)
      also tt)
    where
      A : Head → Type 0
      A = Allowed own d
