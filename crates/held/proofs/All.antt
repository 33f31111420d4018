-- What each of some declared bodies has: one more of them, and the one that a name finds.
use mathlib.Core.Path.{◌≡◌, subst}
use Prim.Native.Nat.{ℕ}
use native.Mathlib.Omega.{arith}
use mathlib.Core.Bool.{Bool, true, false}
use mathlib.Core.Option.{Option, some}
use mathlib.Core.List.{List, [], ◌∷◌, ◌++◌}
use Rattle.tokens.specs.Written.{same}
use Rattle.tokens.specs.Tokens.{Tok}
use Rattle.meaning.specs.Names.{find}
use Rattle.meaning.specs.Statements.{Decl, Decls}
use Rattle.held.specs.Held.{All}

module _ (P : Tok × Decl → Type 0) where
  pub all_more : (l : Decls) (x : Tok × Decl) → All P l → P x → All P (l ++ x ∷ [])
  unfolding All
  all_more [] x h k = (k, tt)
  all_more (y ∷ l) x h k = (h.0, all_more l x h.1 k)

  pub all_found : (l : Decls) → All P l → (w : List ℕ) (d : Decl) → find l w ≡ some d → (t : Tok) × P (t, d)
  unfolding find All
  all_found [] h w d e = let z : ◌≡◌ {A = ℕ} 0 1 = cc in absurd (omega arith)
  all_found (x ∷ l) h w d e = by (same x.0.word w) e (all_found l h.1 w d)
    where
      by : (c : Bool) → ◌≡◌ {A = Option Decl} (elim c [ true ↦ some x.1 | false ↦ find l w ]) (some d) → (find l w ≡ some d → (t : Tok) × P (t, d)) → (t : Tok) × P (t, d)
      by true e ih = let q : x.1 ≡ d = cc in (x.0, subst (λ d. P (x.0, d)) q h.0)
      by false e ih = ih e
