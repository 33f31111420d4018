-- What the answers of a choice have in common: either of two readers, one of several, none.
use mathlib.Core.Path.{◌≡◌}
use Prim.Native.Nat.{ℕ}
use native.Mathlib.Omega.{arith}
use mathlib.Core.Bool.{Bool, true, false}
use Rattle.meaning.specs.Reader.{Reader, refuse}
use Rattle.meaning.proofs.Gives.{Gives}

pub gives_refuse : {A : Type 0} (P : A → Type 0) (n p : ℕ) → Gives P (λ ts. refuse n p)
gives_refuse P n p = record { all = λ ts a us e. (let z : ◌≡◌ {A = ℕ} 0 1 = cc in absurd (omega arith)) }

pub gives_either : {A : Type 0} (P : A → Type 0) (c : Bool) (m k : Reader A) → Gives P m → Gives P k → Gives P (λ ts. elim c [ true ↦ m ts | false ↦ k ts ])
gives_either P true m k f g = f
gives_either P false m k f g = g

infixr 5 ◌also◌
-- the entries of a choice, one after the other
abbrev pub ◌also◌ : {A B : Type 0} → A → B → A × B
◌also◌ a b = (a, b)
