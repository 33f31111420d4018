-- What is read where each name is used once, is read so without that rule too; the rule only refuses.
use mathlib.Core.Path.{◌≡◌, refl, ap}
use Prim.Native.Nat.{ℕ}
use native.Mathlib.Omega.{arith}
use mathlib.Core.Bool.{Bool, true, false}
use mathlib.Core.Option.{Option, none, some}
use mathlib.Core.List.{List}
use lib.Dec.{ltb}
use Rattle.tokens.specs.Tokens.{Toks}
use Rattle.meaning.specs.Refusals.{used_name}
use Rattle.meaning.specs.Reader.{Res, Reader, ok, refuse}
use Rattle.meaning.specs.Labels.{used_twice, earlier, each_once}
use Rattle.meaning.proofs.Gives.{Gives}

-- where something is answered after all, no name is used twice, and the reader answered it
pub earlier_ok : {A : Type 0} (o : Option ℕ) (r : Res A) {a : A} {us : Toks} → earlier o r ≡ ok a us → (o ≡ none) × (r ≡ ok a us)
unfolding earlier
earlier_ok none r e = (refl, e)
earlier_ok (some q) (ok b vs) e = let z : ◌≡◌ {A = ℕ} 0 1 = cc in absurd (omega arith)
earlier_ok {A} (some q) (refuse n p) {a} {us} e = by (ltb q p) e
  where
    by : (c : Bool) → ◌≡◌ {A = Res A} (elim c [ true ↦ refuse used_name q | false ↦ refuse n p ]) (ok a us) → (◌≡◌ {A = Option ℕ} (some q) none) × (◌≡◌ {A = Res A} (refuse n p) (ok a us))
    by true e = let z : ◌≡◌ {A = ℕ} 0 1 = cc in absurd (omega arith)
    by false e = let z : ◌≡◌ {A = ℕ} 0 1 = cc in absurd (omega arith)

pub once_ok : {A : Type 0} (burst : List ℕ) (m : Reader A) (ts : Toks) {a : A} {us : Toks} → each_once burst m ts ≡ ok a us → m ts ≡ ok a us
unfolding each_once
once_ok burst m ts e = (earlier_ok (used_twice burst ts) (m ts) e).1

pub gives_once : {A : Type 0} (P : A → Type 0) (burst : List ℕ) (m : Reader A) → Gives P m → Gives P (each_once burst m)
gives_once P burst m h = record { all = λ ts a us e. h.all ts a us (once_ok burst m ts e) }

-- where no name is used twice, the rule refuses nothing
pub once_none : {A : Type 0} (burst : List ℕ) (m : Reader A) (ts : Toks) → used_twice burst ts ≡ none → each_once burst m ts ≡ m ts
unfolding each_once earlier
once_none {A} burst m ts e = ap (λ (o : Option ℕ). earlier o (m ts)) e
