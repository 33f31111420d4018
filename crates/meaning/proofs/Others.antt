-- Where two texts' patterns are the same but for places, save under one name, their listed patterns of other names give the same.
use mathlib.Core.Path.{◌≡◌, refl, sym, ap, ◌∙◌}
use Prim.Native.Nat.{ℕ}
use native.Mathlib.Omega.{arith}
use mathlib.Core.Bool.{Bool, true, false, ◌&&◌}
use mathlib.Core.Option.{Option, none, some}
use mathlib.Core.List.{List, [], ◌∷◌}
use lib.Dec.{eqb}
use borrow.Author.Tests.{eqb-true}
use Rattle.tokens.specs.Written.{same}
use Rattle.tokens.specs.Tokens.{Tok}
use Rattle.meaning.specs.Names.{find}
use Rattle.meaning.specs.Body.{listed, entered, Body, done, inner}
use Rattle.meaning.specs.Statements.{Decl, Decls}
use Rattle.meaning.specs.Run.{alone}
use Rattle.meaning.specs.Edited.{rows_of, listed_in, OthersSame}
use Rattle.meaning.proofs.Unplaced.{Twins, unplaced, twins_cycles, twins_rows}

-- the same names in the same order, and the same bodies but for places, save under one name
unfoldable pub OthersTwins : List ℕ → Decls → Decls → Type 0
OthersTwins name [] [] = Unit {0}
OthersTwins name [] (y ∷ ys) = ⊥
OthersTwins name (x ∷ xs) [] = ⊥
OthersTwins name (x ∷ xs) (y ∷ ys) =
    (x.0.word ≡ y.0.word) × ((x.0.word ≡ name → ⊥) → Twins x.1.body y.1.body) × OthersTwins name xs ys

-- the same words, one by one
unfoldable pub SameWords : List Tok → List Tok → Type 0
SameWords [] [] = Unit {0}
SameWords [] (u ∷ us) = ⊥
SameWords (t ∷ ts) [] = ⊥
SameWords (t ∷ ts) (u ∷ us) = (t.word ≡ u.word) × SameWords ts us

pub same_eq : (s t : List ℕ) → same s t ≡ true → s ≡ t
unfolding same
same_eq [] [] e = refl
same_eq [] (b ∷ t) e = let z : ◌≡◌ {A = ℕ} 0 1 = cc in absurd (omega arith)
same_eq (a ∷ s) [] e = let z : ◌≡◌ {A = ℕ} 0 1 = cc in absurd (omega arith)
same_eq (a ∷ s) (b ∷ t) e = by (eqb a b) refl e (same_eq s t)
  where
    by : (x : Bool) → eqb a b ≡ x → (x && same s t) ≡ true → (same s t ≡ true → s ≡ t) → ◌≡◌ {A = List ℕ} (a ∷ s) (b ∷ t)
    by true q e ih = let x = ih e in let y = eqb-true a b q in cc
    by false q e ih = let z : ◌≡◌ {A = ℕ} 0 1 = cc in absurd (omega arith)

-- what a name stands for on both sides
abbrev Found : List ℕ → List ℕ → Option Decl → Option Decl → Type 0
Found name w none none = Unit {0}
Found name w none (some d) = ⊥
Found name w (some d) none = ⊥
Found name w (some d) (some c) = (w ≡ name → ⊥) → Twins d.body c.body

found : (name : List ℕ) (ps qs : Decls) → OthersTwins name ps qs → (w : List ℕ) → Found name w (find ps w) (find qs w)
unfolding OthersTwins find
found name [] [] h w = tt
found name [] (y ∷ qs) h w = absurd h
found name (x ∷ ps) [] h w = absurd h
found name (x ∷ ps) (y ∷ qs) h w = rw (← h.0) (by (same x.0.word w) refl (found name ps qs h.2 w))
  where
    by : (c : Bool) → same x.0.word w ≡ c → Found name w (find ps w) (find qs w)
        → Found name w (elim c [ true ↦ some x.1 | false ↦ find ps w ]) (elim c [ true ↦ some y.1 | false ↦ find qs w ])
    by true e ih = λ z. h.1 (λ q. z (sym (same_eq x.0.word w e) ∙ q))
    by false e ih = ih

twins_alone : (b c : Body) → Twins b c → Twins (alone b) (alone c)
unfolding alone unplaced
twins_alone b c h = ap (λ (x : Body). inner (entered listed 0 []) x done) h

-- THE LAW, over what was read: every listed pattern of another name has as many cycles, and the same rows
pub others_same : (mark : ℕ) (name : List ℕ) (n : ℕ) (ps qs : Decls) → OthersTwins name ps qs → (l k : List Tok) → SameWords l k
    → OthersSame name (listed_in mark n ps l) (listed_in mark n qs k)
unfolding listed_in OthersSame SameWords rows_of
others_same mark name n ps qs h [] [] s = tt
others_same mark name n ps qs h [] (u ∷ k) s = absurd s
others_same mark name n ps qs h (t ∷ l) [] s = absurd s
others_same mark name n ps qs h (t ∷ l) (u ∷ k) s =
    rw (← s.0) (by (find ps t.word) (find qs t.word) (found name ps qs h t.word) (others_same mark name n ps qs h l k s.1))
  where
    by : (o q : Option Decl) → Found name t.word o q → OthersSame name (listed_in mark n ps l) (listed_in mark n qs k)
        → OthersSame name (elim o [ none ↦ [] | some d ↦ rows_of mark n t.word d.body ∷ listed_in mark n ps l ])
        (elim q [ none ↦ [] | some d ↦ rows_of mark n t.word d.body ∷ listed_in mark n qs k ])
    by none none f ih = tt
    by none (some c) f ih = absurd f
    by (some d) none f ih = absurd f
    by (some d) (some c) f ih =
        let same : (t.word ≡ name → ⊥) → Twins (alone d.body) (alone c.body) = λ z. twins_alone d.body c.body (f z) in
        (refl, λ z. (twins_cycles (alone d.body) (alone c.body) (same z), twins_rows mark n (alone d.body) (alone c.body) (same z)), ih)
