-- What a test that is made of two tests says of each, and what each says of it.
use Prim.Native.Nat.{ℕ, ◌<◌}
use mathlib.Core.Path.{◌≡◌, refl, sym, ◌∙◌}
use mathlib.Core.Bool.{Bool, true, false, ◌&&◌, ◌||◌, true≢false, false≢true}
use lib.Dec.{eqb, ltb}
use borrow.Author.Tests.{ltb-true, eqb-true, eqb-false, eq-eqb, ne_eqb}

pub both : (x y : Bool) → (x && y) ≡ true → (x ≡ true) × (y ≡ true)
both true y h = (refl, h)
both false y h = absurd (false≢true h)

pub both_below : (a b c : ℕ) → (ltb a b && ltb a c) ≡ true → (a < b) × (a < c)
both_below a b c h = let p = both (ltb a b) (ltb a c) h in (ltb-true a b p.0, ltb-true a c p.1)

pub neither : (x y : Bool) → (x || y) ≡ false → (x ≡ false) × (y ≡ false)
neither true y h = absurd (true≢false h)
neither false y h = (refl, h)

pub neither_or : {x y : Bool} → x ≡ false → y ≡ false → (x || y) ≡ false
neither_or e f = rw (e, f)

pub either : {C : Type 0} (x y : Bool) → (x ≡ true → C) → (y ≡ true → C) → (x || y) ≡ true → C
either true y f g h = f refl
either false y f g h = g h

pub or_right : (x y : Bool) → y ≡ true → (x || y) ≡ true
or_right true y h = refl
or_right false y h = h

-- what follows from a test does not hold, so the test does not
pub contra : (x y : Bool) → (x ≡ true → y ≡ true) → y ≡ false → x ≡ false
contra true y h e = absurd (true≢false (sym (h refl) ∙ e))
contra false y h e = refl

pub true_false : {A : Type 0} {x : Bool} → x ≡ true → x ≡ false → A
true_false p q = absurd (true≢false (sym p ∙ q))

pub eqb_comm : (a b : ℕ) → eqb a b ≡ eqb b a
eqb_comm a b = by (eqb b a) refl
  where
    by : (x : Bool) → eqb b a ≡ x → eqb a b ≡ x
    by true e = eq-eqb a b (sym (eqb-true b a e))
    by false e = ne_eqb a b λ q. eqb-false b a e (sym q)

pub never : {A : Type 0} → false ≡ true → A
never e = absurd (false≢true e)
