-- A body that can be played hands that down: to the statements behind its first, and to the bodies in it.
use Prim.Native.Nat.{ℕ, ◌+◌, ◌-◌, ◌<◌}
use native.Mathlib.Omega.{arith}
use mathlib.Core.Path.{◌≡◌, refl}
use mathlib.Core.Bool.{true}
use mathlib.Core.List.{List, [], ◌∷◌, ◌++◌}
use Rattle.tokens.proofs.Bools.{both}
use Rattle.meaning.specs.Lists.{has, inside}
use Rattle.meaning.specs.Body.{Assigns, Args, Setting, Kind, Way, looped, shifted, entered, Body, done, vec, set', inner, depth, marked, outside, in_shift, shifting, supplied, turns, lengths_fit, fits}
use Rattle.meaning.proofs.Turns.{Plain, Good, plain_way}
use Rattle.plays.specs.Plays.{Single, Fits}

-- ---- numbers that stand in a list

pub inside_parts : (a b l : List ℕ) → inside (a ++ b) l ≡ true → (inside a l ≡ true) × (inside b l ≡ true)
unfolding inside
inside_parts [] b l h = (refl, h)
inside_parts (x ∷ a) b l h =
    let i = both (has x l) (inside (a ++ b) l) h in
    let j = inside_parts a b l i.1 in
    (rw (i.0, j.0), j.1)

-- ---- a Loop's body has no `#` of its own

pub plain_outside : (b : Body) → Plain b → outside b ≡ []
unfolding Plain outside
plain_outside done h = refl
plain_outside (vec p a r) h = rw (h.0, plain_outside r h.1)
plain_outside (set' x r) h = plain_outside r h.1
plain_outside (inner w b r) h = plain_outside r h.1

pub plain_shifting : (b : Body) → Plain b → shifting b ≡ []
unfolding Plain shifting
plain_shifting done h = refl
plain_shifting (vec p a r) h = plain_shifting r h.1
plain_shifting (set' x r) h = plain_shifting r h.1
plain_shifting (inner w b r) h = rw (plain_way w (Plain b) (outside b) h.0, plain_shifting r h.1)

-- ---- the rest of a body

module _ {more level : ℕ} {args args' : Args} (same : supplied args' ≡ supplied args) where
  -- the same body once more
  pub fits_again : {b : Body} → Fits more level args b → Fits more level args' b
  fits_again f = record { deep = f.deep; levels = f.levels; fed = rw same f.fed; shift_fed = rw same f.shift_fed; single = f.single; good = f.good }

  pub fits_behind_vec : {p : ℕ} {a : Assigns} {r : Body} → Fits more level args (vec p a r) → Fits more level args' r
  unfolding depth outside shifting Single Good
  fits_behind_vec {p} {a} {r} f = record {
    deep = f.deep;
    levels = f.levels;
    fed = rw same (inside_parts (marked a) (outside r) (supplied args) f.fed).1;
    shift_fed = rw same f.shift_fed;
    single = f.single;
    good = f.good;
  }

  pub fits_behind_set : {x : Setting} {r : Body} → Fits more level args (set' x r) → Fits more level args' r
  unfolding depth outside shifting Single Good
  fits_behind_set f = record { deep = f.deep; levels = f.levels; fed = rw same f.fed; shift_fed = rw same f.shift_fed; single = f.single; good = f.good }

  pub fits_behind_inner : {w : Way} {c r : Body} → Fits more level args (inner w c r) → Fits more level args' r
  unfolding depth outside shifting Single Good
  fits_behind_inner {w} {c} {r} f = record {
    deep = omega (arith, f.deep);
    levels = f.levels;
    fed = rw same f.fed;
    shift_fed = rw same (inside_parts (in_shift w (outside c)) (shifting r) (supplied args) f.shift_fed).1;
    single = f.single.2;
    good = f.good.2;
  }

-- ---- the bodies in it

-- there are levels for it
pub fits_some : {more level : ℕ} {args : Args} {w : Way} {c r : Body} → Fits more level args (inner w c r) → 0 < more
unfolding depth
fits_some f = omega (arith, f.deep)

pub fits_looped : {more level n : ℕ} {args : Args} {c r : Body} → Fits more level args (inner (looped n) c r) → Fits (more - 1) level args c
unfolding depth Single Good inside
fits_looped {more} {level} {n} {args} {c} {r} f = record {
  deep = omega (arith, f.deep);
  levels = omega (arith, f.levels);
  fed = rw (plain_outside c f.good.0);
  shift_fed = rw (plain_shifting c f.good.0);
  single = f.single.1;
  good = f.good.1;
}

pub fits_shifted : {more level : ℕ} {args : Args} {c r : Body} → Fits more level args (inner shifted c r) → (p : ℕ) (a : Assigns) → c ≡ vec p a done
    → Fits more level args (vec p a done)
unfolding depth outside shifting in_shift Single Good inside
fits_shifted {more} {level} {args} {c} {r} f p a e = record {
  deep = omega arith;
  levels = f.levels;
  fed = rw e at (inside_parts (outside c) (shifting r) (supplied args) f.shift_fed).0;
  shift_fed = refl;
  single = tt;
  good = tt;
}

-- a used body, with its own arguments
pub fits_entered : {more level t : ℕ} {k : Kind} {a args : Args} {c r : Body} → Fits more level args (inner (entered k t a) c r) → fits c a ≡ true
    → Fits (more - 1) (level + 1) a c
unfolding depth Single Good fits
fits_entered {more} {level} {t} {k} {a} {args} {c} {r} f h =
    let i = inside_parts (outside c) (shifting c) (supplied a) (both _ (lengths_fit c (turns c a) a) h).0 in
    record { deep = omega (arith, f.deep); levels = omega (arith, f.levels, f.deep); fed = i.0; shift_fed = i.1; single = f.single.1; good = f.good.1 }
