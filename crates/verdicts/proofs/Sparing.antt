-- Answers beside which something else is handed out: with room for that they are themselves.
use Prim.Native.Nat.{ℕ}
use mathlib.Core.Path.{◌≡◌, refl}
use mathlib.Core.Bool.{Bool, true, false, not, ◌&&◌, ◌||◌}
use lib.Dec.{leb, ltb}
use borrow.Author.Tests.{le-leb, lt-leb, ltb-true, ltb-false}
use Rattle.meaning.specs.Refusals.{no_room}
use Rattle.meaning.specs.Meaning.{Answer, given, refused, answering}
use Rattle.verdicts.specs.Buffers.{spared}

-- nothing else is handed out
pub spared_all : {A : Type 0} (a : Answer A) → spared true a ≡ a
unfolding answering
spared_all (given x) = refl
spared_all (refused n p) = refl

-- no room for so many bytes, or for what else is handed out
pub room : (spare : Bool) (bytes long : ℕ) → (spare && leb bytes long) ≡ not (not spare || ltb long bytes)
room true bytes long = by (ltb long bytes) refl
  where
    by : (y : Bool) → ltb long bytes ≡ y → leb bytes long ≡ not y
    by true e = lt-leb bytes long (ltb-true long bytes e)
    by false e = le-leb bytes long (ltb-false long bytes e)
room false bytes long = refl

pub spared_room : {A : Type 0} (spare enough : Bool) (x : A)
    → spared {A = A} spare (elim enough [ false ↦ refused no_room 0 | true ↦ given x ]) ≡ elim (spare && enough) [ false ↦ refused no_room 0 | true ↦ given x ]
unfolding answering
spared_room true true x = refl
spared_room true false x = refl
spared_room false true x = refl
spared_room false false x = refl
