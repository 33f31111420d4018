-- Names in a table of the code: what is found there from a number on, and what a name that is found, or not, does to reading.
use Prim.Native.Nat.{ℕ, suc, ◌+◌, ◌-◌, ◌≤◌, ◌<◌}
use native.Mathlib.Omega.{arith}
use native.Mathlib.Numerals.{add-one}
use mathlib.Core.Path.{◌≡◌, refl, sym, ap, ◌∙◌}
use mathlib.Core.Bool.{Bool, true, false, not}
use mathlib.Core.Option.{Option, none, some}
use mathlib.Core.List.{List, ◌∷◌}
use lib.Dec.{eqb, leb, ltb}
use borrow.Author.Tests.{lt-ltb, le-leb, lt-leb, ltb-true, ltb-false, leb-false}
use Rattle.tokens.specs.Written.{same}
use Rattle.meaning.specs.Names.{find, is_some, known}
use Rattle.words.specs.Cursor.{Goes, Checked}
use Rattle.words.specs.Table.{name_of, names_from, names}
use Rattle.words.specs.Values.{told}
use Rattle.words.specs.declared.Cursor.{Cursor}
use Rattle.words.proofs.Flow.{passed, known_or}
use Rattle.words.proofs.Words.{told_some}

module _ (text places w : List ℕ) (count i : ℕ) where
  -- what is found among the names from number i on
  abbrev pub found_from : Option ℕ
  found_from = find (names_from text places i (count - i)) w

-- from number 0 on, that is all of them
pub found_all : (text places w : List ℕ) (count : ℕ) → find (names text places count) w ≡ found_from text places w count 0
found_all text places w count = let e : count ≡ count - 0 = omega arith in ap (λ (k : ℕ). find (names_from text places 0 k) w) e

module _ (text places w : List ℕ) (count i : ℕ) (h : i < count) where
  names_cut : names_from text places i (count - i) ≡ (name_of text places i, i) ∷ names_from text places (i + 1) (count - (i + 1))
  unfolding names_from
  names_cut =
      let e : count - i ≡ suc (count - (i + 1)) = omega arith in
      ap (names_from text places i) e ∙ (rw (add-one i))

  pub found_here : same (name_of text places i).word w ≡ true → found_from text places w count i ≡ some i
  unfolding find
  found_here e = rw names_cut (rw (e, find))

  pub found_later : same (name_of text places i).word w ≡ false → found_from text places w count i ≡ found_from text places w count (i + 1)
  unfolding find
  found_later e = rw names_cut (rw (e, find))

pub found_nowhere : (text places w : List ℕ) (count i : ℕ) → count ≤ i → found_from text places w count i ≡ none
unfolding find names_from
found_nowhere text places w count i h = let e : count - i ≡ 0 = omega arith in rw e

not_below : (a b : ℕ) → leb a b ≡ not (ltb b a)
not_below a b = by (ltb b a) refl
  where
    by : (x : Bool) → ltb b a ≡ x → leb a b ≡ not x
    by true e = lt-leb a b (ltb-true b a e)
    by false e = le-leb a b (ltb-false b a e)

-- the number that the code found, or a refusal
pub known_by : {text : List ℕ} {c r : Cursor} {n p i : ℕ} {o : Option ℕ} (count : ℕ) → Checked c (leb count i) n p r → told (ltb i count) i ≡ o
    → eqb n 0 ≡ false → Goes text c (known o n p) r i
known_by {text} {c} {r} {n} {p} {i} {o} count e f z =
    known_or e (not_below count i ∙ ap not (sym (told_some (ltb i count) i) ∙ ap is_some f))
    (λ h. sym f ∙ (rw (lt-ltb i count (leb-false count i (passed e z h)))))
    z
