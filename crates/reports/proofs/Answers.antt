-- What is answered to a report: one answer for each offset, each a cycle of the pattern; and the front of a report is answered or refused whatever follows.
use Prim.Native.Nat.{ℕ, suc, ◌+◌, ◌≤◌, ◌<◌}
use native.Mathlib.Omega.{arith}
use mathlib.Core.Path.{◌≡◌, refl, sym, ap, ◌∙◌}
use mathlib.Core.Bool.{Bool, true, false}
use mathlib.Core.Option.{Option, none, some}
use mathlib.Core.List.{List, [], ◌∷◌, ◌++◌, append_assoc}
use lib.Dec.{ltb}
use lib.ListN.{length, length-append}
use borrow.Author.Tests.{ltb-true}
use Rattle.meaning.specs.Meaning.{Answer, given, refused, answering}
use Rattle.reports.specs.Report.{Offset, Record, Report, Fail, not_in_pattern, offsets_of, answered_at, answered_of, answered_all, answered}

-- how many answers are due
unfoldable pub offsets_in : List Record → ℕ
offsets_in [] = 0
offsets_in (r ∷ rs) = length (offsets_of r.reference r.offsets) + offsets_in rs

-- every answer is a cycle of the pattern, which begins at `first`
abbrev pub Inside : (first cycles : ℕ) → List Fail → Type 0
Inside first cycles [] = Unit {0}
Inside first cycles (f ∷ fs) = (first ≤ f.cycle) × (f.cycle < first + cycles) × Inside first cycles fs

inside_append : (first cycles : ℕ) (fs gs : List Fail) → Inside first cycles fs → Inside first cycles gs → Inside first cycles (fs ++ gs)
inside_append first cycles [] gs h k = k
inside_append first cycles (f ∷ fs) gs h k = (h.0, h.1, inside_append first cycles fs gs h.2 k)

-- what an answer of two parts is made of
pub record Both {A B C : Type 0} (x : Answer A) (y : Answer B) (f : A → B → C) (c : C) : Type 0 where
  pub one : A
  pub two : B
  pub is_one_lem : x ≡ given one
  pub is_two : y ≡ given two
  pub joined : f one two ≡ c

pub both : {A B C : Type 0} (x : Answer A) (y : Answer B) (f : A → B → C) {c : C} → answering x (λ a. answering y λ b. given (f a b)) ≡ given c → Both x y f c
unfolding answering
both (given a) (given b) f e = record { one = a; two = b; is_one_lem = refl; is_two = refl; joined = cc }
both (given a) (refused n p) f e = let z : ◌≡◌ {A = ℕ} 0 1 = cc in absurd (omega arith)
both (refused n p) y f e = let z : ◌≡◌ {A = ℕ} 0 1 = cc in absurd (omega arith)

module _ (first cycles : ℕ) (past : List ℕ → Option ℕ) where
  -- of one record, behind b cycles
  record Told (n : ℕ) (fs : List Fail) : Type 0 where
    many : length fs ≡ n
    inside : Inside first cycles fs

  told_at : (b s : ℕ) (os : List Offset) {fs : List Fail} → answered_at first cycles past b s os ≡ given fs → Told (length os) fs
  unfolding answered_at answering
  told_at b s [] {fs} e = let q : ◌≡◌ {A = List Fail} [] fs = cc in rw (sym q) (record { many = refl; inside = tt })
  told_at b s (o ∷ os) {fs} e = by (ltb (b + o.n) cycles) refl e (answered_at first cycles past b s os) refl (λ gs h. told_at b s os h)
    where
      by : (z : Bool) → ltb (b + o.n) cycles ≡ z
          → ◌≡◌ {A = Answer (List Fail)} (elim z [
            | false ↦ refused not_in_pattern o.at
            | true ↦ answering (answered_at first cycles past b s os) λ gs. given (record { cycle = first + (b + o.n); signal = s; letter = o.letter } ∷ gs)
          ]) (given fs)
          → (a : Answer (List Fail)) → answered_at first cycles past b s os ≡ a → ((gs : List Fail) → answered_at first cycles past b s os ≡ given gs → Told (length os) gs)
          → Told (suc (length os)) fs
      by false q e a f ih = let z : ◌≡◌ {A = ℕ} 0 1 = cc in absurd (omega arith)
      by true q e (given gs) f ih =
          let h : ◌≡◌ {A = List Fail} (record { cycle = first + (b + o.n); signal = s; letter = o.letter } ∷ gs) fs = cc in
          let t = ih gs f in
          rw (sym h) (record { many = ap suc t.many; inside = (omega arith, omega (arith, ltb-true (b + o.n) cycles q), t.inside) })
      by true q e (refused n p) f ih = let z : ◌≡◌ {A = ℕ} 0 1 = cc in absurd (omega arith)

  told_of_lem : (r : Record) {fs : List Fail} → answered_of first cycles past r ≡ given fs → Told (length (offsets_of r.reference r.offsets)) fs
  unfolding answered_of
  told_of_lem r {fs} e = by (past r.reference.word) e
    where
      by : (o : Option ℕ)
          → ◌≡◌ {A = Answer (List Fail)} (elim o [
            | none ↦ refused not_in_pattern r.reference.at
            | some b ↦ answered_at first cycles past b r.signal (offsets_of r.reference r.offsets)
          ]) (given fs)
          → Told (length (offsets_of r.reference r.offsets)) fs
      by none e = let z : ◌≡◌ {A = ℕ} 0 1 = cc in absurd (omega arith)
      by (some b) e = told_at b r.signal (offsets_of r.reference r.offsets) e

  told_all_lem : (rs : List Record) {fs : List Fail} → answered_all first cycles past rs ≡ given fs → Told (offsets_in rs) fs
  unfolding answered_all offsets_in
  told_all_lem [] {fs} e = let q : ◌≡◌ {A = List Fail} [] fs = cc in rw (sym q) (record { many = refl; inside = tt })
  told_all_lem (r ∷ rs) {fs} e =
      let x = both (answered_of first cycles past r) (answered_all first cycles past rs) ◌++◌ e in
      let t = told_of_lem r x.is_one_lem in
      let u = told_all_lem rs x.is_two in
      rw (sym x.joined)
      (record {
        many = length-append x.one x.two ∙ omega (arith, t.many, u.many);
        inside = inside_append first cycles x.one x.two t.inside u.inside;
      })

  -- one answer for each offset, and one for a record without
  pub answers_many : (r : Report) {fs : List Fail} → answered first cycles past r ≡ given fs → length fs ≡ offsets_in r.records
  answers_many r e = (told_all_lem r.records e).many

  pub answers_inside : (r : Report) {fs : List Fail} → answered first cycles past r ≡ given fs → Inside first cycles fs
  answers_inside r e = (told_all_lem r.records e).inside

  -- the records at the front come first: if they are refused, so is the whole
  pub answered_append : (xs ys : List Record)
      → answered_all first cycles past (xs ++ ys)
      ≡ answering (answered_all first cycles past xs) (λ fs. answering (answered_all first cycles past ys) λ gs. given (fs ++ gs))
  unfolding answered_all answering
  answered_append [] ys = by (answered_all first cycles past ys)
    where
      by : (a : Answer (List Fail)) → a ≡ answering a (λ gs. given gs)
      by (given gs) = refl
      by (refused n p) = refl
  answered_append (r ∷ xs) ys =
      ap (λ (a : Answer (List Fail)). answering (answered_of first cycles past r) λ fs. answering a λ gs. given (fs ++ gs)) (answered_append xs ys)
      ∙ by (answered_of first cycles past r) (answered_all first cycles past xs) (answered_all first cycles past ys)
    where
      by : (x y z : Answer (List Fail))
          → answering x (λ fs. answering (answering y (λ gs. answering z λ hs. given (gs ++ hs))) λ gs. given (fs ++ gs))
          ≡ answering (answering x (λ fs. answering y λ gs. given (fs ++ gs))) (λ fs. answering z λ gs. given (fs ++ gs))
      by (refused n p) y z = refl
      by (given fs) (refused n p) z = refl
      by (given fs) (given gs) (refused n p) = refl
      by (given fs) (given gs) (given hs) = ap given (sym (append_assoc fs gs hs))
