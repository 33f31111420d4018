-- Arguments in the tables: none, and one more behind others.
use Prim.Native.Nat.{ℕ, ◌+◌, ◌*◌, ◌<◌}
use native.Mathlib.Omega.{arith}
use mathlib.Core.Path.{◌≡◌, refl, sym, ap, ◌∙◌, subst}
use mathlib.Core.Bool.{Bool, true, false, ◌||◌, true≢false}
use mathlib.Core.List.{List, [], ◌∷◌, ◌++◌}
use lib.Dec.{eqb}
use lib.ListN.{length, get_or, set, length-set}
use lib.Seq.{get_or-set_same, get_or-set_other}
use borrow.Author.Tests.{eq-eqb, ne_eqb, eqb-true, eqb-false}
use Rattle.tokens.proofs.Bools.{neither}
use Rattle.meaning.specs.Bounds.{signals_most}
use Rattle.meaning.specs.Lists.{has, meets, repeats}
use Rattle.meaning.specs.Body.{Assigns, Args, arg_of, supplied}
use Rattle.meaning.specs.Data.{paired, assigned}
use Rattle.meaning.proofs.Lists.{has_append}
use Rattle.sets.proofs.Tidy.{tidy_single}
use Rattle.assigns.specs.Given.{Gave, placed}
use Rattle.assigns.proofs.Table.{gave_more}
use Rattle.arguments.specs.Supplied.{marks_of, Argument, Supplied}
use Rattle.arguments.proofs.Fits.{arg_later}
use Rattle.arguments.proofs.Counted.{marks_assigned}

-- ---- none

pub supplied_none : {text given args : List ℕ} → Gave [] given → length args ≡ signals_most * 2 → Supplied text [] given args
unfolding marks_of supplied has repeats
supplied_none g l =
    record { gave = g; long = l; once = refl; below = λ s e. absurd (true≢false (sym e)); each = λ s e. absurd (true≢false (sym e)) }

-- ---- one more

marks_append : (xs ys : Args) → marks_of (xs ++ ys) ≡ marks_of xs ++ marks_of ys
unfolding marks_of
marks_append [] ys = refl
marks_append (x ∷ xs) ys = ap (λ (l : Assigns). (x.0, 1) ∷ l) (marks_append xs ys)

supplied_append : (xs ys : Args) → supplied (xs ++ ys) ≡ supplied xs ++ supplied ys
unfolding supplied
supplied_append [] ys = refl
supplied_append (x ∷ xs) ys = ap (λ (l : List ℕ). x.0 ∷ l) (supplied_append xs ys)

arg_old : (t : ℕ) (xs ys : Args) → has t (supplied xs) ≡ true → arg_of t (xs ++ ys) ≡ arg_of t xs
unfolding arg_of supplied has
arg_old t [] ys h = absurd (true≢false (sym h))
arg_old t (x ∷ xs) ys h = by (eqb x.0 t) h (arg_old t xs ys)
  where
    by : (z : Bool) → (z || has t (supplied xs)) ≡ true → (has t (supplied xs) ≡ true → arg_of t (xs ++ ys) ≡ arg_of t xs)
        → ◌≡◌ {A = List ℕ} (elim z [ true ↦ x.1 | false ↦ arg_of t (xs ++ ys) ]) (elim z [ true ↦ x.1 | false ↦ arg_of t xs ])
    by true h ih = refl
    by false h ih = ih h

arg_new : (s : ℕ) (cs : List ℕ) (xs : Args) → has s (supplied xs) ≡ false → arg_of s (xs ++ (s, cs) ∷ []) ≡ cs
unfolding arg_of supplied has
arg_new s cs [] h = rw (eq-eqb s s refl, arg_of)
arg_new s cs (x ∷ xs) h =
    let p = neither (eqb x.0 s) (has s (supplied xs)) h in
    arg_later x (xs ++ (s, cs) ∷ []) s p.0 ∙ arg_new s cs xs p.1

repeats_more : (s : ℕ) (l : List ℕ) → repeats l ≡ false → has s l ≡ false → repeats (l ++ s ∷ []) ≡ false
unfolding repeats has
repeats_more s [] h k = refl
repeats_more s (x ∷ l) h k =
    let p = neither (has x l) (repeats l) h in
    let q = neither (eqb x s) (has s l) k in
    let e : eqb s x ≡ false = ne_eqb s x (λ z. eqb-false x s q.0 (sym z)) in
    rw (has_append x l (s ∷ []), p.0, e, repeats_more s l p.1 q.1)

module _ {text : List ℕ} {xs : Args} {given args cs : List ℕ} {s n start : ℕ} (new : has s (supplied xs) ≡ false) (low : s < signals_most)
    (sup : Supplied text xs given args) (arg : Argument text cs n start) where
  abbrev args' : List ℕ
  args' = set (set args s n) (signals_most + s) start

  marks : Gave (marks_of (xs ++ (s, cs) ∷ [])) (set given s 1)
  unfolding marks_of meets has paired placed
  marks =
      let free : meets (s ∷ []) (assigned (marks_of xs)) ≡ false = rw (marks_assigned xs, new) in
      rw (marks_append xs ((s, cs) ∷ [])) (gave_more (marks_of xs) (1 ∷ []) given (tidy_single low) free refl sup.gave)

  -- the table's numbers of the others are as they were
  at_old : (t : ℕ) → t < signals_most → (s ≡ t → ⊥) → (get_or args' t 0 ≡ get_or args t 0) × (get_or args' (signals_most + t) 0 ≡ get_or args (signals_most + t) 0)
  at_old t l d =
      let a = get_or-set_other (set args s n) (signals_most + s) t start 0 (λ z. omega arith) in
      let b = get_or-set_other args s t n 0 (λ z. d (omega arith)) in
      let a' = get_or-set_other (set args s n) (signals_most + s) (signals_most + t) start 0 (λ z. d (omega arith)) in
      let b' = get_or-set_other args s (signals_most + t) n 0 (λ z. omega arith) in
      (a ∙ b, a' ∙ b')

  at_new : (get_or args' s 0 ≡ n) × (get_or args' (signals_most + s) 0 ≡ start)
  at_new =
      let a = get_or-set_other (set args s n) (signals_most + s) s start 0 (λ z. omega arith) in
      let b = get_or-set_same args s n 0 (omega (arith, sup.long)) in
      (a ∙ b, get_or-set_same (set args s n) (signals_most + s) start 0 (omega (arith, sup.long, length-set args s n)))

  -- another signal that has an argument had it before
  before : (t : ℕ) → has t (supplied (xs ++ (s, cs) ∷ [])) ≡ true → eqb s t ≡ false → has t (supplied xs) ≡ true
  unfolding supplied has
  before t h e =
      by (has t (supplied xs)) (sym (rw (supplied_append xs ((s, cs) ∷ []), has_append t (supplied xs) (s ∷ []), e)) ∙ h)
    where
      by : (z : Bool) → (z || false) ≡ true → z ≡ true
      by true h = refl
      by false h = h

  pub supplied_more : Supplied text (xs ++ (s, cs) ∷ []) (set given s 1) args'
  unfolding supplied
  supplied_more =
      record {
        gave = marks;
        long = length-set (set args s n) (signals_most + s) start ∙ length-set args s n ∙ sup.long;
        once = rw (supplied_append xs ((s, cs) ∷ [])) (repeats_more s (supplied xs) sup.once new);
        below = λ t h. low_of t h (eqb s t) refl;
        each = λ t h. each_of t h (eqb s t) refl;
      }
    where
      low_of : (t : ℕ) → has t (supplied (xs ++ (s, cs) ∷ [])) ≡ true → (z : Bool) → eqb s t ≡ z → t < signals_most
      low_of t h true e = omega (arith, eqb-true s t e)
      low_of t h false e = sup.below t (before t h e)

      each_of : (t : ℕ) → has t (supplied (xs ++ (s, cs) ∷ [])) ≡ true → (z : Bool) → eqb s t ≡ z
          → Argument text (arg_of t (xs ++ (s, cs) ∷ [])) (get_or args' t 0) (get_or args' (signals_most + t) 0)
      each_of t h true e =
          subst (λ (t : ℕ). Argument text (arg_of t (xs ++ (s, cs) ∷ [])) (get_or args' t 0) (get_or args' (signals_most + t) 0)) (eqb-true s t e)
          (rw (arg_new s cs xs new, at_new.0, at_new.1) arg)
      each_of t h false e =
          let o = before t h e in
          let k = at_old t (sup.below t o) (eqb-false s t e) in
          rw (arg_old t xs ((s, cs) ∷ []) o, k.0, k.1) (sup.each t o)
