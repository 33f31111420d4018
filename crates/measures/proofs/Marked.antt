-- Where `#` stands in a statement's assignments: no signal is assigned twice, so that its character tells how often it has one.
use Prim.Native.Nat.{ℕ, suc, ◌<◌}
use native.Mathlib.Omega.{arith}
use mathlib.Core.Path.{◌≡◌, refl, sym, ap, ◌∙◌}
use mathlib.Core.Bool.{Bool, true, false, not, true≢false}
use mathlib.Core.List.{List, [], ◌∷◌}
use lib.Dec.{eqb}
use lib.ListN.{get_or}
use borrow.Author.Tests.{eqb-true, eq-eqb}
use Rattle.tokens.proofs.Bools.{neither}
use Rattle.meaning.specs.Bounds.{signals_most}
use Rattle.meaning.specs.Lists.{has, count, repeats, empty}
use Rattle.meaning.specs.Body.{Assigns, mark, marked}
use Rattle.meaning.specs.Data.{assigned}
use Rattle.meaning.proofs.Lists.{marked_not}
use Rattle.assigns.specs.Given.{char_of}
use Rattle.measures.specs.Uses.{flag, Given}
use Rattle.measures.proofs.Counting.{flag_true, flag_false, not_counted, there_counted, has_at, has_nowhere}

pub marked_assigned : (s : ℕ) (a : Assigns) → has s (marked a) ≡ true → has s (assigned a) ≡ true
marked_assigned s a h = by (has s (assigned a)) refl
  where
    by : (b : Bool) → has s (assigned a) ≡ b → b ≡ true
    by true e = refl
    by false e = absurd (true≢false (sym h ∙ marked_not s a e))

count_marked : (s : ℕ) (a : Assigns) → repeats (assigned a) ≡ false → count s (marked a) ≡ flag (eqb (char_of s a) mark)
unfolding count marked char_of repeats assigned
count_marked s [] h = refl
count_marked s (x ∷ xs) h =
    let p = neither (has x.0 (assigned xs)) (repeats (assigned xs)) h in
    by (eqb x.0 s) (eqb x.1 mark) refl refl p.0 (count_marked s xs p.1)
  where
    none : eqb x.0 s ≡ true → has x.0 (assigned xs) ≡ false → count s (marked xs) ≡ 0
    none e n = not_counted s (marked xs) (marked_not s xs (rw (eqb-true x.0 s e) at n))

    by : (b m : Bool) → eqb x.0 s ≡ b → eqb x.1 mark ≡ m → has x.0 (assigned xs) ≡ false → count s (marked xs) ≡ flag (eqb (char_of s xs) mark)
        → count s (elim m [ true ↦ x.0 ∷ marked xs | false ↦ marked xs ]) ≡ flag (eqb (elim b [ true ↦ x.1 | false ↦ char_of s xs ]) mark)
    by true true e f n ih = rw (e, count) (ap suc (none e n) ∙ sym (ap flag f))
    by true false e f n ih = none e n ∙ sym (ap flag f)
    by false true e f n ih = rw (e, count) ih
    by false false e f n ih = ih

-- ---- as the code has them

module _ {a : Assigns} {given : List ℕ} (g : Given a given) where
  pub count_given : (s : ℕ) → s < signals_most → count s (marked a) ≡ flag (eqb (get_or given s 0) mark)
  count_given s h = count_marked s a g.once ∙ ap (λ (b : ℕ). flag (eqb b mark)) (sym (g.gave.each s h))

  pub marked_below : (s : ℕ) → has s (marked a) ≡ true → s < signals_most
  marked_below s h = g.below s (marked_assigned s a h)

  -- there is `#`, or there is none
  marked_some : (l : List ℕ) → marked a ≡ l → has mark given ≡ not (empty l)
  unfolding empty has
  marked_some [] e =
      has_nowhere mark given (λ k h.
      let below : k < signals_most = omega (arith, g.gave.long) in
      flag_false (eqb (get_or given k 0) mark) (sym (count_given k below) ∙ ap (count k) e ∙ not_counted k [] refl))
  marked_some (x ∷ l) e =
      let there : has x (marked a) ≡ true = rw (e, eq-eqb x x refl) in
      let below = marked_below x there in
      has_at mark given x (omega (arith, g.gave.long))
      (flag_true (eqb (get_or given x 0) mark) (omega (arith, count_given x below, there_counted x (marked a) there)))

  pub mark_given : has mark given ≡ not (empty (marked a))
  mark_given = marked_some (marked a) refl
