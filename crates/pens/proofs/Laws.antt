-- Bytes behind those that were written, where there is room for them; the front of a row; times.
use Prim.Native.Nat.{ℕ, ◌+◌, ◌-◌, ◌/◌, ◌%◌, ◌≤◌, ◌<◌}
use native.Mathlib.Omega.{arith}
use mathlib.Core.Path.{◌≡◌, refl, sym, ap, ap₂, ◌∙◌, subst}
use mathlib.Core.Bool.{Bool, true, false}
use mathlib.Core.List.{List, [], ◌∷◌, ◌++◌, append_assoc}
use lib.Dec.{leb}
use lib.ListN.{length, take, drop, length-append}
use borrow.Author.Tests.{leb-true, leb-false, lt-ltb, le-ltb, eq-eqb, ne_eqb}
use lib.Seq.{take_at, length-take-le, drop-append-add, drop-drop}
use Rattle.tokens.specs.Written.{bytes}
use Rattle.std.specs.Prelude.{Option, Some, None}
use Rattle.std.proofs.lemmas.Option.{none-some, same_Some}
use Rattle.pages.specs.Pages.{decimal, Puts}
use Rattle.pages.proofs.Laws.{puts_length}
use Rattle.folded.specs.Layout.{timed}
use Rattle.meaning.specs.Bounds.{time_most}
use Rattle.meaning.specs.Timing.{plus, minus, uncounted}
use Rattle.pens.specs.Pens.{signed_timed, Holds, Writes}
use Rattle.pens.specs.declared.Pen.{Pen}

page_is : (front bytes before entry exit : List ℕ) (at : ℕ) → at ≡ length front → entry ≡ front ++ drop (length front) before → exit ≡ take at entry ++ (bytes ++ drop (at + length bytes) entry)
    → exit ≡ (front ++ bytes) ++ drop (length (front ++ bytes)) before
page_is front bytes before entry exit at a e p =
    let rest = drop (length front) before in
    p ∙ ap₂ (λ (n : ℕ) (l : List ℕ). take n l ++ (bytes ++ drop (n + length bytes) l)) a e
    ∙ ap₂ (λ (x y : List ℕ). x ++ (bytes ++ y)) (take_at front rest (length front) refl) (drop-append-add front rest (length bytes) ∙ drop-drop (length bytes) (length front) before)
    ∙ sym (append_assoc front bytes _) ∙ ap (λ (n : ℕ). (front ++ bytes) ++ drop n before) (sym (length-append front bytes))

-- a pen that stands at some place stands behind what was written
stands : {o : Option ℕ} {at n : ℕ} → o ≡ Some at → o ≡ Some n → at ≡ n
stands e f = same_Some _ _ (sym e ∙ f)

-- what is written already had room, and so have these
overflows : (entry bytes : List ℕ) (pen : Pen) {at : ℕ} → pen.at ≡ Some at → at + length bytes ≤ length entry → (before front : List ℕ) → Holds before front pen entry → (b : Bool)
    → leb (length front) (length before) ≡ b → length before < length (front ++ bytes) → {o : Option ℕ} → o ≡ None
overflows entry bytes pen e f before front h true q l = absurd (omega (arith, stands e (h.some (leb-true _ _ q)).0, h.kept, length-append front bytes))
overflows entry bytes pen e f before front h false q l = absurd (none-some _ (sym (h.none (leb-false _ _ q)) ∙ e))

module _ {entry bytes : List ℕ} {pen : Pen} where
  pub writes_put : {exit : List ℕ} {r : Pen} {at end : ℕ} → pen.at ≡ Some at → at + length bytes ≤ length entry → r.at ≡ Some end → Puts entry at bytes end exit → Writes entry pen bytes exit r
  writes_put {exit} {r} {at} e f g p = record {
    kept = puts_length p f;
    on = λ before front h. record {
      kept = puts_length p f ∙ h.kept;
      some = λ l.
          let s = h.some (omega (arith, length-append front bytes)) in
          let a = stands e s.0 in
          (g ∙ ap Some (p.behind ∙ omega (arith, a, length-append front bytes)), page_is front bytes before entry exit at a s.1 p.page);
      none = λ l. overflows entry bytes pen e f before front h (leb (length front) (length before)) refl l;
    };
  }

-- bytes, and then others
pub writes_both : {entry mid exit a b : List ℕ} {pen p r : Pen} → Writes entry pen a mid p → Writes mid p b exit r → Writes entry pen (a ++ b) exit r
writes_both {exit = exit} {a = a} {b = b} {r = r} f g = record {
  kept = g.kept ∙ f.kept;
  on = λ before front h. subst (λ (l : List ℕ). Holds before l r exit) (append_assoc front a b) (g.on before (front ++ a) (f.on before front h));
}

pub writes_same : {entry exit a b : List ℕ} {pen r : Pen} → a ≡ b → Writes entry pen a exit r → Writes entry pen b exit r
writes_same {entry} {exit} {pen = pen} {r = r} e f = subst (λ (l : List ℕ). Writes entry pen l exit r) e f

-- ---- what was put at the front of a row

module _ {before xs after : List ℕ} {r : ℕ} (p : Puts before 0 xs r after) where
  front_is : after ≡ xs ++ drop (0 + length xs) before
  front_is = p.page

  pub put_front : take r after ≡ xs
  put_front = ap₂ (λ (n : ℕ) (l : List ℕ). take n l) p.behind front_is ∙ take_at xs (drop (0 + length xs) before) (0 + length xs) (omega arith)

  pub put_within : r ≤ length after
  put_within = omega (arith, p.behind, ap length front_is, length-append xs (drop (0 + length xs) before))

  pub put_counts : r ≡ length (take r after)
  put_counts = sym (length-take-le r after put_within)

-- ---- times

pub time_ns : (n : ℕ) → n % 1000 ≡ 0 → decimal (n / 1000) ++ 110 ∷ 115 ∷ [] ≡ timed n
unfolding timed bytes
time_ns n e = sym (ap (λ (b : Bool). elim b as (λ c. List ℕ) [ true ↦ decimal (n / 1000) ++ bytes "ns" | false ↦ decimal n ++ bytes "ps" ]) (eq-eqb (n % 1000) 0 e))

pub time_ps : (n : ℕ) → (n % 1000 ≡ 0 → ⊥) → decimal n ++ 112 ∷ 115 ∷ [] ≡ timed n
unfolding timed bytes
time_ps n e = sym (ap (λ (b : Bool). elim b as (λ c. List ℕ) [ true ↦ decimal (n / 1000) ++ bytes "ns" | false ↦ decimal n ++ bytes "ps" ]) (ne_eqb (n % 1000) 0 e))

-- ---- with a sign

as_written : ℕ → Bool → List ℕ
as_written t b = signed_timed (elim b [ true ↦ minus (time_most - t) | false ↦ plus (t - time_most) ])

pub signed_before_lem : (t : ℕ) → t < time_most → 45 ∷ timed (time_most - t) ≡ signed_timed (uncounted t)
unfolding signed_timed uncounted as_written
signed_before_lem t h = ap (as_written t) (sym (lt-ltb t time_most h))

pub signed_behind : (t : ℕ) → time_most ≤ t → timed (t - time_most) ≡ signed_timed (uncounted t)
unfolding signed_timed uncounted as_written
signed_behind t h = ap (as_written t) (sym (le-ltb t time_most h))
