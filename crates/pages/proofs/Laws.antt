-- What callers need of a filled page: bytes put one behind the other are one row, and a number's digits read back as that number.
use Prim.Native.Nat.{ℕ, zero, suc, ◌+◌, ◌*◌, ◌-◌, ◌/◌, ◌%◌, ◌^◌, ◌≤◌, ◌<◌, min}
use native.Mathlib.Nat.{pow-succ'}
use native.Mathlib.Omega.{arith}
use mathlib.Core.Path.{◌≡◌, refl, sym, ap, ◌∙◌, subst}
use mathlib.Core.Bool.{Bool, true, false}
use mathlib.Core.Option.{some}
use mathlib.Core.List.{List, [], ◌∷◌, ◌++◌, append_assoc, append-nil}
use lib.Dec.{leb, ltb}
use borrow.Author.Tests.{leb-true, leb-false, ltb-true, le-leb}
use lib.ListN.{length, take, drop, length-append, length-drop, drop_of_length-le}
use lib.Seq.{take_all, length-take-le, take_at, drop-append-add, drop-drop}
use Rattle.pages.specs.Pages.{digits, decimal, digits_most, value, Puts}

-- ---- bytes

-- bytes put at a place; past the page's end they stand behind it
module _ (before : List ℕ) (at : ℕ) (xs : List ℕ) where
  abbrev filled : List ℕ
  filled = take at before ++ (xs ++ drop (at + length xs) before)

  joined : at ≤ length before → length (take at before ++ xs) ≡ at + length xs
  joined h = omega (arith, length-append (take at before) xs, length-take-le at before h)

  inside : filled ≡ (take at before ++ xs) ++ drop (at + length xs) before
  inside = sym (append_assoc (take at before) xs (drop (at + length xs) before))

  past : length before < at → filled ≡ before ++ xs
  past h =
      let none : drop (at + length xs) before ≡ [] = drop_of_length-le before {i = at + length xs} (omega arith) in
      rw (none, append-nil) (ap (λ (l : List ℕ). l ++ xs) (take_all at before (omega arith)))

  filled_front : take (at + length xs) filled ≡ take at before ++ xs
  filled_front = by (leb at (length before)) refl
    where
      by : (t : Bool) → leb at (length before) ≡ t → take (at + length xs) filled ≡ take at before ++ xs
      by true e = rw inside (take_at (take at before ++ xs) (drop (at + length xs) before) (at + length xs) (joined (leb-true at (length before) e)))
      by false e =
          let h : length before < at = leb-false at (length before) e in
          rw (past h, take_all at before (omega arith)) (take_all (at + length xs) (before ++ xs) (omega (arith, length-append before xs)))

  filled_behind : (n : ℕ) → drop (at + length xs + n) filled ≡ drop (at + length xs + n) before
  filled_behind n = by (leb at (length before)) refl
    where
      by : (t : Bool) → leb at (length before) ≡ t → drop (at + length xs + n) filled ≡ drop (at + length xs + n) before
      by true e =
          let done = take at before ++ xs in
          rw (inside, ← joined (leb-true at (length before) e))
          (drop-append-add done (drop (length done) before) n ∙ drop-drop n (length done) before)
      by false e =
          let h : length before < at = leb-false at (length before) e in
          rw (past h)
          (drop_of_length-le (before ++ xs) {i = at + length xs + n} (omega (arith, length-append before xs))
          ∙ sym (drop_of_length-le before {i = at + length xs + n} (omega arith)))

module _ {before : List ℕ} {at : ℕ} {xs : List ℕ} {r : ℕ} {after : List ℕ} (p : Puts before at xs r after) where
  pub puts_length : at + length xs ≤ length before → length after ≡ length before
  puts_length h =
      let rest = drop (at + length xs) before in
      let l = length-append (take at before) (xs ++ rest) in
      ap length p.page
      ∙ omega (arith, l, length-append xs rest, length-take-le at before (omega arith), length-drop (at + length xs) before)

  pub puts_same : {ys : List ℕ} → xs ≡ ys → Puts before at ys r after
  puts_same e = subst (λ (l : List ℕ). Puts before at l r after) e p

  -- and then ys behind them
  pub puts_both : {ys : List ℕ} {s : ℕ} {last : List ℕ} → Puts after r ys s last → Puts before at (xs ++ ys) s last
  puts_both {ys} {s} {last} q =
      let e : at + (length xs + length ys) ≡ at + length xs + length ys = omega arith in
      record {
        page = q.page ∙ rw (p.behind, p.page, filled_front before at xs, filled_behind before at xs (length ys), length-append, e) (simp append_assoc);
        behind = omega (arith, length-append xs ys, p.behind, q.behind);
      }

-- ---- digits

-- one digit more
value_digit : {n : ℕ} (m d : ℕ) (s : List ℕ) → d < 10 → m * 10 + d ≡ n → value m ((48 + d) ∷ s) ≡ value n s
unfolding value
value_digit m d s h e =
    let k : 48 + d - 48 ≡ d = omega arith in
    rw (le-leb 48 (48 + d) (omega arith), le-leb (48 + d) 57 (omega arith), k, e, value)

value_digits : (f n : ℕ) (acc : List ℕ) → n < 10 ^ f → value 0 (digits f n acc) ≡ value n acc
unfolding digits
value_digits zero n acc h = let e : n ≡ 0 = omega arith in rw e
value_digits (suc f) n acc h = by (ltb n 10) refl (value_digits f (n / 10) ((48 + n % 10) ∷ acc) (omega (arith, pow-succ' 10 f)))
  where
    by : (t : Bool) → ltb n 10 ≡ t → value 0 (digits f (n / 10) ((48 + n % 10) ∷ acc)) ≡ value (n / 10) ((48 + n % 10) ∷ acc)
        → value 0 (elim t [ true ↦ (48 + n) ∷ acc | false ↦ digits f (n / 10) ((48 + n % 10) ∷ acc) ]) ≡ value n acc
    by true e more = value_digit 0 n acc (ltb-true n 10 e) (omega arith)
    by false e more = more ∙ value_digit (n / 10) (n % 10) acc (omega arith) (omega arith)

pub decimal_read : (n : ℕ) → n < 2 ^ 64 → value 0 (decimal n) ≡ some n
unfolding decimal value
decimal_read n h = value_digits digits_most n [] (omega arith)

digits_short : (f n : ℕ) (acc : List ℕ) → (length (digits f n acc) ≤ f + length acc) × (min 1 f + length acc ≤ length (digits f n acc))
unfolding digits
digits_short zero n acc = omega arith
digits_short (suc f) n acc = by (ltb n 10) (digits_short f (n / 10) ((48 + n % 10) ∷ acc))
  where
    more : List ℕ
    more = digits f (n / 10) ((48 + n % 10) ∷ acc)

    by : (t : Bool) → (length more ≤ f + suc (length acc)) × (min 1 f + suc (length acc) ≤ length more)
        → (length {A = ℕ} (elim t [ true ↦ (48 + n) ∷ acc | false ↦ more ]) ≤ suc f + length acc)
        × (min 1 (suc f) + length acc ≤ length {A = ℕ} (elim t [ true ↦ (48 + n) ∷ acc | false ↦ more ]))
    by true m = omega arith
    by false m = omega arith

pub decimal_short : (n : ℕ) → (length (decimal n) ≤ digits_most) × (1 ≤ length (decimal n))
unfolding decimal
decimal_short n = digits_short digits_most n []
