-- One turn of each loop: a byte more in the page, a digit more in the row that is filled from its end.
use Prim.Native.Nat.{ℕ, zero, suc, ◌+◌, ◌-◌, ◌/◌, ◌%◌, ◌^◌, ◌≤◌, ◌<◌}
use native.Mathlib.Nat.{pow-succ'}
use native.Mathlib.Omega.{arith}
use native.Mathlib.Numerals.{add-one}
use mathlib.Core.Path.{◌≡◌, refl, sym, ◌∙◌}
use mathlib.Core.List.{List, ◌∷◌, append_assoc}
use borrow.Author.Tests.{lt-ltb, le-ltb}
use lib.ListN.{length, get_or, take, drop, set, length-set, length-drop, drop_of_length-le}
use lib.Seq.{take_all, take-length, drop-set-lt, drop-cons, get_or-set_same, paste, paste-suc}
use Rattle.pages.specs.Pages.{digits, decimal, digits_most, Puts}

-- ---- bytes

-- the first i of them stand there
pub record Copied (before : List ℕ) (at : ℕ) (xs : List ℕ) (i : ℕ) (page : List ℕ) : Type 0 where
  pub is : page ≡ paste before at xs i
  pub kept : length page ≡ length before

module _ {before : List ℕ} {at : ℕ} {xs : List ℕ} where
  module _ {i : ℕ} {page : List ℕ} (c : Copied before at xs i page) where
    pub copied_more : at + i < length before → i < length xs → Copied before at xs (i + 1) (set page (at + i) (get_or xs i 0))
    copied_more h k = record { is = rw (c.is, add-one) (paste-suc before at xs i 0 h k); kept = simp length-set c.kept }

    pub copied_all : i ≡ length xs → Puts before at xs (at + length xs) page
    copied_all h = record { page = c.is ∙ rw (h, take-length) (append_assoc (take at before) xs (drop (at + length xs) before)); behind = refl }

-- ---- digits

-- behind `first` stand the last digits of n; `left`, before them, has room
pub record Spelled (n : ℕ) (row : List ℕ) (first left : ℕ) : Type 0 where
  pub kept : length row ≡ digits_most
  pub within : first < digits_most
  pub small : left < 10 ^ suc first
  pub rest : decimal n ≡ digits (suc first) left (drop (suc first) row)

digits_more : (f n : ℕ) (acc : List ℕ) → 10 ≤ n → digits (suc f) n acc ≡ digits f (n / 10) ((48 + n % 10) ∷ acc)
unfolding digits
digits_more f n acc h = rw (le-ltb n 10 h, digits)

digits_last : (f n : ℕ) (acc : List ℕ) → n < 10 → digits (suc f) n acc ≡ (48 + n) ∷ acc
unfolding digits
digits_last f n acc h = rw (lt-ltb n 10 h, digits)

-- a store before the digits that stand
stored : (row : List ℕ) (first x : ℕ) → first < length row → drop first (set row first x) ≡ x ∷ drop (suc first) row
stored row first x h =
    drop-cons (set row first x) first 0 (rw length-set h)
    ∙ rw (get_or-set_same row first x 0 h, drop-set-lt (suc first) row first x (omega arith))

pub spelled_none : {n : ℕ} {row : List ℕ} → length row ≡ digits_most → n < 2 ^ 64 → Spelled n row 19 n
unfolding decimal
spelled_none {n} {row} l h = record { kept = l; within = omega arith; small = omega arith; rest = rw (drop_of_length-le row {i = 20} (omega arith)) }

module _ {n : ℕ} {row : List ℕ} {first left : ℕ} (s : Spelled n row first left) where
  pub spelled_room : 10 ≤ left → 0 < first
  spelled_room h = by first s.small
    where
      by : (k : ℕ) → left < 10 ^ suc k → 0 < k
      by zero q = absurd (omega arith)
      by (suc k) q = omega arith

  pub spelled_more : 10 ≤ left → Spelled n (set row first (48 + left % 10)) (first - 1) (left / 10)
  spelled_more h =
      let e : suc (first - 1) ≡ first = omega (arith, spelled_room h) in
      record {
        kept = rw length-set s.kept;
        within = omega arith;
        small = rw e (omega (arith, pow-succ' 10 first));
        rest = s.rest ∙ rw (e, stored row first (48 + left % 10) (omega arith)) (digits_more first left (drop (suc first) row) h);
      }

  -- the row's part from `first` to its end
  pub spelled_all : left < 10 → take (digits_most - first) (drop first (set row first (48 + left))) ≡ decimal n
  spelled_all h =
      let whole = set row first (48 + left) in
      take_all (digits_most - first) (drop first whole) (omega (arith, length-drop first whole, length-set row first (48 + left)))
      ∙ stored row first (48 + left) (omega arith)
      ∙ sym (s.rest ∙ digits_last first left (drop (suc first) row) h)
