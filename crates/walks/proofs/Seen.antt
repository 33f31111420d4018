-- What is seen of a row of cycles in two parts: of the first, and then of the second with as many fewer to pass and to show.
use mathlib.Core.Path.{◌≡◌, refl, sym, ap, ap₂, ◌∙◌, subst}
use Prim.Native.Nat.{ℕ, zero, suc, ◌+◌, ◌-◌, ◌≤◌, ◌<◌, min}
use native.Mathlib.Nat.{eq-zero-or-pos, zero-sub, sub-zero, sub_self, sub-eq-zero_of_le}
use native.Mathlib.Numerals.{unary_clauses}
use native.Mathlib.Omega.{arith}
use mathlib.Core.Logic.{◌⊎◌, inl, inr}
use mathlib.Core.List.{List, [], ◌∷◌, ◌++◌, append_assoc, append-nil}
use lib.ListN.{length, take, drop, length-append, length-take, length-drop, drop_of_length-le}
use lib.Seq.{take-nil, take_all, take-add, drop-drop}
use Rattle.meaning.specs.Run.{Cycle}
use Rattle.walks.specs.Seen.{seen, Through, GoesOn}

module _ {A : Type 0} where
  pub length_seen : (n m : ℕ) (l : List A) → length (seen n m l) ≡ min m (length l - n)
  length_seen n m l = length-take m (drop n l) ∙ ap (min m) (length-drop n l)

  -- at or past the end
  pub seen_past : (n m : ℕ) (l : List A) → length l ≤ n → seen n m l ≡ []
  seen_past n m l h = ap (take m) (drop_of_length-le l h) ∙ take-nil m

  pub seen_none : (n : ℕ) (l : List A) → seen n 0 l ≡ []
  seen_none n l = refl

  pub seen_all : (m : ℕ) (l : List A) → length l ≤ m → seen 0 m l ≡ l
  seen_all m l h = take_all m l h

  -- more of them: those behind
  pub seen_more : (n m k : ℕ) (l : List A) → seen n (m + k) l ≡ seen n m l ++ seen (n + m) k l
  seen_more n m k l = take-add m k (drop n l) ∙ ap (λ (x : List A). seen n m l ++ take k x) (drop-drop m n l)

  -- as many are left to show as the cycles behind n leave
  pub left_to_show : (n m : ℕ) (l : List A) → m - length (seen n m l) ≡ m - (length l - n)
  left_to_show n m l = omega (arith, length_seen n m l)

  take-++ : (m : ℕ) (a b : List A) → take m (a ++ b) ≡ take m a ++ take (m - length (take m a)) b
  take-++ zero a b = refl
  take-++ (suc m) [] b = simp unary_clauses
  take-++ (suc m) (x ∷ a) b = simp unary_clauses (ap (λ (l : List A). x ∷ l) (take-++ m a b))

  drop-++ : (n : ℕ) (a b : List A) → drop n (a ++ b) ≡ drop n a ++ drop (n - length a) b
  drop-++ zero a b = rw zero-sub
  drop-++ (suc n) [] b = simp unary_clauses
  drop-++ (suc n) (x ∷ a) b = simp unary_clauses (drop-++ n a b)

  pub seen-++ : (n m : ℕ) (a b : List A) → seen n m (a ++ b) ≡ seen n m a ++ seen (n - length a) (m - length (seen n m a)) b
  seen-++ n m a b = ap (take m) (drop-++ n a b) ∙ take-++ m (drop n a) (drop (n - length a) b)

  -- the first part lies before n
  pub seen_behind : (n m : ℕ) (a b : List A) → length a ≤ n → seen n m (a ++ b) ≡ seen (n - length a) m b
  seen_behind n m a b h = seen-++ n m a b ∙ ap (λ (x : List A). x ++ seen (n - length a) (m - length x) b) (seen_past n m a h) ∙ rw sub-zero

  -- n lies in the first part: the second is shown from its beginning
  pub seen_from : (n m : ℕ) (a b : List A) → n ≤ length a → seen n m (a ++ b) ≡ seen n m a ++ seen 0 (m - (length a - n)) b
  seen_from n m a b h =
      seen-++ n m a b ∙ ap₂ (λ (i j : ℕ). seen n m a ++ seen i j b) (sub-eq-zero_of_le h) (left_to_show n m a)

  -- the first part is all that is shown
  pub seen_full : (n m : ℕ) (a b : List A) → length (seen n m a) ≡ m → seen n m (a ++ b) ≡ seen n m a
  seen_full n m a b h =
      seen-++ n m a b ∙ ap (λ (k : ℕ). seen n m a ++ seen (n - length a) (m - k) b) h ∙ rw sub_self (append-nil (seen n m a))

-- ---- the same as it goes on from part to part

pub through_none : (n m : ℕ) → Through [] n m [] n m
through_none n m = record { shown = sym (seen_past n m [] (omega arith)); show = omega arith; pass = λ h. omega arith }

-- nothing is to be shown
pub through_idle : (l : List Cycle) (n n' : ℕ) → Through l n 0 [] n' 0
through_idle l n n' = record { shown = refl; show = omega arith; pass = λ h. absurd (omega arith) }

pub through_passed : (l : List Cycle) (n m : ℕ) → length l ≤ n → Through l n m [] (n - length l) m
through_passed l n m h = record { shown = sym (seen_past n m l h); show = omega arith; pass = λ h. refl }

pub through_all : (l : List Cycle) (n m : ℕ) → Through l n m (seen n m l) (n - length l) (m - (length l - n))
through_all l n m = record { shown = refl; show = sym (left_to_show n m l); pass = λ h. refl }

-- the cycle looked for
pub through_one : (c : Cycle) (m : ℕ) → 0 < m → Through (c ∷ []) 0 m (c ∷ []) 0 (m - 1)
through_one c zero h = elim h [ ]
through_one c (suc m) h = record { shown = ap (λ (l : List Cycle). c ∷ l) (sym (take-nil m)); show = omega arith; pass = λ h. omega arith }

module _ {a : List Cycle} {n m : ℕ} {cs : List Cycle} {n₁ m₁ : ℕ} (x : Through a n m cs n₁ m₁) where
  pub through_both : {b ds : List Cycle} {n₂ m₂ : ℕ} → Through b n₁ m₁ ds n₂ m₂ → Through (a ++ b) n m (cs ++ ds) n₂ m₂
  through_both {b} {ds} {n₂} {m₂} y =
      record {
        shown = sym (parts ∙ ap (λ (l : List Cycle). cs ++ l) (same (eq-zero-or-pos m₁) ∙ sym y.shown));
        show = omega (arith, length-append cs ds);
        pass = λ h. omega (arith, length-append a b, x.pass (omega arith), y.pass h);
      }
    where
      parts : seen n m (a ++ b) ≡ cs ++ seen (n - length a) m₁ b
      parts =
          seen-++ n m a b ∙ ap (λ (l : List Cycle). l ++ seen (n - length a) (m - length l) b) (sym x.shown)
          ∙ ap (λ (k : ℕ). cs ++ seen (n - length a) k b) (sym x.show)

      same : (m₁ ≡ 0) ⊎ (0 < m₁) → seen (n - length a) m₁ b ≡ seen n₁ m₁ b
      same (inl e) = rw e
      same (inr h) = ap (λ (k : ℕ). seen k m₁ b) (sym (x.pass h))

-- nothing is left to show: what comes is not gone through
pub through_full : {a : List Cycle} {n m : ℕ} {cs : List Cycle} {n₁ : ℕ} → Through a n m cs n₁ 0 → (b : List Cycle) → Through (a ++ b) n m cs n₁ 0
through_full {a} {n} {m} {cs} {n₁} x b =
    subst (λ (l : List Cycle). Through (a ++ b) n m l n₁ 0) (append-nil cs) (through_both x (through_idle b n₁ n₁))

-- ---- up to where the rest is still to be gone through

pub goes_same : (l : List Cycle) (n m : ℕ) → GoesOn l n m [] l n m
goes_same l n m = record { on = λ ds n'' m'' x. x }

pub goes_then : {l l₁ l₂ cs ds : List Cycle} {n m n₁ m₁ n₂ m₂ : ℕ} → GoesOn l n m cs l₁ n₁ m₁ → GoesOn l₁ n₁ m₁ ds l₂ n₂ m₂ → GoesOn l n m (cs ++ ds) l₂ n₂ m₂
goes_then {l} {cs} {ds} {n} {m} x y = record {
  on = λ es n'' m'' z. subst (λ (k : List Cycle). Through l n m k n'' m'') (sym (append_assoc cs ds es)) (x.on (ds ++ es) n'' m'' (y.on es n'' m'' z));
}

-- a first part gone through
pub goes_past : {a cs : List Cycle} {n m n₁ m₁ : ℕ} → Through a n m cs n₁ m₁ → (b : List Cycle) → GoesOn (a ++ b) n m cs b n₁ m₁
goes_past x b = record { on = λ ds n'' m'' y. through_both x y }

-- the end, and nothing left to show before it
module _ {l cs l' : List Cycle} {n m n' : ℕ} where
  pub goes_all : {m' : ℕ} → GoesOn l n m cs l' n' m' → l' ≡ [] → Through l n m cs n' m'
  goes_all {m'} x e =
      subst (λ (k : List Cycle). Through l n m k n' m') (append-nil cs)
      (x.on [] n' m' (subst (λ (k : List Cycle). Through k n' m' [] n' m') (sym e) (through_none n' m')))

  pub goes_full : GoesOn l n m cs l' n' 0 → Through l n m cs n' 0
  goes_full x = subst (λ (k : List Cycle). Through l n m k n' 0) (append-nil cs) (x.on [] n' 0 (through_idle l' n' n'))
