-- A run that repeats the bytes w before it, as lists: it is the front of every list that w may stand before or behind, as w said any number of times.
use Prim.Native.Nat.{ℕ, zero, suc, ◌+◌, ◌-◌, ◌≤◌, ◌<◌}
use native.Mathlib.Omega.{arith}
use mathlib.Core.Path.{◌≡◌, refl, sym, ap, ◌∙◌}
use mathlib.Core.List.{List, [], ◌∷◌, ◌++◌, append_assoc}
use lib.ListN.{length, get_or, take, drop, length-append, length-drop, take-append-drop}
use lib.Seq.{length-take-le, take-take, take-append-le, drop_at, get_or-take, get_or-drop, ext_get_or}
use Rattle.repeats.specs.Copied.{Extends}

-- ---- a list that begins as it does behind some of its elements

module _ {A : Type 0} where
  take_fewer : (m n : ℕ) (a b : List A) → m ≤ n → take n a ≡ take n b → take m a ≡ take m b
  take_fewer m n a b h e = sym (take-take m n a h) ∙ ap (take m) e ∙ take-take m n b h

  take_behind : (n : ℕ) (xs a b : List A) → take n a ≡ take n b → take n (xs ++ a) ≡ take n (xs ++ b)
  take_behind zero xs a b e = refl
  take_behind (suc n) [] a b e = e
  take_behind (suc n) (x ∷ xs) a b e = ap (λ (l : List A). x ∷ l) (take_behind n xs a b (take_fewer n (suc n) a b (omega arith) e))

  -- where another does too, both begin alike
  alike : (xs ys zs : List A) → 0 < length xs → xs ++ zs ≡ zs ++ xs → (n : ℕ) → n ≤ length zs → take n ys ≡ take n (xs ++ ys) → take n ys ≡ take n zs
  alike [] ys zs some turn n h e = absurd (omega arith)
  alike (x ∷ xs) ys zs some turn zero h e = refl
  alike (x ∷ xs) ys zs some turn (suc n) h e =
      let fewer = alike (x ∷ xs) ys zs some turn n (omega arith) (take_fewer n (suc n) ys (x ∷ xs ++ ys) (omega arith) e) in
      e ∙ ap (λ (l : List A). x ∷ l) (take_behind n xs ys zs fewer) ∙ ap (take (suc n)) turn ∙ take-append-le (suc n) zs (x ∷ xs) h

-- ---- bytes as lists

same_front : (n : ℕ) (a b : List ℕ) → n ≤ length a → n ≤ length b → ((i : ℕ) → i < n → get_or a i 0 ≡ get_or b i 0) → take n a ≡ take n b
same_front n a b h k e =
    let long = length-take-le n a h in
    ext_get_or 0 (take n a) (take n b) (long ∙ sym (length-take-le n b k))
    λ i l. let m : i < n = omega arith in get_or-take n a i 0 m ∙ e i m ∙ sym (get_or-take n b i 0 m)

module _ {before after : List ℕ} {at step count : ℕ} (x : Extends before at step count after) (room : at + count ≤ length before) where
  pub front_kept : take at after ≡ take at before
  front_kept = same_front at after before (omega (arith, x.long)) (omega arith) x.ahead

  pub rest_kept : drop (at + count) after ≡ drop (at + count) before
  rest_kept =
      ext_get_or 0 (drop (at + count) after) (drop (at + count) before)
      (omega (arith, x.long, length-drop (at + count) after, length-drop (at + count) before))
      λ i h. get_or-drop (at + count) after i 0 ∙ x.behind (at + count + i) (omega arith) ∙ sym (get_or-drop (at + count) before i 0)

  run_repeats : step ≤ at → take count (drop at after) ≡ take count (drop (at - step) after)
  run_repeats below =
      same_front count (drop at after) (drop (at - step) after) (omega (arith, x.long, length-drop at after)) (omega (arith, x.long, length-drop (at - step) after))
      λ i h. get_or-drop at after i 0 ∙ x.repeats (at + i) (at - step + i) (omega arith) (omega arith) (omega arith) ∙ sym (get_or-drop (at - step) after i 0)

  -- w stands before the place, behind other bytes
  module _ (vs w : List ℕ) (front : take at before ≡ vs ++ w) (turn : length w ≡ step) (some : 0 < step) where
    both : length vs + step ≡ at
    both = omega (arith, length-append vs w, ap length front, length-take-le at before (omega arith))

    from_w : drop (at - step) after ≡ w ++ drop at after
    from_w =
        ap (drop (at - step))
        (sym (take-append-drop at after) ∙ ap (λ (k : List ℕ). k ++ drop at after) (front_kept ∙ front) ∙ append_assoc vs w (drop at after))
        ∙ drop_at vs (w ++ drop at after) (at - step) (omega (arith, both))

    -- THE RUN
    pub run_is : (zs : List ℕ) → w ++ zs ≡ zs ++ w → count ≤ length zs → take count (drop at after) ≡ take count zs
    run_is zs swap long = alike w (drop at after) zs (omega arith) swap count long (run_repeats (omega (arith, both)) ∙ ap (take count) from_w)
