-- The cycle that is reached, shown or not: the row goes to the part that begins at its number times the row width, for which there is room.
use Prim.Native.Nat.{ℕ, ◌+◌, ◌*◌, ◌-◌, ◌^◌, ◌≤◌, ◌<◌}
use native.Mathlib.Nat.{mul-le-mul_left}
use native.Mathlib.Omega.{arith}
use mathlib.Core.Path.{◌≡◌, refl, sym, ap, ◌∙◌, subst}
use mathlib.Core.Bool.{Bool, true, false, ◌&&◌}
use mathlib.Core.List.{List, [], ◌∷◌, ◌++◌, append-nil}
use lib.Dec.{leb}
use lib.ListN.{length, take, drop, length-take, length-drop}
use mir.Syntax.{w64}
use mir.Val.{Fits}
use borrow.Author.Tests.{lt-leb}
use borrow.Rule.Slice.PartMut.{same_len_mid}
use Rattle.meaning.specs.Run.{Cycle}
use Rattle.meaning.specs.Services.{row, row_width}
use Rattle.meaning.proofs.Windows.{row_room}
use Rattle.walks.specs.Seen.{seen}
use Rattle.walks.specs.Written.{Written}
use Rattle.walks.proofs.Seen.{through_one}
use Rattle.walks.proofs.Rows.{written_row}
use Rattle.rows.specs.Went.{Going, spends, spent, Went}
use Rattle.rows.specs.declared.Walk.{Walk}
use Rattle.rows.proofs.Going.{spent_all}

-- ---- room

module _ {signals : ℕ} {w : Walk} {b : List ℕ} (g : Going signals w b) (h : 0 < w.show) where
  -- what lies no further apart than rows do
  place_room : (n : ℕ) → n ≤ signals + 2 → w.row * n + (signals + 2) ≤ length b
  unfolding row_width
  place_room n few =
      omega (arith, row_room w.row (w.row + w.show) (signals + 2) (length b) (omega arith) g.room, mul-le-mul_left {m = n} {n = signals + 2} w.row few)

  pub place_below : (n : ℕ) → n ≤ signals + 2 → w.row * n ≤ length b
  place_below n few = omega (arith, place_room n few)

  pub place_fits : (n : ℕ) → n ≤ signals + 2 → length b < 2 ^ 64 → Fits w64 (w.row * n)
  place_fits n few long = record { fits = omega (arith, place_room n few) }

  pub part_room : (n : ℕ) → n ≤ signals + 2 → row_width signals ≤ length (take (length b - w.row * n) (drop (w.row * n) b))
  unfolding row_width
  part_room n few = simp (length-take, length-drop) (omega (arith, place_room n few))

  pub rows_few : w.row + 1 ≤ length b
  rows_few = omega (arith, place_room 1 (omega arith))

-- ---- the cycle

reached_one : (k : Bool) (n : ℕ) → n ≡ 0 → false ≡ (k && leb 1 n)
reached_one true n e = sym (lt-leb 1 n (omega arith))
reached_one false n e = refl

spent_one : {w x : Walk} → (w.walking ≡ true → 1 ≤ w.budget) → x ≡ spent w 1 → w.budget ≡ x.budget + spends w.walking 1
spent_one {w} {x} enough s = spent_all w.budget 1 w.walking enough ∙ ap (λ (x : Walk). x.budget + spends w.walking 1) (sym s)

module _ {signals : ℕ} {w x : Walk} (c : Cycle) (b : List ℕ) (pass : w.pass ≡ 0) (enough : w.walking ≡ true → 1 ≤ w.budget) (s : x ≡ spent w 1) where
  -- no row is to be shown
  pub went_unshown : w.show ≡ 0 → Went signals (c ∷ []) 1 w (record { pass = 0; row = w.row; show = 0; budget = x.budget; walking = false; mark = w.mark }) b b
  went_unshown none =
      let all : seen w.pass w.show (c ∷ []) ≡ [] = ap (λ (m : ℕ). seen w.pass m (c ∷ [])) none in
      let count : length (seen w.pass w.show (c ∷ [])) ≡ 0 = ap length all in
      record {
        rows = omega arith;
        show = omega arith;
        pass = λ h. omega arith;
        walking = reached_one w.walking w.pass pass;
        spending = spent_one enough s;
        marked = refl;
        written = λ entry cs h k. subst (Written w.mark signals entry b) (sym (append-nil cs) ∙ ap (λ (l : List Cycle). cs ++ l) (sym all)) k;
        long = refl;
      }

  -- THE ROW, in its part of the buffer, which comes back
  pub went_shown : 0 < w.show → (at : ℕ) → at ≡ w.row * (signals + 2) → length c.pins ≡ signals → (ys : List ℕ)
      → ys ≡ row w.mark c ++ drop (row_width signals) (take (length b - at) (drop at b)) → length ys ≡ length (take (length b - at) (drop at b))
      → Went signals (c ∷ []) 1 w (record { pass = 0; row = w.row + 1; show = w.show - 1; budget = x.budget; walking = false; mark = w.mark }) b
      (take at b ++ (ys ++ drop (length b - at) (drop at b)))
  unfolding row_width
  went_shown some at place wide ys is same =
      let all : seen w.pass w.show (c ∷ []) ≡ c ∷ [] = ap (λ (n : ℕ). seen n w.show (c ∷ [])) pass ∙ sym (through_one c w.show some).shown in
      let count : length (seen w.pass w.show (c ∷ [])) ≡ 1 = ap length all in
      record {
        rows = omega arith;
        show = omega arith;
        pass = λ h. omega arith;
        walking = reached_one w.walking w.pass pass;
        spending = spent_one enough s;
        marked = refl;
        written = λ entry cs h k. subst (λ (l : List Cycle). Written w.mark signals entry (take at b ++ (ys ++ drop (length b - at) (drop at b))) (cs ++ l)) (sym all)
            (written_row k at (place ∙ ap (λ (n : ℕ). n * (signals + 2)) (sym h)) c wide ys is);
        long = same_len_mid at (length b - at) b ys same;
      }
