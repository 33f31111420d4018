-- Rows of a turn's cycles again and again: bytes that repeat the last `step` before them are the rows of copies of those cycles, as many as there are bytes.
use Prim.Native.Nat.{ℕ, zero, suc, ◌+◌, ◌*◌, ◌-◌, ◌≤◌, ◌<◌}
use native.Mathlib.Omega.{arith}
use mathlib.Core.Path.{◌≡◌, sym, ap, ap₂, ◌∙◌, subst}
use mathlib.Core.List.{List, [], ◌∷◌, ◌++◌, append_assoc, append-nil}
use lib.ListN.{length, take, drop, length-take, take-append-drop}
use lib.Seq.{take-nil, take_at, drop-drop}
use Rattle.meaning.specs.Run.{Cycle}
use Rattle.meaning.specs.Services.{rows, row_width}
use Rattle.meaning.proofs.Rows.{AllWide, rows_width}
use Rattle.meaning.proofs.Turns.{copies}
use Rattle.meaning.proofs.Windows.{rows-++}
use Rattle.walks.specs.Seen.{seen}
use Rattle.walks.specs.Written.{Even, Written}
use Rattle.walks.proofs.Loops.{seen_copies}
use Rattle.walks.proofs.Rows.{even_none, even_one, even_both, written_more}
use Rattle.repeats.specs.Copied.{Extends}
use Rattle.repeats.proofs.Repeating.{front_kept, rest_kept, run_is}

-- ---- copies of a turn

-- one more, before them or behind
copies_turn : (n : ℕ) (l : List Cycle) → l ++ copies n l ≡ copies n l ++ l
unfolding copies
copies_turn zero l = append-nil l
copies_turn (suc n) l = ap (λ (x : List Cycle). l ++ x) (copies_turn n l) ∙ sym (append_assoc l (copies n l) l)

rows_turn : (mark n : ℕ) (l : List Cycle) → rows mark l ++ rows mark (copies n l) ≡ rows mark (copies n l) ++ rows mark l
rows_turn mark n l = sym (rows-++ mark l (copies n l)) ∙ ap (rows mark) (copies_turn n l) ∙ rows-++ mark (copies n l) l

module _ (mark signals : ℕ) where
  even_front : (m : ℕ) (l : List Cycle) → AllWide signals l → Even mark signals (take m l)
  even_front zero l h = even_none mark signals
  even_front (suc m) [] h = even_none mark signals
  even_front (suc m) (c ∷ l) h = even_both mark signals (c ∷ []) (take m l) (even_one mark signals c h.0) (even_front m l h.1)

  even_copied : (n m : ℕ) (l : List Cycle) → AllWide signals l → Even mark signals (seen 0 m (copies n l))
  unfolding copies
  even_copied zero m l h = subst (Even mark signals) (sym (take-nil m)) (even_none mark signals)
  even_copied (suc n) m l h =
      subst (Even mark signals) (sym (seen_copies 0 m n l (omega arith)))
      (even_both mark signals (take m l) (seen 0 (m - (length l - 0)) (copies n l)) (even_front m l h) (even_copied n (m - (length l - 0)) l h))

  rows_front : (m : ℕ) (cs : List Cycle) → Even mark signals (take m cs) → take (length (take m cs) * row_width signals) (rows mark cs) ≡ rows mark (take m cs)
  rows_front m cs h =
      ap (take (length (take m cs) * row_width signals)) (ap (rows mark) (sym (take-append-drop m cs)) ∙ rows-++ mark (take m cs) (drop m cs))
      ∙ take_at (rows mark (take m cs)) (rows mark (drop m cs)) (length (take m cs) * row_width signals) h

-- ---- the rows

module _ {mark signals : ℕ} {entry before after : List ℕ} {at step count : ℕ} (ds l : List Cycle) (y : Written mark signals entry before (ds ++ l)) (wide : AllWide signals l)
    (x : Extends before at step count after) (room : at + count ≤ length before) (place : at ≡ length (ds ++ l) * row_width signals)
    (turn : step ≡ length l * row_width signals) (some : 0 < step) where
  -- the turn's rows stand before the place
  front : take at before ≡ rows mark ds ++ rows mark l
  front = ap (take at) y.is ∙ take_at (rows mark (ds ++ l)) _ at (y.even ∙ sym place) ∙ rows-++ mark ds l

  -- THE LAW: as many rows of further turns as there are bytes
  pub written_again : (n m : ℕ) → count ≡ length (seen 0 m (copies n l)) * row_width signals → Written mark signals entry after ((ds ++ l) ++ seen 0 m (copies n l))
  written_again n m e =
      let new = seen 0 m (copies n l) in
      let even = even_copied mark signals n m l wide in
      let shown = rows_front mark signals m (copies n l) even in
      let long : count ≤ length (rows mark (copies n l)) = omega (arith, ap length shown, length-take (length new * row_width signals) (rows mark (copies n l))) in
      let run : take count (drop at after) ≡ rows mark new =
      run_is x room (rows mark ds) (rows mark l) front (rows_width mark signals l wide ∙ sym turn) some (rows mark (copies n l)) (rows_turn mark n l) long
      ∙ ap (λ (k : ℕ). take k (rows mark (copies n l))) e ∙ shown in
      let rest : drop count (drop at after) ≡ drop (length new * row_width signals) (drop at before) =
      drop-drop count at after ∙ rest_kept x room ∙ sym (drop-drop count at before) ∙ ap (λ (k : ℕ). drop k (drop at before)) e in
      subst (λ (b : List ℕ). Written mark signals entry b ((ds ++ l) ++ new))
      (ap (λ (k : List ℕ). k ++ drop at after) (sym (front_kept x room)) ∙ take-append-drop at after)
      (written_more y at place new even (drop at after) (sym (take-append-drop count (drop at after)) ∙ ap₂ (λ (a b : List ℕ). a ++ b) run rest))
