-- What is written into the book and the rows: the places of one number, and no others.
use Prim.Native.Nat.{ℕ, ◌+◌, ◌*◌, ◌<◌}
use native.Mathlib.Omega.{arith}
use mathlib.Core.Path.{◌≡◌, refl, sym, ap, ◌∙◌}
use mathlib.Core.Bool.{Bool, true, false}
use mathlib.Core.List.{List, [], ◌∷◌, ◌++◌}
use lib.Dec.{ltb}
use lib.ListN.{length, get_or, set, take, drop, length-take, length-drop}
use lib.Seq.{drop_at, take_at, length-take-le}
use borrow.Author.Tests.{ltb-true, ltb-false}
use borrow.Rule.Slice.PartMut.{put_mid, post_of, same_len_mid}
use Rattle.std.proofs.lemmas.List.{drop-take}
use Rattle.std.proofs.lemmas.Slice.{take-put_mid_below, drop-put_mid}
use Rattle.words.specs.declared.Cursor.{Cursor}
use Rattle.measures.specs.Uses.{row_length, row_at}
use Rattle.measures.specs.Book.{entries, numbers, numbers_at, book_length, bodies, rows_length, measure_at, Kept, KeptRow}
use Rattle.measures.specs.declared.Measure.{Measure}
use Rattle.measures.proofs.Changed.{Changed, changed_none, changed_next, not_changed}

-- the places of a name, and those of its numbers
abbrev pub name_list : Cursor → List ℕ
name_list c = c.at ∷ c.end ∷ []

abbrev pub number_list : ℕ → Measure → List ℕ
number_list start x = start ∷ x.depth ∷ x.size ∷ x.cycles ∷ x.shifts ∷ []

abbrev pub Put : List ℕ → ℕ → List ℕ → List ℕ → Type 0
Put vs base before list = Changed (λ k n. get_or vs k 0) base (length vs) before list

same_measure : (d s c h : ℕ) (x : Measure) → d ≡ x.depth → s ≡ x.size → c ≡ x.cycles → h ≡ x.shifts
    → ◌≡◌ {A = Measure} (record { depth = d; size = s; cycles = c; shifts = h }) x
same_measure d s c h x p q r t = rw (p, q, r, t)

module _ {before middle behind : List ℕ} {i : ℕ} (c : Cursor) (start : ℕ) (x : Measure) (below : i < entries)
    (ns : Put (name_list c) (i * 2) before middle) (xs : Put (number_list start x) (numbers_at i) middle behind) where
  name_place : (m at : ℕ) → m < 2 → at ≡ i * 2 + m → get_or behind at 0 ≡ get_or (name_list c) m 0
  name_place m at h e = xs.ahead at (omega arith) ∙ ns.changed m at e h

  other_name : (j m at : ℕ) → j < entries → (j ≡ i → ⊥) → m < 2 → at ≡ j * 2 + m → get_or behind at 0 ≡ get_or before at 0
  other_name j m at l o h e = xs.ahead at (omega arith) ∙ not_changed ns at (λ k q z. o (omega arith))

  other_number : (j m at : ℕ) → (j ≡ i → ⊥) → m < numbers → at ≡ numbers_at j + m → get_or behind at 0 ≡ get_or before at 0
  other_number j m at o h e = not_changed xs at (λ k q z. o (omega arith)) ∙ ns.behind at (omega arith)

  number_place : (m : ℕ) → m < numbers → get_or behind (numbers_at i + m) 0 ≡ get_or (number_list start x) m 0
  number_place m h = xs.changed m (numbers_at i + m) refl h

  other : (j m : ℕ) → (j ≡ i → ⊥) → m < numbers → get_or behind (numbers_at j + m) 0 ≡ get_or before (numbers_at j + m) 0
  other j m o h = other_number j m (numbers_at j + m) o h refl

  other_measure : (j : ℕ) → (j ≡ i → ⊥) → measure_at behind j ≡ measure_at before j
  other_measure j o =
      same_measure _ _ _ _ (measure_at before j) (other j 1 o (omega arith)) (other j 2 o (omega arith)) (other j 3 o (omega arith))
      (other j 4 o (omega arith))

  pub all_kept : Kept before i c start x behind
  all_kept =
      record {
        long = xs.long ∙ ns.long;
        name_at = (name_place 0 (i * 2) (omega arith) (omega arith), name_place 1 (i * 2 + 1) (omega arith) refl);
        start_is = xs.changed 0 (numbers_at i) (omega arith) (omega arith);
        measure_is =
            same_measure _ _ _ _ x (number_place 1 (omega arith)) (number_place 2 (omega arith)) (number_place 3 (omega arith))
            (number_place 4 (omega arith));
        other_names = λ j l o.
            (other_name j 0 (j * 2) l o (omega arith) (omega arith), other_name j 1 (j * 2 + 1) l o (omega arith) refl);
        others = λ j l o. (other_number j 0 (numbers_at j) o (omega arith) (omega arith), other_measure j o);
      }

-- one store behind the other
module _ {f : ℕ → ℕ → ℕ} {base s : ℕ} {before list : List ℕ} (y : Changed f base s before list) where
  pub put_next : (at v : ℕ) → at ≡ base + s → at < length before → v ≡ f s (get_or list at 0) → Changed f base (s + 1) before (set list at v)
  put_next at v here inside e = changed_next y at here v (omega (arith, y.long)) e

module _ (book : List ℕ) (i : ℕ) (c : Cursor) (start : ℕ) (x : Measure) (below : i < entries) (long : length book ≡ book_length) where
  abbrev named : List ℕ
  named = set (set book (i * 2) c.at) (i * 2 + 1) c.end

  abbrev kept : List ℕ
  kept =
      set (set (set (set (set named (numbers_at i) start) (numbers_at i + 1) x.depth) (numbers_at i + 2) x.size) (numbers_at i + 3) x.cycles)
      (numbers_at i + 4) x.shifts

  pub name_put : Put (name_list c) (i * 2) book named
  name_put = put_next (put_next changed_none (i * 2) c.at (omega arith) (omega arith) refl) (i * 2 + 1) c.end refl (omega arith) refl

  pub book_kept : Kept book i c start x kept
  book_kept =
      let l = name_put.long in
      all_kept c start x below name_put
      (put_next
      (put_next
      (put_next
      (put_next (put_next changed_none (numbers_at i) start (omega arith) (omega arith) refl) (numbers_at i + 1) x.depth refl (omega arith) refl)
      (numbers_at i + 2) x.size refl (omega arith) refl)
      (numbers_at i + 3) x.cycles refl (omega arith) refl)
      (numbers_at i + 4) x.shifts refl (omega arith) refl)

-- ---- a row

module _ (rows row ys : List ℕ) (i k : ℕ) (wide : k ≡ row_length) (is : ys ≡ row) (sized : length rows ≡ rows_length) (long : length row ≡ row_length)
    (below : i < bodies) where
  abbrev written : List ℕ
  written = put_mid (i * row_length) k rows ys

  filled : length ys ≡ k
  filled = omega (arith, ap length is)

  -- a row before it, and one behind it
  other_row : (j : ℕ) → (b : Bool) → ltb j i ≡ b → (j ≡ i → ⊥) → row_at written j ≡ row_at rows j
  other_row j true e o =
      sym (drop-take (j * row_length) row_length written)
      ∙ ap (drop (j * row_length)) (take-put_mid_below (i * row_length) k rows ys (j * row_length + row_length) (omega (arith, ltb-true j i e)) (omega arith))
      ∙ drop-take (j * row_length) row_length rows
  other_row j false e o =
      ap (take row_length) (drop-put_mid (i * row_length) k rows ys (j * row_length) (omega (arith, ltb-false j i e)) (omega arith) filled)

  pub row_kept : KeptRow rows i row written
  row_kept =
      record {
        long = same_len_mid (i * row_length) k rows ys (omega (arith, filled, length-take k (drop (i * row_length) rows), length-drop (i * row_length) rows));
        here =
            ap (take row_length)
            (drop_at (take (i * row_length) rows) (ys ++ post_of (i * row_length) k rows) (i * row_length) (length-take-le (i * row_length) rows (omega arith)))
            ∙ take_at ys (post_of (i * row_length) k rows) row_length (omega (arith, filled)) ∙ is;
        others = λ j o. other_row j (ltb j i) refl o;
      }
