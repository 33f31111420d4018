-- For callers: what an entry that is written leaves of the others, and what a list of declared bodies has at each number.
use Prim.Native.Nat.{ℕ, zero, suc, ◌+◌, ◌*◌, ◌≤◌, ◌<◌}
use native.Mathlib.Omega.{arith}
use native.Mathlib.Nat.{add-zero, add-suc, suc-add}
use mathlib.Core.Path.{◌≡◌, refl, sym, ap, ◌∙◌, subst}
use mathlib.Core.List.{List, [], ◌∷◌, ◌++◌}
use lib.ListN.{length, get_or, drop}
use lib.Seq.{get_or-drop}
use Rattle.tokens.specs.Tokens.{Tok, stop, toks}
use Rattle.meaning.specs.Meaning.{firsts}
use Rattle.meaning.specs.Names.{new_name, old_name}
use Rattle.meaning.specs.Body.{done}
use Rattle.meaning.specs.Statements.{Decl, Decls}
use Rattle.words.specs.declared.Cursor.{Cursor}
use Rattle.words.specs.Cursor.{ahead, Goes}
use Rattle.words.specs.Table.{names_from, names, seconds}
use Rattle.words.proofs.Names.{old_by_number, new_by_number}
use Rattle.measures.specs.Measures.{Measures}
use Rattle.measures.specs.Uses.{Uses}
use Rattle.measures.specs.Book.{entries, Entry, Listed, Used, Kept, KeptRow}
use Rattle.measures.specs.declared.Measure.{Measure}

-- ---- a list of declared bodies

abbrev Of : Type 1
Of = ℕ → Tok × Decl → Type 0

-- the k-th, and what its name stands for
seconds_at : (ds : Decls) (k : ℕ) (z : Tok × Decl) → get_or (seconds ds) k z.1 ≡ (get_or ds k z).1
unfolding seconds
seconds_at [] k z = refl
seconds_at (d ∷ ds) zero z = refl
seconds_at (d ∷ ds) (suc k) z = seconds_at ds k z

module _ (P : Of) where
  pub listed_append : (i : ℕ) (ds : Decls) {x : Tok × Decl} → Listed P i ds → P (i + length ds) x → Listed P i (ds ++ x ∷ [])
  unfolding Listed
  listed_append i [] {x} l p = (subst (λ (k : ℕ). P k x) (add-zero i) p, tt)
  listed_append i (d ∷ ds) {x} l p = (l.0, listed_append (suc i) ds l.1 (subst (λ (k : ℕ). P k x) (add-suc i (length ds) ∙ sym (suc-add i (length ds))) p))

  pub listed_map : (Q : Of) (i : ℕ) (ds : Decls) → ((j : ℕ) (x : Tok × Decl) → i ≤ j → j < i + length ds → P j x → Q j x) → Listed P i ds → Listed Q i ds
  unfolding Listed
  listed_map Q i [] f l = tt
  listed_map Q i (d ∷ ds) f l = (f i d (omega arith) (omega arith) l.0, listed_map Q (suc i) ds (λ j x a b. f j x (omega arith) (omega arith)) l.1)

  -- the k-th of them
  pub listed_at : (i : ℕ) (ds : Decls) → Listed P i ds → (k : ℕ) → k < length ds → (z : Tok × Decl) → P (i + k) (get_or ds k z)
  unfolding Listed
  listed_at i [] l k h z = absurd (omega arith)
  listed_at i (d ∷ ds) l zero h z = subst (λ (n : ℕ). P n d) (sym (add-zero i)) l.0
  listed_at i (d ∷ ds) l (suc k) h z =
      subst (λ (n : ℕ). P n (get_or ds k z)) (suc-add i k ∙ sym (add-suc i k)) (listed_at (suc i) ds l.1 k (omega arith) z)

  -- with what its name stands for
  pub listed_decl : (i : ℕ) (ds : Decls) → Listed P i ds → (k : ℕ) → k < length ds → (u : Tok) (z : Decl)
      → P (i + k) ((get_or ds k (u, z)).0, get_or (seconds ds) k z)
  listed_decl i ds l k h u z = rw (seconds_at ds k (u, z)) (listed_at i ds l k h (u, z))

-- what is used has its entry
pub listed_entries : (text book rows : List ℕ) (i : ℕ) (ds : Decls) → Listed (Used text book rows) i ds → Listed (Entry text book) i ds
listed_entries text book rows i ds l = listed_map (Used text book rows) (Entry text book) i ds (λ j x a b u. u.entry) l

-- ---- one entry more

module _ {before behind : List ℕ} {i : ℕ} {c : Cursor} {start : ℕ} {x : Measure} (k : Kept before i c start x behind) (text : List ℕ) where
  -- the new one
  pub entry_new : (d : Decl) → d.from ≡ toks text start → Measures d.body x → Entry text behind i (ahead text c, d)
  entry_new d f m =
      record {
        named = rw (k.name_at.0, k.name_at.1);
        from = f ∙ ap (toks text) (sym k.start_is);
        measured = subst (Measures d.body) (sym k.measure_is) m;
      }

  -- every other one is as it was
  pub entry_stays : {j : ℕ} {y : Tok × Decl} → j < entries → (j ≡ i → ⊥) → Entry text before j y → Entry text behind j y
  entry_stays {j} {y} l o e =
      let n = k.other_names j l o in
      let m = k.others j l o in
      record {
        named = rw (n.0, n.1) e.named;
        from = e.from ∙ ap (toks text) (sym m.0);
        measured = subst (Measures y.1.body) (sym m.1) e.measured;
      }

  -- its row is no other's
  pub used_beside : {rows : List ℕ} {j : ℕ} {y : Tok × Decl} → j < entries → (j ≡ i → ⊥) → Used text before rows j y → Used text behind rows j y
  used_beside l o u = record { entry = entry_stays l o u.entry; uses = u.uses }

  -- and so is every list in which it is not
  pub entries_stay : (a : ℕ) (ds : Decls) → a + length ds ≤ entries → ((j : ℕ) → a ≤ j → j < a + length ds → j ≡ i → ⊥)
      → Listed (Entry text before) a ds → Listed (Entry text behind) a ds
  entries_stay a ds h o l = listed_map (Entry text before) (Entry text behind) a ds (λ j y p q e. entry_stays (omega arith) (o j p q) e) l

  -- behind those of its list
  pub entries_more : (a : ℕ) (ds : Decls) → i ≡ a + length ds → i < entries → (d : Decl) → d.from ≡ toks text start → Measures d.body x
      → Listed (Entry text before) a ds → Listed (Entry text behind) a (ds ++ (ahead text c, d) ∷ [])
  entries_more a ds e b d f m l =
      listed_append (Entry text behind) a ds (entries_stay a ds (omega arith) (λ j p q z. omega arith) l)
      (subst (λ (n : ℕ). Entry text behind n (ahead text c, d)) e (entry_new d f m))

  module _ {rows rows' row : List ℕ} (kr : KeptRow rows i row rows') where
    pub used_new : (d : Decl) → d.from ≡ toks text start → Measures d.body x → Uses d.body row → Used text behind rows' i (ahead text c, d)
    used_new d f m u = record { entry = entry_new d f m; uses = subst (Uses d.body) (sym kr.here) u }

    pub used_stays : {j : ℕ} {y : Tok × Decl} → j < entries → (j ≡ i → ⊥) → Used text before rows j y → Used text behind rows' j y
    used_stays {j} {y} l o u =
        record { entry = entry_stays l o u.entry; uses = subst (Uses y.1.body) (sym (kr.others j o)) u.uses }

-- ---- their names

cons_same : {t u : Tok} {xs ys : List Tok} → t ≡ u → xs ≡ ys → t ∷ xs ≡ u ∷ ys
cons_same p q = cc

-- names from number i on are those of the part of the table that begins there
part_names : (text book : List ℕ) (i j k : ℕ) → firsts (names_from text book (i + j) k) ≡ firsts (names_from text (drop (i * 2) book) j k)
unfolding firsts names_from
part_names text book i j zero = refl
part_names text book i j (suc k) =
    let e : i * 2 + j * 2 ≡ (i + j) * 2 = omega arith in
    let f : i * 2 + (j * 2 + 1) ≡ (i + j) * 2 + 1 = omega arith in
    let at = get_or-drop (i * 2) book (j * 2) 0 ∙ ap (λ (n : ℕ). get_or book n 0) e in
    let end = get_or-drop (i * 2) book (j * 2 + 1) 0 ∙ ap (λ (n : ℕ). get_or book n 0) f in
    cons_same (rw (at, end))
    (ap (λ (n : ℕ). firsts (names_from text book n k)) (sym (add-suc i j)) ∙ part_names text book i (suc j) k)

module _ (text book : List ℕ) where
  pub listed_names : (i : ℕ) (ds : Decls) → Listed (Entry text book) i ds → firsts ds ≡ firsts (names_from text book i (length ds))
  unfolding Listed firsts names_from
  listed_names i [] l = refl
  listed_names i (d ∷ ds) l = cons_same (sym l.0.named) (listed_names (suc i) ds l.1)

  module _ (i : ℕ) (ds : Decls) (l : Listed (Entry text book) i ds) where
    -- the part of the book where they begin has these names
    pub part_listed : firsts ds ≡ firsts (names text (drop (i * 2) book) (length ds))
    part_listed =
        listed_names i ds l
        ∙ ap (λ (n : ℕ). firsts (names_from text book n (length ds))) (sym (add-zero i))
        ∙ part_names text book i 0 (length ds)

    module _ {c r : Cursor} {t : Tok} where
      -- a name of number k there stands for the k-th
      pub old_listed : {k : ℕ} (z : Decl) → Goes text c (old_name (names text (drop (i * 2) book) (length ds))) r (t, k)
          → Goes text c (old_name ds) r (t, get_or (seconds ds) k z)
      old_listed z g = old_by_number text (drop (i * 2) book) z (length ds) ds part_listed g

      pub new_listed : Goes text c (new_name (names text (drop (i * 2) book) (length ds))) r t → Goes text c (new_name ds) r t
      new_listed g = new_by_number text (drop (i * 2) book) (record { body = done; from = stop 0 0 }) (length ds) ds part_listed g
