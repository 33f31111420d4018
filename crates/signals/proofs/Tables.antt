-- Names in the tables: how many, the first of them, one more behind them, and what is known of them once both blocks are read.
use Prim.Native.Nat.{ℕ, zero, suc, ◌+◌, ◌≤◌, ◌<◌}
use native.Mathlib.Omega.{arith}
use native.Mathlib.Nat.{zero-add, add-zero, add-suc, suc-add}
use mathlib.Core.Path.{◌≡◌, refl, sym, ap, ap₂, ◌∙◌, subst}
use mathlib.Core.Bool.{Bool, true, false}
use mathlib.Core.Option.{Option, some}
use mathlib.Core.List.{List, [], ◌∷◌, ◌++◌}
use lib.ListN.{length, take, length-append}
use lib.Seq.{take_at}
use Rattle.tokens.specs.Written.{same}
use Rattle.tokens.specs.Tokens.{Tok}
use Rattle.meaning.specs.Bounds.{signals_most}
use Rattle.meaning.specs.Names.{find, old_name}
use Rattle.meaning.specs.Signals.{Names}
use Rattle.meaning.proofs.Gives.{Gives, gives_bind, gives_after, gives_give}
use Rattle.sets.specs.Sets.{list_of}
use Rattle.sets.specs.declared.Set.{Set}
use Rattle.sets.proofs.Tidy.{TidyBelow}
use Rattle.words.specs.Cursor.{span, ahead, alive, Goes}
use Rattle.words.specs.Table.{name_of, names_from, names, named}
use Rattle.words.specs.declared.Cursor.{Cursor}
use Rattle.words.proofs.Names.{names_agree, names_more}
use Rattle.words.specs.Chains.{chain_of}
use Rattle.signals.specs.Names.{names_most, Chained, Sized, list_at, names_of, Written, Put, Added, AllTidy, more as another, Fronted}
use Rattle.signals.proofs.Chains.{chained_more}
use Rattle.signals.proofs.Tidy.{gave, gives_known, Single, one, declared_front}

-- k names from number i on, each with its signals
abbrev rows : List ℕ → List ℕ → List ℕ → ℕ → ℕ → Names
rows text places lists i k = named (list_at lists) (names_from text places i k)

-- ---- how many, and the first of them

module _ (text places lists : List ℕ) where
  rows_length_lem : (i k : ℕ) → length (rows text places lists i k) ≡ k
  unfolding named names_from
  rows_length_lem i zero = refl
  rows_length_lem i (suc k) = ap suc (rows_length_lem (suc i) k)

  pub names_length : (count : ℕ) → length (names_of text places lists count) ≡ count
  names_length count = rows_length_lem 0 count

  rows_first : (i k n : ℕ) → n ≤ k → take n (rows text places lists i k) ≡ rows text places lists i n
  unfolding named names_from
  rows_first i zero zero h = refl
  rows_first i zero (suc n) h = absurd (omega arith)
  rows_first i (suc k) zero h = refl
  rows_first i (suc k) (suc n) h = ap (λ (l : Names). (name_of text places i, list_at lists i) ∷ l) (rows_first (suc i) k n (omega arith))

  -- what the names begin with are the first of them
  pub names_first : (count n : ℕ) (ns added : Names) → names_of text places lists count ≡ ns ++ added → length ns ≡ n → names_of text places lists n ≡ ns
  names_first count n ns added e f =
      let h : n ≤ count = omega (arith, names_length count, ap length e, length-append ns added) in
      sym (rows_first 0 count n h) ∙ ap (take n) e ∙ take_at ns added n f

-- ---- one name more

named_more : {A B : Type 0} (f : A → B) (xs : List (Tok × A)) (x : Tok × A) → named f (xs ++ x ∷ []) ≡ named f xs ++ (x.0, f x.1) ∷ []
unfolding named
named_more f [] x = refl
named_more {A} {B} f (y ∷ xs) x = ap (λ (l : List (Tok × B)). (y.0, f y.1) ∷ l) (named_more f xs x)

module _ (text p q l m : List ℕ) where
  -- tables whose rows agree on those names
  rows_agree : (i k : ℕ) → ((j : ℕ) → j < i + k → list_at m j ≡ list_at l j) → rows text p m i k ≡ rows text p l i k
  unfolding named names_from
  rows_agree i zero g = refl
  rows_agree i (suc k) g =
      rw (g i (omega arith)) (ap (λ (ns : Names). (name_of text p i, list_at l i) ∷ ns) (rows_agree (suc i) k (λ j b. g j (omega arith))))

  -- the name at the cursor, with its place and end behind theirs, and its row
  names_added : (count : ℕ) (c : Cursor) {h : ℕ} {s : Set} → Put p count c.at c.end h q
      → Written l count s m → names_of text p l count ++ (ahead text c, list_of s) ∷ [] ≡ names_of text q m (count + 1)
  names_added count c x w =
      let start = x.place in
      let end = x.end_is in
      let it : name_of text q count ≡ ahead text c = rw (start, end) in
      sym (ap (named (list_at m)) (names_more text q count)
      ∙ named_more (list_at m) (names text q count) (name_of text q count, count)
      ∙ ap₂ (λ (ns : Names) (x : Tok × List ℕ). ns ++ x ∷ []) (ap (named (list_at m)) (names_agree text p q 0 count (λ j b. x.names j (omega arith))) ∙ rows_agree 0 count (λ j b. w.earlier j (omega arith)))
      (ap₂ (λ (t : Tok) (k : List ℕ). (t, k)) it w.row))

-- both tables hold one name more
pub added : {text p q l m : List ℕ} {count : ℕ} {c : Cursor} {h : ℕ} {s : Set} → Sized p l → Chained text p count → count < names_most
    → h ≡ chain_of (span text c.at c.end) → Put p count c.at c.end h q → Written l count s m → Added text p l count c s q m
added {text} {p} {q} {l} {m} {count} {c} sized x b e put w =
    record {
      names = names_added text p q l m count c put w;
      sized = record { all = put.long ∙ sized.all; rows = w.long ∙ sized.rows };
      chained = chained_more x b put e;
    }

-- ---- both blocks were read

module _ (text places lists : List ℕ) where
  tidy_at : {most : ℕ} (i k : ℕ) → AllTidy most (rows text places lists i k) → (j : ℕ) → j < k → TidyBelow most (list_at lists (i + j))
  unfolding named names_from
  tidy_at i zero h j e = absurd (omega arith)
  tidy_at {most} i (suc k) (another h hs) zero e = subst (λ (n : ℕ). TidyBelow most (list_at lists n)) (sym (add-zero i)) h
  tidy_at {most} i (suc k) (another h hs) (suc j) e =
      subst (λ (n : ℕ). TidyBelow most (list_at lists n)) (suc-add i j ∙ sym (add-suc i j)) (tidy_at (suc i) k hs j (omega arith))

  single_at : (i k : ℕ) → Single i (rows text places lists i k) → (j : ℕ) → j < k → list_at lists (i + j) ≡ (i + j) ∷ []
  unfolding named names_from
  single_at i zero h j e = absurd (omega arith)
  single_at i (suc k) (one h hs) zero e = rw (add-zero i) h
  single_at i (suc k) (one h hs) (suc j) e =
      let s : suc i + j ≡ i + suc j = suc-add i j ∙ sym (add-suc i j) in
      subst (λ (n : ℕ). list_at lists n ≡ n ∷ []) s (single_at (suc i) k hs j (omega arith))

-- a name that is found has a number below their count
find_below : (text places w : List ℕ) (i k j : ℕ) → find (names_from text places i k) w ≡ some j → j < i + k
unfolding find names_from
find_below text places w i zero j e = let z : ◌≡◌ {A = ℕ} 0 1 = cc in absurd (omega arith)
find_below text places w i (suc k) j e = by (same (name_of text places i).word w) e (find_below text places w (suc i) k j)
  where
    by : (b : Bool) → ◌≡◌ {A = Option ℕ} (elim b [ true ↦ some i | false ↦ find (names_from text places (suc i) k) w ]) (some j)
        → (find (names_from text places (suc i) k) w ≡ some j → j < suc i + k) → j < i + suc k
    by true e ih = let q : i ≡ j = cc in omega arith
    by false e ih = let h = ih e in omega arith

pub old_below : {text : List ℕ} (places : List ℕ) (count : ℕ) {c r : Cursor} {t : Tok} {i : ℕ} → Goes text c (old_name (names text places count)) r (t, i) → alive r ≡ true
    → i < count
unfolding old_name
old_below {text} places count g e = gave below g e
  where
    Below : Tok × ℕ → Type 0
    Below x = x.1 < count

    below : Gives Below (old_name (names text places count))
    below =
        gives_after Below _ _ λ u.
        gives_bind (λ j. j < count) Below _ _ (gives_known (λ j. j < count) _ _ _ (λ j q. let h = find_below text places u.word 0 count j q in omega arith)) λ j h.
        gives_give Below (u, j) h

-- what later readers know of the tables: so many signals and names at most, which signal i stands for, and that a name's signals differ and are
-- signals of the text
pub record Known (lists : List ℕ) (signals names : ℕ) : Type 0 where
  pub few : signals ≤ signals_most
  pub fits : names ≤ names_most
  pub within : signals ≤ names
  pub signal : (i : ℕ) → i < signals → list_at lists i ≡ i ∷ []
  pub tidy : (i : ℕ) → i < names → TidyBelow signals (list_at lists i)

pub known : {text : List ℕ} {c r : Cursor} {places lists : List ℕ} {signals names : ℕ} → Fronted text c r places lists signals names → alive r ≡ true
    → Known lists signals names
known {text} {c} {r} {places} {lists} {signals} {names} h e =
    let d = gave declared_front h.goes e in
    let n = names_length text places lists signals in
    let m = names_length text places lists names in
    record {
      few = omega (arith, d.signals.few);
      fits = omega (arith, d.signals.few, d.names.few);
      within = omega (arith, ap length d.names.same, length-append (names_of text places lists signals) d.names.added);
      signal = λ i b. rw (zero-add i) at (single_at text places lists 0 signals d.signals.single i b);
      tidy = λ i b. rw (n, zero-add i) at (tidy_at text places lists 0 names d.names.tidy i b);
    }
