-- Names by their numbers: what a table of the code says of a name holds of every list of the same names, whatever they stand for there.
use Prim.Native.Nat.{ℕ, zero, suc, ◌+◌, ◌*◌, ◌<◌}
use native.Mathlib.Omega.{arith}
use native.Mathlib.Nat.{add-zero, zero-add, add-suc, suc-add}
use native.Mathlib.Numerals.{add-one}
use mathlib.Core.Path.{◌≡◌, refl, sym, ap, ◌∙◌, subst}
use mathlib.Core.Bool.{Bool, true, false}
use mathlib.Core.Option.{Option, none, some}
use mathlib.Core.List.{List, [], ◌∷◌, ◌++◌}
use lib.ListN.{get_or}
use Rattle.tokens.specs.Written.{same}
use Rattle.tokens.specs.Tokens.{Tok, Toks}
use Rattle.meaning.specs.Refusals.{unknown_name, used_name}
use Rattle.meaning.specs.Reader.{Res, Reader, ok, refuse, after, ◌>>=◌, give, refuse_if}
use Rattle.meaning.specs.Names.{name, find, is_some, known, new_name, old_name}
use Rattle.words.specs.Cursor.{ahead, Goes}
use Rattle.meaning.specs.Meaning.{firsts}
use Rattle.words.specs.Table.{name_of, names_from, names, named, seconds}
use Rattle.words.specs.declared.Cursor.{Cursor}
use Rattle.words.proofs.Flow.{then, given, alike}

-- ---- the same names, which stand for something else

pub firsts_named : {A B : Type 0} (f : A → B) (xs : List (Tok × A)) → firsts (named f xs) ≡ firsts xs
unfolding firsts named
firsts_named f [] = refl
firsts_named f (x ∷ xs) = ap (λ (l : List Tok). x.0 ∷ l) (firsts_named f xs)

module _ {A B : Type 0} (f : A → B) where
  abbrev pub over : Option A → Option B
  over none = none
  over (some a) = some (f a)

  find_named : (xs : List (Tok × A)) (w : List ℕ) → find (named f xs) w ≡ over (find xs w)
  unfolding find named
  find_named [] w = refl
  find_named (x ∷ xs) w = by (same x.0.word w) (find_named xs w)
    where
      by : (b : Bool) → find (named f xs) w ≡ over (find xs w)
          → elim b [ true ↦ some (f x.1) | false ↦ find (named f xs) w ] ≡ over (elim b [ true ↦ some x.1 | false ↦ find xs w ])
      by true ih = refl
      by false ih = ih

  some_named : (xs : List (Tok × A)) (w : List ℕ) → is_some (find xs w) ≡ is_some (find (named f xs) w)
  unfolding is_some
  some_named xs w = by (find xs w) ∙ ap is_some (sym (find_named xs w))
    where
      by : (o : Option A) → is_some o ≡ is_some (over o)
      by none = refl
      by (some a) = refl

  module _ {text : List ℕ} {c r : Cursor} {t : Tok} (xs : List (Tok × A)) where
    pub old_named : {a : A} → Goes text c (old_name xs) r (t, a) → Goes text c (old_name (named f xs)) r (t, f a)
    unfolding old_name known ◌>>=◌ after give
    old_named {a} g = alike (then other g given) (λ ts. by (name ts))
      where
        other : Tok × A → Reader (Tok × B)
        other x = give (x.0, f x.1)

        before : Tok → A → Reader (Tok × A)
        before u a = give (u, a)

        behind : Tok → B → Reader (Tok × B)
        behind u b = give (u, b)

        told : (u : Tok) (o : Option A) (us : Toks)
            → after (after (known o unknown_name u.at us) (before u)) other ≡ after (known (over o) unknown_name u.at us) (behind u)
        told u none us = refl
        told u (some a) us = refl

        by : (q : Res Tok) → after (after q (λ u. known (find xs u.word) unknown_name u.at >>= before u)) other
            ≡ after q (λ u. known (find (named f xs) u.word) unknown_name u.at >>= behind u)
        by (ok u us) =
            told u (find xs u.word) us
            ∙ ap (λ (o : Option B). after (known o unknown_name u.at us) (behind u)) (sym (find_named xs u.word))
        by (refuse n p) = refl

    pub new_named : Goes text c (new_name xs) r t → Goes text c (new_name (named f xs)) r t
    unfolding new_name ◌>>=◌ after
    new_named g = alike g (λ ts. by (name ts))
      where
        by : (q : Res Tok)
            → after q (λ u. refuse_if (is_some (find xs u.word)) used_name u.at >>= λ z. give u)
            ≡ after q (λ u. refuse_if (is_some (find (named f xs) u.word)) used_name u.at >>= λ z. give u)
        by (ok u us) = ap (λ (b : Bool). after (refuse_if b used_name u.at us) (λ z. give u)) (some_named xs u.word)
        by (refuse n p) = refl

-- ---- a list whose names are those of a table

cons_same : {A : Type 0} {t u : Tok} {a b : A} {xs ys : List (Tok × A)} → t ≡ u → a ≡ b → xs ≡ ys → (t, a) ∷ xs ≡ (u, b) ∷ ys
cons_same p q r = cc

module _ {A : Type 0} (text places : List ℕ) (z : A) where
  -- the names of the table, numbered, stand for what stands at their numbers
  by_number : (xs : List (Tok × A)) (i k : ℕ) (f : ℕ → A) → firsts xs ≡ firsts (names_from text places i k)
      → ((j : ℕ) → f (i + j) ≡ get_or (seconds xs) j z) → named f (names_from text places i k) ≡ xs
  unfolding firsts seconds named names_from
  by_number [] i zero f e h = refl
  by_number [] i (suc k) f e h = let z : ◌≡◌ {A = ℕ} 0 1 = cc in absurd (omega arith)
  by_number (x ∷ xs) i zero f e h = let z : ◌≡◌ {A = ℕ} 0 1 = cc in absurd (omega arith)
  by_number (x ∷ xs) i (suc k) f e h =
      let l = by_number xs (suc i) k f (cc) (λ j. ap f (suc-add i j ∙ sym (add-suc i j)) ∙ h (suc j)) in
      cons_same (cc) (ap f (sym (add-zero i)) ∙ h 0) l

  module _ (count : ℕ) (xs : List (Tok × A)) (e : firsts xs ≡ firsts (names text places count)) where
    abbrev pub standing : ℕ → A
    standing i = get_or (seconds xs) i z

    all : named standing (names text places count) ≡ xs
    all = by_number xs 0 count standing e (λ j. ap standing (zero-add j))

    -- what is found in the list is what stands at the number that is found in the table
    pub found_by_number : (w : List ℕ) → find xs w ≡ over standing (find (names text places count) w)
    found_by_number w = ap (λ (ys : List (Tok × A)). find ys w) (sym all) ∙ find_named standing (names text places count) w

    -- a name of number i in the table stands for what stands at i in the list
    pub old_by_number : {c r : Cursor} {t : Tok} {i : ℕ} → Goes text c (old_name (names text places count)) r (t, i)
        → Goes text c (old_name xs) r (t, get_or (seconds xs) i z)
    old_by_number {c} {r} {t} {i} g =
        subst (λ (ys : List (Tok × A)). Goes text c (old_name ys) r (t, standing i)) all (old_named standing (names text places count) g)

    -- a name that is not in the table is not in the list
    pub new_by_number : {c r : Cursor} {t : Tok} → Goes text c (new_name (names text places count)) r t → Goes text c (new_name xs) r t
    new_by_number {c} {r} {t} g =
        subst (λ (ys : List (Tok × A)). Goes text c (new_name ys) r t) all (new_named standing (names text places count) g)

-- ---- a table with one name more

-- names whose places are the same
pub names_agree : (text p q : List ℕ) (i k : ℕ) → ((j : ℕ) → j < (i + k) * 2 → get_or q j 0 ≡ get_or p j 0) → names_from text q i k ≡ names_from text p i k
unfolding names_from
names_agree text p q i zero h = refl
names_agree text p q i (suc k) h =
    let a = h (i * 2) (omega arith) in
    let b = h (i * 2 + 1) (omega arith) in
    rw (a, b) (ap (λ (l : List (Tok × ℕ)). (name_of text p i, i) ∷ l) (names_agree text p q (suc i) k (λ j l. h j (omega arith))))

names_last : (text places : List ℕ) (i k : ℕ)
    → names_from text places i (suc k) ≡ names_from text places i k ++ (name_of text places (i + k), i + k) ∷ []
unfolding names_from
names_last text places i zero = rw (add-zero i)
names_last text places i (suc k) =
    ap (λ (l : List (Tok × ℕ)). (name_of text places i, i) ∷ l) (names_last text places (suc i) k)
    ∙ ap (λ (n : ℕ). (name_of text places i, i) ∷ names_from text places (suc i) k ++ (name_of text places n, n) ∷ [])
    (suc-add i k ∙ sym (add-suc i k))

pub names_more : (text places : List ℕ) (count : ℕ)
    → names text places (count + 1) ≡ names text places count ++ (name_of text places count, count) ∷ []
names_more text places count =
    ap (names text places) (add-one count) ∙ names_last text places 0 count
    ∙ ap (λ (k : ℕ). names text places count ++ (name_of text places k, k) ∷ []) (zero-add count)

module _ {A : Type 0} where
  pub firsts_append : (xs : List (Tok × A)) (x : Tok × A) → firsts (xs ++ x ∷ []) ≡ firsts xs ++ x.0 ∷ []
  unfolding firsts
  firsts_append [] x = refl
  firsts_append (y ∷ xs) x = ap (λ (l : List Tok). y.0 ∷ l) (firsts_append xs x)

  pub seconds_append : (xs : List (Tok × A)) (x : Tok × A) → seconds (xs ++ x ∷ []) ≡ seconds xs ++ x.1 ∷ []
  unfolding seconds
  seconds_append [] x = refl
  seconds_append (y ∷ xs) x = ap (λ (l : List A). y.1 ∷ l) (seconds_append xs x)

-- the name at the cursor, behind the others, with its place and its end behind theirs
pub one_more_lem : {A : Type 0} (text p q : List ℕ) (count : ℕ) (xs : List (Tok × A)) (c : Cursor) (a : A) → firsts xs ≡ firsts (names text p count)
    → ((j : ℕ) → j < count * 2 → get_or q j 0 ≡ get_or p j 0) → get_or q (count * 2) 0 ≡ c.at → get_or q (count * 2 + 1) 0 ≡ c.end
    → firsts (xs ++ (ahead text c, a) ∷ []) ≡ firsts (names text q (count + 1))
one_more_lem text p q count xs c a e h s f =
    let old : names text q count ≡ names text p count = names_agree text p q 0 count (λ j l. h j (omega arith)) in
    let new : name_of text q count ≡ ahead text c = rw (s, f) in
    firsts_append xs (ahead text c, a)
    ∙ ap (λ (l : List Tok). l ++ ahead text c ∷ []) (e ∙ ap firsts (sym old))
    ∙ ap (λ (u : Tok). firsts (names text q count) ++ u ∷ []) (sym new)
    ∙ sym (ap firsts (names_more text q count) ∙ firsts_append (names text q count) (name_of text q count, count))
