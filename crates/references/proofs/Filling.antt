-- The table of references: names that are filled in one behind the other, and one name more.
use Prim.Native.Nat.{ℕ, zero, suc, ◌+◌, ◌-◌, ◌≤◌, ◌<◌}
use native.Mathlib.Omega.{arith}
use native.Mathlib.Numerals.{add-one}
use mathlib.Core.Path.{◌≡◌, refl, sym, ap, ◌∙◌}
use mathlib.Core.Bool.{Bool, true, false, ◌&&◌}
use mathlib.Core.Option.{Option, none, some, or_else}
use Rattle.std.specs.Prelude.{Option as Maybe, Some, None, SomeIff}
use mathlib.Core.List.{List, [], ◌∷◌, ◌++◌}
use lib.Dec.{ltb}
use lib.Seq.{get_or-set_same, get_or-set_other}
use lib.ListN.{length, get_or, set, length-set}
use borrow.Author.Tests.{le-ltb, lt-ltb}
use Rattle.tokens.specs.Written.{same}
use Rattle.tokens.specs.Tokens.{Tok, Toks, stop, tok}
use Rattle.meaning.specs.Reader.{any, ahead_of, ahead as ahead_is}
use Rattle.meaning.specs.Names.{find}
use Rattle.meaning.proofs.Options.{or_none, or_or}
use Rattle.meaning.proofs.Others.{same_eq}
use Rattle.words.specs.Cursor.{span, ahead, stream, alive, Goes}
use Rattle.words.specs.Values.{told, value_of}
use Rattle.words.specs.declared.Cursor.{Cursor}
use Rattle.words.proofs.Words.{same_self}
use Rattle.words.proofs.Flow.{stream_on, stream_stop, went}
use Rattle.labels.specs.Table.{word_of, words_of, number_of}
use Rattle.labels.proofs.Numbers.{numbered}
use Rattle.references.specs.References.{behind, next_at, name_at, past_by}
use Rattle.references.specs.Filled.{counted, noted, Filled}

-- ---- what is found first

pub find_append : (xs ys : List (Tok × ℕ)) (w : List ℕ) → find (xs ++ ys) w ≡ or_else (find xs w) (find ys w)
unfolding find or_else
find_append [] ys w = refl
find_append (x ∷ xs) ys w = by (same x.0.word w) (find_append xs ys w)
  where
    by : (b : Bool) → find (xs ++ ys) w ≡ or_else (find xs w) (find ys w)
        → ◌≡◌ {A = Option ℕ} (elim b [ true ↦ some x.1 | false ↦ find (xs ++ ys) w ]) (or_else (elim b [ true ↦ some x.1 | false ↦ find xs w ]) (find ys w))
    by true e = refl
    by false e = e

-- ---- names one behind the other

module _ {text labels : List ℕ} {count : ℕ} where
  pub filled_none : {table : List ℕ} → Filled text labels count table [] table
  unfolding find
  filled_none = record { long = refl; each = λ w k e. sym (or_none _) }

  pub filled_both : {t t' t'' : List ℕ} {xs ys : List (Tok × ℕ)} → Filled text labels count t xs t' → Filled text labels count t' ys t''
      → Filled text labels count t (xs ++ ys) t''
  filled_both {t} {t'} {t''} {xs} {ys} f g = record {
    long = g.long ∙ f.long;
    each = λ w k e.
        g.each w k e ∙ ap (λ (o : Option ℕ). or_else o (find ys w)) (f.each w k e)
        ∙ or_or (counted (get_or t k 0)) (find xs w) (find ys w)
        ∙ ap (or_else (counted (get_or t k 0))) (sym (find_append xs ys w));
  }

-- ---- one name

module _ (text labels : List ℕ) (count : ℕ) where
  abbrev number_in : List ℕ → Option ℕ
  number_in w = number_of (words_of text labels count) w

  same_number : (v w : List ℕ) (j k : ℕ) → same v w ≡ true → number_in v ≡ some k → number_in w ≡ some j → j ≡ k
  same_number v w j k s e f =
      let q : some j ≡ some k = sym f ∙ ap number_in (sym (same_eq v w s)) ∙ e in
      cc

  other_number : (v w : List ℕ) (j k : ℕ) → same v w ≡ false → number_in v ≡ some k → number_in w ≡ some j → j ≡ k → ⊥
  other_number v w j k s e f q =
      let a = (numbered text labels v count k e).1 in
      let b = (numbered text labels w count j f).1 in
      let v_is_w : v ≡ w = sym a ∙ ap (word_of text labels) (sym q) ∙ b in
      let no : true ≡ false = sym (same_self w) ∙ ap (λ (u : List ℕ). same u w) (sym v_is_w) ∙ s in
      let z : ◌≡◌ {A = ℕ} 0 1 = cc in
      absurd (omega arith)

  module _ (t : Tok) (n : ℕ) (table : List ℕ) where
    -- what a table has to have: where the label is t's name, and where it is another
    one_by : (table' : List ℕ) → length table' ≡ length table
        → ((w : List ℕ) (j : ℕ) → number_in w ≡ some j → same t.word w ≡ true → counted (get_or table' j 0) ≡ or_else (counted (get_or table j 0)) (some n))
        → ((w : List ℕ) (j : ℕ) → number_in w ≡ some j → same t.word w ≡ false → counted (get_or table' j 0) ≡ counted (get_or table j 0))
        → Filled text labels count table ((t, n) ∷ []) table'
    unfolding find
    one_by table' long here there = record { long = long; each = λ w j f. by w j f (same t.word w) refl }
      where
        by : (w : List ℕ) (j : ℕ) → number_in w ≡ some j → (b : Bool) → same t.word w ≡ b
            → counted (get_or table' j 0) ≡ or_else (counted (get_or table j 0)) (elim b [ true ↦ some n | false ↦ none ])
        by w j f true s = here w j f s
        by w j f false s = there w j f s ∙ sym (or_none _)

    -- no label has it
    pub one_unknown : number_in t.word ≡ none → Filled text labels count table ((t, n) ∷ []) table
    one_unknown e =
        one_by table refl
        (λ w j f s. (let q : some j ≡ none = sym f ∙ ap number_in (sym (same_eq t.word w s)) ∙ e in let z : ◌≡◌ {A = ℕ} 0 1 = cc in absurd (omega arith)))
        (λ w j f s. refl)

    module _ (k : ℕ) (e : number_in t.word ≡ some k) where
      -- its place has a number
      pub one_again : (get_or table k 0 ≡ 0 → ⊥) → Filled text labels count table ((t, n) ∷ []) table
      unfolding or_else
      one_again full =
          one_by table refl
          (λ w j f s. by (get_or table j 0) (λ q. full (ap (λ (i : ℕ). get_or table i 0) (sym (same_number t.word w j k s e f)) ∙ q)))
          (λ w j f s. refl)
        where
          by : (x : ℕ) → (x ≡ 0 → ⊥) → counted x ≡ or_else (counted x) (some n)
          by zero h = absurd (h refl)
          by (suc x) h = refl

      -- its place has none yet
      pub one_first : get_or table k 0 ≡ 0 → k < length table → Filled text labels count table ((t, n) ∷ []) (set table k (n + 1))
      unfolding or_else
      one_first empty room =
          one_by (set table k (n + 1)) (length-set table k (n + 1))
          (λ w j f s. (
          let q = same_number t.word w j k s e f in
          ap (λ (i : ℕ). counted (get_or (set table k (n + 1)) i 0)) q
          ∙ ap counted (get_or-set_same table k (n + 1) 0 room ∙ add-one n)
          ∙ sym (ap (λ (x : ℕ). or_else (counted x) (some n)) (ap (λ (i : ℕ). get_or table i 0) q ∙ empty))))
          (λ w j f s. ap counted (get_or-set_other table k j (n + 1) 0 (λ q. other_number t.word w j k s e f q)))

-- ---- `X NAME;` ahead of a cursor

-- what the code's test says, where reading goes on
pub tested : {x a b v : Bool} → x ≡ true → b ≡ (x && a) → b ≡ v → a ≡ v
tested {x} {a} e p q = sym (p ∙ ap (λ (z : Bool). z && a) e) ∙ q

-- no X is
pub note_none : (text labels table : List ℕ) (count n : ℕ) (c : Cursor) → ahead_is "X" (stream text c) ≡ false
    → Filled text labels count table (name_at n (stream text c)) table
unfolding name_at
note_none text labels table count n c e = rw (e, name_at) filled_none

module _ (text labels table : List ℕ) (count n : ℕ) (c r : Cursor) (on : alive c ≡ true) (x : ahead_is "X" (stream text c) ≡ true) (g : Goes text c any r (ahead text c)) where
  -- the name is what stands behind the X
  behind_x : name_at n (stream text c) ≡ next_at n (stream text r)
  unfolding name_at ahead_of any behind
  behind_x = (rw (x, name_at) (by (stream text c) refl x))
    where
      by : (ts : Toks) → stream text c ≡ ts → ahead_is "X" ts ≡ true → next_at n (behind (any ts)) ≡ next_at n (stream text r)
      by (stop m p) q y = let z : ◌≡◌ {A = ℕ} 0 1 = cc in absurd (omega arith)
      by (tok t ts) q y = ap (next_at n) (sym (went g on (ap any q)).behind)

  -- the text ends there
  pub note_ended : r.end ≤ r.at → Filled text labels count table (name_at n (stream text c)) table
  unfolding next_at
  note_ended h = rw (behind_x, stream_stop text r (le-ltb r.at r.end h)) filled_none

  module _ (k : ℕ) (v : List ℕ) (there : r.at < r.end) (word : v ≡ span text r.at r.end) (found : told (ltb k count) k ≡ number_of (words_of text labels count) v) where
    the_name : name_at n (stream text c) ≡ (ahead text r, n) ∷ []
    unfolding next_at
    the_name = behind_x ∙ ap (next_at n) (stream_on text r (lt-ltb r.at r.end there))

    number : {b : Bool} → ltb k count ≡ b → number_of (words_of text labels count) (span text r.at r.end) ≡ told b k
    number e = ap (number_of (words_of text labels count)) (sym word) ∙ sym found ∙ ap (λ (b : Bool). told b k) e

    pub note_unknown : count ≤ k → Filled text labels count table (name_at n (stream text c)) table
    note_unknown h = rw the_name (one_unknown text labels count (ahead text r) n table (number (le-ltb k count h)))

    pub note_again : k < count → (get_or table k 0 ≡ 0 → ⊥) → Filled text labels count table (name_at n (stream text c)) table
    note_again h full = rw the_name (one_again text labels count (ahead text r) n table k (number (lt-ltb k count h)) full)

    pub note_first : k < count → get_or table k 0 ≡ 0 → count ≤ length table → Filled text labels count table (name_at n (stream text c)) (set table k (n + 1))
    note_first h empty room = rw the_name (one_first text labels count (ahead text r) n table k (number (lt-ltb k count h)) empty (omega arith))

-- ---- a reference

-- a number that is not 0
-- one less, if there is one
pub counted_less : (r : Maybe ℕ) (n : ℕ) → SomeIff r (1 ≤ n) (n - 1) → value_of r ≡ counted n
counted_less None zero h = refl
counted_less None (suc n) h = absurd (h (omega arith))
counted_less (Some x) zero h = absurd (omega (arith, h.0))
counted_less (Some x) (suc n) h = let e : suc n - 1 ≡ n = omega arith in ap some (h.1 ∙ e)

module _ (text labels : List ℕ) (count : ℕ) (table name w : List ℕ) where
  abbrev Answers : Option ℕ → Type 0
  Answers o = o ≡ past_by name (noted text labels count table) w

  pub past_name : same name w ≡ true → Answers (some 0)
  unfolding past_by
  past_name e = rw (e, past_by)

  module _ (e : same name w ≡ false) (k : ℕ) (f : told (ltb k count) k ≡ number_of (words_of text labels count) w) where
    by_number : {o : Option ℕ} → number_of (words_of text labels count) w ≡ o → Answers (elim o as (λ x. Option ℕ) [ none ↦ none | some j ↦ counted (get_or table j 0) ])
    unfolding past_by noted
    by_number q = rw (e, past_by) (rw (q, noted))

    pub past_unknown : count ≤ k → Answers none
    past_unknown h = by_number (sym f ∙ ap (λ (b : Bool). told b k) (le-ltb k count h))

    pub past_noted : {o : Option ℕ} → k < count → o ≡ counted (get_or table k 0) → Answers o
    past_noted h q = q ∙ by_number (sym f ∙ ap (λ (b : Bool). told b k) (lt-ltb k count h))
