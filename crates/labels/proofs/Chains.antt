-- The chains of the table: a word that some label has is met on its chain, from the latest label on.
use Prim.Native.Nat.{ℕ, zero, suc, ◌+◌, ◌*◌, ◌%◌, ◌≤◌, ◌<◌}
use native.Mathlib.Omega.{arith}
use native.Mathlib.Numerals.{add-one}
use mathlib.Core.Path.{◌≡◌, refl, sym, ap, ◌∙◌}
use mathlib.Core.Bool.{Bool, true, false, ◌||◌}
use mathlib.Core.Option.{Option, none, some}
use mathlib.Core.List.{List, [], ◌∷◌}
use lib.Dec.{eqb}
use lib.ListN.{length, get_or, set, drop, length-set, drop_of_length-le}
use lib.Seq.{get_or-set_same, get_or-set_other}
use borrow.Author.Tests.{eqb-true, eqb-false}
use Rattle.tokens.specs.Written.{same}
use Rattle.meaning.specs.Names.{is_some}
use Rattle.words.specs.Cursor.{span}
use Rattle.words.proofs.Words.{cut}
use Rattle.meaning.specs.Labels.{taken}
use Rattle.meaning.proofs.Others.{same_eq}
use Rattle.labels.specs.Table.{labels_most, hashes, word_of, words_of, number_of, hash_from, hashed, latest, Held, Added}

-- ---- hashes

module _ (w : List ℕ) (h i : ℕ) where
  pub hash_more : i < length w → hash_from h (drop i w) ≡ hash_from ((h * 31 + get_or w i 0) % hashes) (drop (i + 1) w)
  unfolding hash_from
  hash_more k = rw (cut w i k)

  pub hash_end : length w ≤ i → hash_from h (drop i w) ≡ h
  unfolding hash_from
  hash_end k = rw (drop_of_length-le w k)

-- ---- the words of the table

pub words_length : (text places : List ℕ) (n : ℕ) → length (words_of text places n) ≡ n
unfolding words_of
words_length text places zero = refl
words_length text places (suc n) = ap suc (words_length text places n)

-- a word is used where it has a number
pub taken_number : (vs : List (List ℕ)) (w : List ℕ) → taken vs w ≡ is_some (number_of vs w)
unfolding taken number_of is_some
taken_number [] w = refl
taken_number (v ∷ vs) w = by (same v w) (taken_number vs w)
  where
    by : (b : Bool) → taken vs w ≡ is_some (number_of vs w) → (b || taken vs w) ≡ is_some {A = ℕ} (elim b as (λ x. Option ℕ) [ true ↦ some (length vs) | false ↦ number_of vs w ])
    by true e = refl
    by false e = e

pub latest_most : (h : ℕ) (vs : List (List ℕ)) → latest h vs ≤ length vs
unfolding latest
latest_most h [] = omega arith
latest_most h (v ∷ vs) = by (eqb (hashed v) h) (latest_most h vs)
  where
    by : (b : Bool) → latest h vs ≤ length vs → elim b as (λ x. ℕ) [ true ↦ suc (length vs) | false ↦ latest h vs ] ≤ suc (length vs)
    by true e = omega arith
    by false e = omega arith

-- ---- going down a chain

module _ (text places w : List ℕ) where
  abbrev number_in : ℕ → Option ℕ
  number_in n = number_of (words_of text places n) w

  abbrev latest_in : ℕ → ℕ
  latest_in n = latest (hashed w) (words_of text places n)

  -- label k is the next on the chain of w below number n, and w has no number from k + 1 on
  pub record Next (n k : ℕ) : Type 0 where
    pub below : k < n
    pub hash : hashed (word_of text places k) ≡ hashed w
    pub still : number_in n ≡ number_in (suc k)

  pub next : (n k : ℕ) → suc k ≡ latest_in n → Next n k
  unfolding words_of number_of latest
  next zero k e = absurd (omega arith)
  next (suc n) k e = by (eqb (hashed (word_of text places n)) (hashed w)) refl e (next n k)
    where
      other : eqb (hashed (word_of text places n)) (hashed w) ≡ false → (b : Bool) → same (word_of text places n) w ≡ b
          → number_in n ≡ elim b as (λ x. Option ℕ) [ true ↦ some (length (words_of text places n)) | false ↦ number_in n ]
      other f true s = absurd (eqb-false _ _ f (ap hashed (same_eq (word_of text places n) w s)))
      other f false s = refl

      by : (b : Bool) → eqb (hashed (word_of text places n)) (hashed w) ≡ b
          → suc k ≡ elim b as (λ x. ℕ) [ true ↦ suc (length (words_of text places n)) | false ↦ latest_in n ] → (suc k ≡ latest_in n → Next n k) → Next (suc n) k
      by true f e ih =
          let q : k ≡ n = omega (arith, words_length text places n) in
          rw q (record { below = omega arith; hash = eqb-true _ _ f; still = refl })
      by false f e ih =
          let d = ih e in
          record { below = omega (arith, d.below); hash = d.hash; still = sym (other f (same (word_of text places n) w) refl) ∙ d.still }

  -- the chain has ended: w has no number
  pub ended : (n : ℕ) → latest_in n ≡ 0 → number_in n ≡ none
  unfolding words_of number_of latest
  ended zero e = refl
  ended (suc n) e = by (eqb (hashed (word_of text places n)) (hashed w)) refl e (same (word_of text places n) w) refl (ended n)
    where
      by : (b : Bool) → eqb (hashed (word_of text places n)) (hashed w) ≡ b
          → ◌≡◌ {A = ℕ} (elim b [ true ↦ suc (length (words_of text places n)) | false ↦ latest_in n ]) 0 → (s : Bool) → same (word_of text places n) w ≡ s → (latest_in n ≡ 0 → number_in n ≡ none)
          → ◌≡◌ {A = Option ℕ} (elim s [ true ↦ some (length (words_of text places n)) | false ↦ number_in n ]) none
      by true f e s q ih = absurd (omega arith)
      by false f e true q ih = absurd (eqb-false _ _ f (ap hashed (same_eq (word_of text places n) w q)))
      by false f e false q ih = ih e

  -- label k is w, or another word
  pub number_here : (k : ℕ) → same (word_of text places k) w ≡ true → number_in (suc k) ≡ some k
  unfolding words_of number_of
  number_here k e = rw (e, number_of) (ap some (words_length text places k))

  pub number_later : (k : ℕ) → same (word_of text places k) w ≡ false → number_in (suc k) ≡ number_in k
  unfolding words_of number_of
  number_later k e = rw (e, number_of)

-- THE INVARIANT of a look-up: the chain goes on at i, and w has the number that it has among the first n labels
pub record Looks (text places w : List ℕ) (count i : ℕ) : Type 0 where
  pub n : ℕ
  pub among : n ≤ count
  pub chain : i ≡ latest (hashed w) (words_of text places n)
  pub still : number_of (words_of text places count) w ≡ number_of (words_of text places n) w

module _ {text places heads nexts w : List ℕ} {count : ℕ} (held : Held text places heads nexts count) where
  pub looks_start : {h i : ℕ} → h ≡ hashed w → h < hashes → i ≡ get_or heads h 0 → Looks text places w count i
  looks_start {h} {i} e k q = record { n = count; among = omega arith; chain = q ∙ held.newest h k ∙ rw e; still = refl }

  module _ {i k : ℕ} (l : Looks text places w count i) (e : i ≡ suc k) where
    looks_next : Next text places w l.n k
    looks_next = next text places w l.n k (sym e ∙ l.chain)

    pub looks_below : k < count
    looks_below = omega (arith, looks_next.below, l.among)

    pub looks_found : same (word_of text places k) w ≡ true → number_of (words_of text places count) w ≡ some k
    looks_found s = l.still ∙ looks_next.still ∙ number_here text places w k s

    pub looks_on : {j : ℕ} → same (word_of text places k) w ≡ false → j ≡ get_or nexts k 0 → Looks text places w count j
    looks_on {j} s q =
        let d = looks_next in
        record {
          n = k;
          among = omega (arith, looks_below);
          chain = q ∙ held.older k looks_below ∙ ap (λ (x : ℕ). latest x (words_of text places k)) d.hash;
          still = l.still ∙ d.still ∙ number_later text places w k s;
        }

    -- the chain goes down
    pub looks_less : {j : ℕ} → j ≡ get_or nexts k 0 → j < i
    looks_less {j} q =
        omega (arith, held.older k looks_below, latest_most (hashed (word_of text places k)) (words_of text places k), words_length text places k)

  pub looks_none : {i : ℕ} → Looks text places w count i → i ≤ 0 → number_of (words_of text places count) w ≡ none
  looks_none {i} l h = let z : i ≡ 0 = omega arith in l.still ∙ ended text places w l.n (sym l.chain ∙ z)

-- ---- one label more

module _ (text places : List ℕ) (count a b : ℕ) where
  abbrev pub stored : List ℕ
  stored = set (set places (count * 2) a) (count * 2 + 1) b

  word_kept : (k : ℕ) → k < count → word_of text stored k ≡ word_of text places k
  word_kept k h =
      rw (
        get_or-set_other (set places (count * 2) a) (count * 2 + 1) (k * 2) b 0 (λ e. omega arith),
        get_or-set_other places (count * 2) (k * 2) a 0 (λ e. omega arith),
        get_or-set_other (set places (count * 2) a) (count * 2 + 1) (k * 2 + 1) b 0 (λ e. omega arith),
        get_or-set_other places (count * 2) (k * 2 + 1) a 0 (λ e. omega arith),
      )

  words_kept : (n : ℕ) → n ≤ count → words_of text stored n ≡ words_of text places n
  unfolding words_of
  words_kept zero h = refl
  words_kept (suc n) h = rw (word_kept n (omega arith), words_kept n (omega arith))

  word_stored : count * 2 + 1 < length places → {at end : ℕ} → a ≡ at → b + 1 ≡ end → word_of text stored count ≡ span text at end
  word_stored h e q =
      rw (
        get_or-set_other (set places (count * 2) a) (count * 2 + 1) (count * 2) b 0 (λ e. omega arith),
        get_or-set_same places (count * 2) a 0 (omega arith),
        get_or-set_same (set places (count * 2) a) (count * 2 + 1) b 0 (omega (arith, length-set places (count * 2) a)),
        e,
        q,
      )

module _ {text places heads nexts : List ℕ} {count at end a h z : ℕ} (b : ℕ) (held : Held text places heads nexts count) (room : count < labels_most) where
  pub added : a ≡ at → b + 1 ≡ end → h ≡ hashed (span text at end) → h < hashes → z ≡ count + 1
      → Added text at end places count (stored text places count a b) (set heads h z) (set nexts count (get_or heads h 0))
  unfolding words_of latest
  added e q f k m = record { held = now_held; words = now_words }
    where
      word : word_of text (stored text places count a b) count ≡ span text at end
      word = word_stored text places count a b (omega (arith, held.places_long)) e q

      kept : (n : ℕ) → n ≤ count → words_of text (stored text places count a b) n ≡ words_of text places n
      kept = words_kept text places count a b

      now_words : words_of text (stored text places count a b) (count + 1) ≡ span text at end ∷ words_of text places count
      now_words =
          ap (words_of text (stored text places count a b)) (add-one count)
          ∙ ap (λ (v : List ℕ). v ∷ words_of text (stored text places count a b) count) word
          ∙ ap (λ (vs : List (List ℕ)). span text at end ∷ vs) (kept count (omega arith))

      newest_now : (j : ℕ) → j < hashes → get_or (set heads h z) j 0 ≡ latest j (span text at end ∷ words_of text places count)
      newest_now j below = by (eqb (hashed (span text at end)) j) refl
        where
          by : (x : Bool) → eqb (hashed (span text at end)) j ≡ x
              → get_or (set heads h z) j 0 ≡ elim x as (λ y. ℕ) [ true ↦ suc (length (words_of text places count)) | false ↦ latest j (words_of text places count) ]
          by true g =
              let s : h ≡ j = f ∙ eqb-true _ _ g in
              rw (← s) (get_or-set_same heads h z 0 (omega (arith, held.heads_long)) ∙ m ∙ add-one count ∙ ap suc (sym (words_length text places count)))
          by false g = get_or-set_other heads h j z 0 (λ s. eqb-false _ _ g (sym f ∙ sym s)) ∙ held.newest j below

      older_now : (j : ℕ) → j < count + 1 → get_or (set nexts count (get_or heads h 0)) j 0 ≡ latest (hashed (word_of text (stored text places count a b) j)) (words_of text (stored text places count a b) j)
      older_now j below = by (eqb j count) refl
        where
          by : (x : Bool) → eqb j count ≡ x
              → get_or (set nexts count (get_or heads h 0)) j 0 ≡ latest (hashed (word_of text (stored text places count a b) j)) (words_of text (stored text places count a b) j)
          by true g =
              rw (eqb-true j count g)
              (get_or-set_same nexts count (get_or heads h 0) 0 (omega (arith, held.nexts_long)) ∙ held.newest h k
              ∙ sym
              (ap (λ (v : List ℕ). latest (hashed v) (words_of text (stored text places count a b) count)) word
              ∙ ap (latest (hashed (span text at end))) (kept count (omega arith))
              ∙ ap (λ (x : ℕ). latest x (words_of text places count)) (sym f)))
          by false g =
              let s : j < count = omega (arith, eqb-false j count g) in
              get_or-set_other nexts count j (get_or heads h 0) 0 (eqb-false j count g) ∙ held.older j s
              ∙ sym
              (ap (λ (v : List ℕ). latest (hashed v) (words_of text (stored text places count a b) j)) (word_kept text places count a b j s)
              ∙ ap (latest (hashed (word_of text places j))) (kept j (omega arith)))

      now_held : Held text (stored text places count a b) (set heads h z) (set nexts count (get_or heads h 0)) (count + 1)
      now_held = record {
        places_long = rw (length-set, length-set) held.places_long;
        heads_long = rw length-set held.heads_long;
        nexts_long = rw length-set held.nexts_long;
        few = omega arith;
        newest = λ j below. newest_now j below ∙ ap (latest j) (sym now_words);
        older = older_now;
      }
