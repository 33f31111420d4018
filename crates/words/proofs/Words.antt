-- The definitions on words, at a place of a word: one turn of a loop is one step of a definition.
use Prim.Native.Nat.{ℕ, zero, suc, ◌+◌, ◌-◌, ◌≤◌, ◌<◌, min}
use Prim.Native.String.{String}
use mathlib.Core.Path.{◌≡◌, refl, sym, ap, ◌∙◌}
use native.Mathlib.Omega.{arith}
use native.Mathlib.Nat.{add-zero}
use native.Mathlib.Numerals.{add-one}
use mathlib.Core.Bool.{Bool, true, false, not, ◌&&◌, ◌||◌, and-true, and-false, and_assoc, or-false}
use mathlib.Core.List.{List, [], ◌∷◌}
use borrow.Author.Tests.{eq-eqb, ne_eqb, eqb-false, ltb-true, ltb-false, le-leb, lt-leb, leb-true}
use lib.Dec.{leb, ltb, eqb}
use lib.Seq.{take_all, get_or-drop, get_or-take}
use lib.ListN.{length, get_or, take, drop, length-take, length-drop, drop_of_length-le, replicate}
use Rattle.std.specs.List.{list_all}
use Rattle.tokens.specs.Written.{bytes, same}
use Rattle.tokens.specs.Bytes.{between, wordy, digit}
pub use Rattle.tokens.proofs.Reading.{cut}
use Rattle.meaning.specs.Bounds.{name_most}
use Rattle.meaning.specs.Reader.{is_word}
use Rattle.meaning.specs.Lists.{has}
use Rattle.meaning.specs.Names.{reserved, among, is_name, is_some}
use Rattle.meaning.specs.Timing.{wave_char, all_chars}
use Rattle.meaning.proofs.Others.{same_eq}
use Rattle.words.specs.Cursor.{span}
use Rattle.words.specs.Packed.{capital, EndsWith}
use Rattle.words.specs.Values.{told}

-- what is left of a word from a place on, as the code takes it
pub rest : (w : List ℕ) (i : ℕ) → take (length w - i) (drop i w) ≡ drop i w
rest w i = take_all (length w - i) (drop i w) (omega (arith, length-drop i w))

pub rest_first : (w : List ℕ) (i : ℕ) → get_or (take (length w - i) (drop i w)) 0 0 ≡ get_or w i 0
rest_first w i = ap (λ (u : List ℕ). get_or u 0 0) (rest w i) ∙ get_or-drop i w 0 0 ∙ ap (λ (k : ℕ). get_or w k 0) (add-zero i)

-- a blank list has zeros everywhere
pub zeros : (n i : ℕ) → ◌≡◌ {A = ℕ} (get_or (replicate n 0) i 0) 0
zeros zero i = refl
zeros (suc n) zero = refl
zeros (suc n) (suc i) = zeros n i

pub span_none : (text : List ℕ) (at end : ℕ) → end ≤ at → span text at end ≡ []
span_none text at end h = let e : end - at ≡ 0 = omega arith in rw e

pub told_some : (b : Bool) (n : ℕ) → is_some (told b n) ≡ b
unfolding is_some
told_some true n = refl
told_some false n = refl

-- ---- equal words

-- words of different lengths differ
pub same_long : (w v : List ℕ) → (length w ≡ length v → ⊥) → same w v ≡ false
unfolding same
same_long [] [] h = absurd (h refl)
same_long [] (b ∷ v) h = refl
same_long (a ∷ w) [] h = refl
same_long (a ∷ w) (b ∷ v) h = ap (λ (x : Bool). eqb a b && x) (same_long w v (λ e. h (omega arith))) ∙ and-false (eqb a b)

-- equal fronts: those with one byte more are equal if that byte is, too
same_front : (w v : List ℕ) (i : ℕ) → i < length w → i < length v
    → same (take (suc i) w) (take (suc i) v) ≡ (same (take i w) (take i v) && eqb (get_or w i 0) (get_or v i 0))
unfolding same
same_front [] v i h k = absurd (omega arith)
same_front (a ∷ w) [] i h k = absurd (omega arith)
same_front (a ∷ w) (b ∷ v) zero h k = and-true (eqb a b)
same_front (a ∷ w) (b ∷ v) (suc i) h k =
    ap (λ (x : Bool). eqb a b && x) (same_front w v i (omega arith) (omega arith)) ∙ sym (and_assoc (eqb a b) _ _)

module _ (w v : List ℕ) (i j : ℕ) (e : i ≡ j + 1) (h : j < length w) (k : j < length v) where
  pub same_less : get_or w j 0 ≡ get_or v j 0 → same (take i w) (take i v) ≡ same (take j w) (take j v)
  same_less q = rw (e, add-one) (same_front w v j h k ∙ rw (eq-eqb _ _ q) (and-true (same (take j w) (take j v))))

  pub same_differ_there : (get_or w j 0 ≡ get_or v j 0 → ⊥) → same (take i w) (take i v) ≡ false
  same_differ_there q = rw (e, add-one) (same_front w v j h k ∙ rw (ne_eqb _ _ q) (and-false (same (take j w) (take j v))))

pub same_none : (w v : List ℕ) (i : ℕ) → i ≤ 0 → same (take i w) (take i v) ≡ true
unfolding same
same_none w v zero h = refl
same_none w v (suc i) h = absurd (omega arith)

-- all of them
pub same_all : (w v : List ℕ) (n : ℕ) → length w ≤ n → length v ≤ n → same w v ≡ same (take n w) (take n v)
same_all w v n h k = rw (take_all n w h, take_all n v k)

pub same_self : (w : List ℕ) → same w w ≡ true
unfolding same
same_self [] = refl
same_self (a ∷ w) = rw (eq-eqb a a refl) (same_self w)

-- a word of the text of another length: it would begin elsewhere, or before the text
pub length_differs : (text w : List ℕ) (at end : ℕ) {b : ℕ} → EndsWith w b → end ≤ length text → (length w ≤ end → at ≡ end - length w → ⊥)
    → false ≡ same (span text at end) w
length_differs text w at end ends k differs =
    let long : length (span text at end) ≡ min (end - at) (length text - at) =
    length-take (end - at) (drop at text) ∙ ap (min (end - at)) (length-drop at text) in
    sym (same_long (span text at end) w (λ q. differs (omega (arith, long, q, ends.some)) (omega (arith, long, q, ends.some))))

-- a word of the text whose last byte is another one
pub last_differs : (text w : List ℕ) (at end : ℕ) {b : ℕ} → EndsWith w b → 0 < end → end ≤ length text → (get_or text (end - 1) 0 ≡ b → ⊥)
    → false ≡ same (span text at end) w
last_differs text w at end {b} ends h k differs = by (same (span text at end) w) refl
  where
    by : (x : Bool) → same (span text at end) w ≡ x → false ≡ x
    by false e = refl
    by true e =
        let eq = same_eq (span text at end) w e in
        let long : length w ≡ min (end - at) (length text - at) =
        ap length (sym eq) ∙ length-take (end - at) (drop at text) ∙ ap (min (end - at)) (length-drop at text) in
        let there : at + (length w - 1) ≡ end - 1 = omega (arith, ends.some) in
        absurd
        (differs
        (ap (λ (i : ℕ). get_or text i 0) (sym there)
        ∙ sym (get_or-drop at text (length w - 1) 0)
        ∙ sym (get_or-take (end - at) (drop at text) (length w - 1) 0 (omega (arith, ends.some)))
        ∙ ap (λ (u : List ℕ). get_or u (length w - 1) 0) eq
        ∙ sym ends.last))

-- ---- a byte in a word

module _ (w : List ℕ) (b i : ℕ) where
  pub has_more : i < length w → (get_or w i 0 ≡ b → ⊥) → has b (drop i w) ≡ has b (drop (i + 1) w)
  unfolding has
  has_more h e = rw (cut w i h) (rw (ne_eqb _ _ e))

  pub has_here : i < length w → get_or w i 0 ≡ b → has b (drop i w) ≡ true
  unfolding has
  has_here h e = rw (cut w i h) (rw (eq-eqb _ _ e))

  pub has_end : length w ≤ i → has b (drop i w) ≡ false
  unfolding has
  has_end h = rw (drop_of_length-le w h)

-- ---- words

pub word_first : (w : List ℕ) → 0 < length w → is_word w ≡ wordy (get_or w 0 0)
unfolding is_word
word_first (b ∷ s) h = refl
word_first [] h = absurd (omega arith)

pub word_none : (w : List ℕ) → length w ≤ 0 → is_word w ≡ false
unfolding is_word
word_none [] h = refl
word_none (b ∷ s) h = absurd (omega arith)

-- ---- reserved words

-- those of some words that have n bytes
unfoldable pub of_length : ℕ → List String → List String
of_length n [] = []
of_length n (k ∷ ks) = elim (eqb (length (bytes k)) n) [ true ↦ k ∷ of_length n ks | false ↦ of_length n ks ]

-- only those of a word's length can be it
pub among_of_length : (ks : List String) (w : List ℕ) → among ks w ≡ among (of_length (length w) ks) w
unfolding among of_length
among_of_length [] w = refl
among_of_length (k ∷ ks) w = by (eqb (length (bytes k)) (length w)) refl (among_of_length ks w)
  where
    by : (b : Bool) → eqb (length (bytes k)) (length w) ≡ b → among ks w ≡ among (of_length (length w) ks) w
        → (same w (bytes k) || among ks w) ≡ among (elim b [ true ↦ k ∷ of_length (length w) ks | false ↦ of_length (length w) ks ]) w
    by true e ih = ap (λ (x : Bool). same w (bytes k) || x) ih
    by false e ih = rw (same_long w (bytes k) (λ q. eqb-false _ _ e (sym q))) ih

pub reserved_of : (n : ℕ) (w : List ℕ) → length w ≡ n → among (of_length n reserved) w ≡ among reserved w
reserved_of n w e = sym (among_of_length reserved w ∙ ap (λ (m : ℕ). among (of_length m reserved) w) e)

-- n is none of some numbers, as the last arm of a match tells it
abbrev pub NoneOf : List ℕ → ℕ → Type 0
NoneOf [] n = Unit {0}
NoneOf (l ∷ ls) n = NoneOf ls n × (n ≡ l → ⊥)

-- nor one of those up to k, which are smaller
unfoldable pub up_to : ℕ → List ℕ → List ℕ
up_to zero ls = ls
up_to (suc k) ls = suc k ∷ up_to k ls

pub none_up_to : (k : ℕ) (ls : List ℕ) (n : ℕ) → k < n → NoneOf ls n → NoneOf (up_to k ls) n
unfolding up_to
none_up_to zero ls n h r = r
none_up_to (suc k) ls n h r = (none_up_to k ls n (omega arith) r, λ e. omega arith)

none_has : (ls : List ℕ) (n : ℕ) → NoneOf ls n → has n ls ≡ false
unfolding has
none_has [] n h = refl
none_has (l ∷ ls) n h = rw (ne_eqb l n (λ e. h.1 (sym e))) (none_has ls n h.0)

-- are the lengths of some words among some numbers
unfoldable pub lengths_in : List ℕ → List String → Bool
lengths_in ls [] = true
lengths_in ls (k ∷ ks) = has (length (bytes k)) ls && lengths_in ls ks

none_of_length : (ls : List ℕ) (n : ℕ) (ks : List String) → lengths_in ls ks ≡ true → has n ls ≡ false → of_length n ks ≡ []
unfolding lengths_in of_length
none_of_length ls n [] h e = refl
none_of_length ls n (k ∷ ks) h e = by (has (length (bytes k)) ls) refl h (λ t. none_of_length ls n ks t e)
  where
    differ : true ≡ false → ⊥
    differ o = let z : ◌≡◌ {A = ℕ} 0 1 = cc in omega arith

    by : (x : Bool) → has (length (bytes k)) ls ≡ x → (x && lengths_in ls ks) ≡ true → (lengths_in ls ks ≡ true → of_length n ks ≡ [])
        → ◌≡◌ {A = List String} (elim (eqb (length (bytes k)) n) [ true ↦ k ∷ of_length n ks | false ↦ of_length n ks ]) []
    by true f h ih = rw (ne_eqb (length (bytes k)) n (λ q. differ (sym f ∙ ap (λ (m : ℕ). has m ls) q ∙ e))) (ih h)
    by false f h ih = let z : ◌≡◌ {A = ℕ} 0 1 = cc in absurd (omega arith)

-- a word whose length is not among them is none of the words
pub reserved_not : (ls : List ℕ) (w : List ℕ) → lengths_in ls reserved ≡ true → NoneOf ls (length w) → false ≡ among reserved w
unfolding among
reserved_not ls w h k =
    sym
    (among_of_length reserved w
    ∙ ap (λ (ks : List String). among ks w) (none_of_length ls (length w) reserved h (none_has ls (length w) k)))

pub or_both : {a b x y : Bool} → a ≡ x → b ≡ y → (a || b) ≡ (x || y)
or_both {a} {b} {x} {y} p q = ap (λ (c : Bool). c || b) p ∙ ap (λ (c : Bool). x || c) q

pub or_last : {a x : Bool} → a ≡ x → a ≡ (x || false)
or_last {a} {x} p = p ∙ sym (or-false x)

-- do all of some words begin with a capital letter
unfoldable pub capitals : List String → Bool
capitals [] = true
capitals (k ∷ ks) = capital (get_or (bytes k) 0 0) && capitals ks

-- then one that does not is none of them
among_capital : (ks : List String) (w : List ℕ) → capitals ks ≡ true → capital (get_or w 0 0) ≡ false → among ks w ≡ false
unfolding capitals among
among_capital [] w h e = refl
among_capital (k ∷ ks) w h e = by (capital (get_or (bytes k) 0 0)) refl h (same w (bytes k)) refl (λ t. among_capital ks w t e)
  where
    by : (x : Bool) → capital (get_or (bytes k) 0 0) ≡ x → (x && capitals ks) ≡ true → (y : Bool) → same w (bytes k) ≡ y
        → (capitals ks ≡ true → among ks w ≡ false) → (y || among ks w) ≡ false
    by false q h y r ih = let z : ◌≡◌ {A = ℕ} 0 1 = cc in absurd (omega arith)
    by true q h false r ih = ih h
    by true q h true r ih =
        let same_first : capital (get_or w 0 0) ≡ capital (get_or (bytes k) 0 0) = ap (λ (u : List ℕ). capital (get_or u 0 0)) (same_eq w (bytes k) r) in
        let z : ◌≡◌ {A = ℕ} 0 1 = cc in
        absurd (omega arith)

capital_no_digit : (b : ℕ) → capital b ≡ true → digit b ≡ false
unfolding digit between
capital_no_digit b e = by (leb 65 b) refl e
  where
    by : (x : Bool) → leb 65 b ≡ x → (x && leb b 90) ≡ true → (leb 48 b && leb b 57) ≡ false
    by false q h = let z : ◌≡◌ {A = ℕ} 0 1 = cc in absurd (omega arith)
    by true q h = rw (lt-leb b 57 (omega (arith, leb-true 65 b q))) (and-false (leb 48 b))

-- ---- names

pub name_none : (w : List ℕ) → length w ≡ 0 → is_name w ≡ false
unfolding is_name
name_none [] h = refl
name_none (b ∷ s) h = absurd (omega arith)

pub name_some : (w : List ℕ) → (length w ≡ 0 → ⊥)
    → is_name w ≡ (leb (length w) name_most && not (has 46 w) && not (digit (get_or w 0 0)) && not (among reserved w))
unfolding is_name
name_some [] h = absurd (h refl)
name_some (b ∷ s) h = refl

module _ (w : List ℕ) (some : length w ≡ 0 → ⊥) where
  -- too long, or with a dot
  pub name_off : (ltb name_most (length w) || has 46 w) ≡ true → false ≡ is_name w
  name_off e = sym (name_some w some ∙ by (ltb name_most (length w)) refl e)
    where
      by : (x : Bool) → ltb name_most (length w) ≡ x → (x || has 46 w) ≡ true
          → (leb (length w) name_most && not (has 46 w) && not (digit (get_or w 0 0)) && not (among reserved w)) ≡ false
      by true q e = rw (lt-leb (length w) name_most (ltb-true name_most (length w) q))
      by false q e = rw (le-leb (length w) name_most (ltb-false name_most (length w) q), e)

  name_rest : (ltb name_most (length w) || has 46 w) ≡ false → is_name w ≡ (not (digit (get_or w 0 0)) && not (among reserved w))
  name_rest e = name_some w some ∙ by (ltb name_most (length w)) refl e
    where
      by : (x : Bool) → ltb name_most (length w) ≡ x → (x || has 46 w) ≡ false
          → (leb (length w) name_most && not (has 46 w) && not (digit (get_or w 0 0)) && not (among reserved w))
          ≡ (not (digit (get_or w 0 0)) && not (among reserved w))
      by true q e = let z : ◌≡◌ {A = ℕ} 0 1 = cc in absurd (omega arith)
      by false q e = rw (le-leb (length w) name_most (ltb-false name_most (length w) q), e)

  -- neither, and it begins with a capital letter: then with no digit
  pub name_capital : (ltb name_most (length w) || has 46 w) ≡ false → capital (get_or w 0 0) ≡ true → not (among reserved w) ≡ is_name w
  name_capital e c =
      let no : digit (get_or w 0 0) ≡ false = capital_no_digit (get_or w 0 0) c in
      sym (name_rest e ∙ rw no)

  -- with none: then it is not reserved
  pub name_small : (ltb name_most (length w) || has 46 w) ≡ false → capital (get_or w 0 0) ≡ false → not (digit (get_or w 0 0)) ≡ is_name w
  unfolding capitals reserved bytes
  name_small e c = sym (name_rest e ∙ rw (among_capital reserved w refl c) (and-true (not (digit (get_or w 0 0)))))

-- ---- waveform characters

pub chars_all : (w : List ℕ) → list_all wave_char w ≡ all_chars w
unfolding all_chars
chars_all [] = refl
chars_all (b ∷ w) = ap (λ (x : Bool). wave_char b && x) (chars_all w)
