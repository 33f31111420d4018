-- Each label has a number of its own: where no name is used twice, a look-up of its word finds that number and no other.
use Prim.Native.Nat.{ℕ, zero, suc, ◌<◌}
use native.Mathlib.Omega.{arith}
use mathlib.Core.Path.{◌≡◌, refl, sym, ap, ◌∙◌, subst}
use mathlib.Core.Bool.{Bool, true, false, ◌||◌}
use mathlib.Core.Option.{Option, none, some}
use mathlib.Core.List.{List, [], ◌∷◌, ◌++◌}
use lib.Dec.{eqb}
use lib.ListN.{length}
use borrow.Author.Tests.{eqb-true, eqb-false}
use Rattle.tokens.specs.Written.{same}
use Rattle.tokens.specs.Tokens.{Tok, toks}
use Rattle.tokens.proofs.Bools.{neither, never}
use Rattle.words.proofs.Words.{same_self}
use Rattle.meaning.specs.Labels.{taken, used_by, repeated, labels, used_twice}
use Rattle.meaning.proofs.Others.{same_eq}
use Rattle.labels.specs.Table.{word_of, words_of, number_of, Gathers}
use Rattle.labels.proofs.Laws.{taken_append, repeated_later}
use Rattle.labels.proofs.Chains.{words_length}

-- ---- different words

-- each is none of those behind it
abbrev pub Different : List (List ℕ) → Type 0
Different [] = Unit {0}
Different (v ∷ vs) = (taken vs v ≡ false) × Different vs

-- a list whose first token repeats nothing, and neither does the rest
first_new : (vs : List (List ℕ)) (t : Tok) (l : List Tok) → repeated vs (t ∷ l) ≡ none → (taken vs t.word ≡ false) × (repeated (t.word ∷ vs) l ≡ none)
unfolding repeated
first_new vs t l e = by (taken vs t.word) refl e
  where
    by : (b : Bool) → taken vs t.word ≡ b → ◌≡◌ {A = Option ℕ} (elim b [ true ↦ some t.at | false ↦ repeated (t.word ∷ vs) l ]) none
        → (taken vs t.word ≡ false) × (repeated (t.word ∷ vs) l ≡ none)
    by true h e = let z : ◌≡◌ {A = ℕ} 0 1 = cc in absurd (omega arith)
    by false h e = (h, e)

-- tokens that repeat nothing add different words to different ones
different_more : (vs : List (List ℕ)) (l : List Tok) → Different vs → repeated vs l ≡ none → Different (used_by vs l)
unfolding used_by
different_more vs [] d e = d
different_more vs (t ∷ l) d e = let n = first_new vs t l e in different_more (t.word ∷ vs) l (n.0, d) n.1

-- nor do they repeat anything where fewer words are used
repeated_fewer : (vs us : List (List ℕ)) (l : List Tok) → repeated (vs ++ us) l ≡ none → repeated vs l ≡ none
unfolding repeated
repeated_fewer vs us [] e = refl
repeated_fewer vs us (t ∷ l) e =
    let n = first_new (vs ++ us) t l e in
    let new = neither (taken vs t.word) (taken us t.word) (sym (taken_append vs us t.word) ∙ n.0) in
    repeated_later vs t l new.0 ∙ repeated_fewer (t.word ∷ vs) us l n.1

-- ---- the table's

module _ (text places : List ℕ) where
  -- a number that is found is that of a label with this word
  pub numbered : (w : List ℕ) (n k : ℕ) → number_of (words_of text places n) w ≡ some k → (k < n) × (word_of text places k ≡ w)
  unfolding words_of number_of
  numbered w zero k e = let z : ◌≡◌ {A = ℕ} 0 1 = cc in absurd (omega arith)
  numbered w (suc n) k e = by (same (word_of text places n) w) refl e (numbered w n k)
    where
      by : (b : Bool) → same (word_of text places n) w ≡ b → ◌≡◌ {A = Option ℕ} (elim b [ true ↦ some (length (words_of text places n)) | false ↦ number_of (words_of text places n) w ]) (some k)
          → (number_of (words_of text places n) w ≡ some k → (k < n) × (word_of text places k ≡ w)) → (k < suc n) × (word_of text places k ≡ w)
      by true s e ih =
          let q : length (words_of text places n) ≡ k = cc in
          let here : n ≡ k = sym (words_length text places n) ∙ q in
          (omega arith, ap (word_of text places) (sym here) ∙ same_eq (word_of text places n) w s)
      by false s e ih = let r = ih e in (omega (arith, r.0), r.1)

  -- the word of each label is used
  taken_own : (n k : ℕ) → k < n → taken (words_of text places n) (word_of text places k) ≡ true
  unfolding words_of taken
  taken_own zero k h = absurd (omega arith)
  taken_own (suc n) k h = by (eqb k n) refl (same (word_of text places n) (word_of text places k)) refl (taken_own n k)
    where
      by : (x : Bool) → eqb k n ≡ x → (y : Bool) → same (word_of text places n) (word_of text places k) ≡ y → (k < n → taken (words_of text places n) (word_of text places k) ≡ true)
          → (y || taken (words_of text places n) (word_of text places k)) ≡ true
      by x e true s ih = refl
      by true e false s ih =
          never (sym s ∙ ap (λ (j : ℕ). same (word_of text places n) (word_of text places j)) (eqb-true k n e) ∙ same_self (word_of text places n))
      by false e false s ih = ih (omega (arith, eqb-false k n e))

  -- of different words each has its own number
  pub own_number : (n k : ℕ) → Different (words_of text places n) → k < n → number_of (words_of text places n) (word_of text places k) ≡ some k
  unfolding words_of number_of
  own_number zero k d h = absurd (omega arith)
  own_number (suc n) k d h = by (same (word_of text places n) (word_of text places k)) refl (eqb k n) refl (own_number n k d.1)
    where
      by : (b : Bool) → same (word_of text places n) (word_of text places k) ≡ b → (x : Bool) → eqb k n ≡ x
          → (k < n → number_of (words_of text places n) (word_of text places k) ≡ some k)
          → ◌≡◌ {A = Option ℕ} (elim b [ true ↦ some (length (words_of text places n)) | false ↦ number_of (words_of text places n) (word_of text places k) ]) (some k)
      by true s true e ih = ap some (words_length text places n ∙ sym (eqb-true k n e))
      by true s false e ih =
          let again : taken (words_of text places n) (word_of text places n) ≡ true =
          ap (taken (words_of text places n)) (same_eq (word_of text places n) (word_of text places k) s) ∙ taken_own n k (omega (arith, eqb-false k n e)) in
          never (sym d.0 ∙ again)
      by false s true e ih =
          never (sym s ∙ ap (λ (j : ℕ). same (word_of text places n) (word_of text places j)) (eqb-true k n e) ∙ same_self (word_of text places n))
      by false s false e ih = ih (omega (arith, eqb-false k n e))

-- THE LAW: behind the pass over a text in which no name is used twice, a look-up of any label's word gives its number
pub gathered_number : {text : List ℕ} {from : ℕ} {burst places heads nexts : List ℕ} {count : ℕ} → Gathers text from burst places heads nexts count
    → (k : ℕ) → k < count → number_of (words_of text places count) (word_of text places k) ≡ some k
unfolding used_twice
gathered_number {text} {from} {burst} {places} {heads} {nexts} {count} g k h =
    let once : repeated [] (labels (toks text from)) ≡ none = repeated_fewer [] (burst ∷ []) (labels (toks text from)) g.once in
    own_number text places count k (subst Different (sym g.words) (different_more [] (labels (toks text from)) tt once)) h
