-- A head by its word: one token is taken, and the entry of its word is read behind it.
use Prim.Native.Nat.{ℕ}
use Prim.Native.String.{String}
use mathlib.Core.Path.{◌≡◌, refl, sym, ap, ◌∙◌, subst}
use mathlib.Core.Bool.{Bool, true, false, not}
use mathlib.Core.List.{List, [], ◌∷◌}
use Rattle.tokens.specs.Refusals.{not_here}
use Rattle.tokens.specs.Tokens.{Tok}
use Rattle.tokens.specs.Written.{bytes, same}
use Rattle.meaning.specs.Reader.{Reader, after, ◌>>=◌, give, refuse_if, any, one_of, choose}
use Rattle.words.specs.Cursor.{ahead, Goes, Checked}
use Rattle.words.specs.declared.Cursor.{Cursor}
use Rattle.words.proofs.Flow.{given, then, checked, refused_by}
use Rattle.timing.specs.Makes.{Makes}
use Rattle.timing.proofs.Making.{made, makes_then}

-- what the code's test of the bytes says of the word
pub word_told : {u w : List ℕ} (v : String) {b z : Bool} → u ≡ w → b ≡ same u (bytes v) → b ≡ z → same w (bytes v) ≡ z
word_told v e f g = ap (λ (l : List ℕ). same l (bytes v)) (sym e) ∙ sym f ∙ g

abbrev picked : {A : Type 0} → Reader A → Reader A → Bool → Reader A
picked m k b ts = elim b [ true ↦ m ts | false ↦ k ts ]

module _ {A : Type 0} {text : List ℕ} {c r : Cursor} {P : A → Type 0} where
  pub by_word : {d : Cursor} (xs : List (String × (ℕ → Reader A))) → Goes text c any d (ahead text c) → Makes text d (one_of xs (ahead text c)) r P
      → Makes text c (choose xs) r P
  unfolding choose
  by_word xs g m = makes_then (one_of xs) g m

  module _ (v : String) (k : ℕ → Reader A) (xs : List (String × (ℕ → Reader A))) (t : Tok) where
    -- it is the first entry's word
    pub this_word : same t.word (bytes v) ≡ true → Makes text c (k t.at) r P → Makes text c (one_of ((v, k) ∷ xs) t) r P
    unfolding one_of
    this_word e m = subst (λ (b : Bool). Makes text c (picked (k t.at) (one_of xs t) b) r P) (sym e) m

    -- it is not
    pub other_word : same t.word (bytes v) ≡ false → Makes text c (one_of xs t) r P → Makes text c (one_of ((v, k) ∷ xs) t) r P
    unfolding one_of
    other_word e m = subst (λ (b : Bool). Makes text c (picked (k t.at) (one_of xs t) b) r P) (sym e) m

  -- the last entry reads no more; any other word is refused
  pub last_word : {b : Bool} (v : String) (a : A) (t : Tok) → b ≡ same t.word (bytes v) → Checked c (not b) not_here t.at r → P a
      → Makes text c (one_of ((v, λ p. give a) ∷ []) t) r P
  unfolding one_of refuse_if give after ◌>>=◌
  last_word {b} v a t e h p = by b e h
    where
      by : (b : Bool) → b ≡ same t.word (bytes v) → Checked c (not b) not_here t.at r → Makes text c (one_of ((v, λ p. give a) ∷ []) t) r P
      by true e h = this_word v (λ p. give a) [] t (sym e) (made (then (λ u. give a) (checked {q = false} h refl refl) given) (λ live. p))
      by false e h = other_word v (λ p. give a) [] t (sym e) (made {a = a} (refused_by h refl) (λ live. p))
